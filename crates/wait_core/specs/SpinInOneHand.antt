-- A spin word is 1 exactly where one seat has in hand what it guards.
use Rattle.std.specs.Prelude.{◌≡◌, ℕ, List}
use mathlib.Core.Option as maybe
use Rattle.wait_core.specs.declared.view.Kept.{Kept}
use Rattle.seat_roster.specs.Totals.{total}
use Rattle.wait_core.specs.Stances.{Stance, has_list}

-- Of the slot x, with its spin word: no two seats have it in hand, one has it exactly where the word is 1, and where the word is 0 it is at home
pub record SpinInOneHand (x word : ℕ) (home : maybe.Option (maybe.Option Kept)) (seats : List Stance) : Type 0 where
  pub one : word ≡ total (has_list x) seats
  pub out : word ≡ 1 → home ≡ maybe.some maybe.none
  pub at_home : word ≡ 0 → (k : Kept) × (home ≡ maybe.some (maybe.some k))
