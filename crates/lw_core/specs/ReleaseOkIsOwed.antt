-- Where RELEASE_OK is clear somebody will set it.
use Rattle.std.specs.Prelude.{◌≡◌, ℕ, List, Some}
use mathlib.Core.Option as maybe
use lib.ListN.{get_elem?}
use Rattle.lw_core.specs.Words.{Waiters, release_ok, has_flag}
use Rattle.lw_core.specs.Stances.{Stance, on_lists}

-- a backend that queued for the lock l was taken off its list, and has still to set its RELEASE_OK
pub record Answers (l : ℕ) (homes : List (maybe.Option Waiters)) (seats : List Stance) : Type 0 where
  pub id : ℕ
  pub seat : Stance
  pub proc : ℕ
  pub at : get_elem? seats id ≡ maybe.some seat
  pub own : seat.own ≡ Some proc
  pub due : seat.due ≡ Some l
  pub off : on_lists proc homes seats ≡ 0

abbrev pub ReleaseOkIsOwed : ℕ → ℕ → List (maybe.Option Waiters) → List Stance → Type 0
ReleaseOkIsOwed l word homes seats = has_flag release_ok word ≡ 0 → Answers l homes seats
