-- A backend is on at most one list, once, and is then in a round for that lock with that want.
use Rattle.std.specs.Prelude.{◌≡◌, ℕ, ◌+◌, ◌<◌, ◌≤◌, Bool, true, false, List, Some}
use mathlib.Core.Option as maybe
use lib.ListN.{get_elem?}
use Rattle.seat_roster.specs.Totals.{total}
use Rattle.lw_core.specs.declared.view.Want.{Want}
use Rattle.lw_core.specs.Words.{Waiters}
use Rattle.lw_core.specs.WaitLists.{times_on, times_with, home_list, IsUntilFreeFirst}
use Rattle.lw_core.specs.Stances.{Stance, hand_list, hand_with, on_lists, in_round, may_be_listed, unlisted_times}

-- who is on a list, or was taken off one and is still marked, is in a round: so it is on one list at most, once, and isn't marked once it was taken off
abbrev pub OncePerRound : List (maybe.Option Waiters) → List Stance → Type 0
OncePerRound homes seats = (p : ℕ) → on_lists p homes seats + total (unlisted_times p) seats ≤ total (in_round p) seats

-- who is on the list of l with a want is in a round for that lock and that want
abbrev pub ListedForRound : ℕ → List (maybe.Option Waiters) → List Stance → Type 0
ListedForRound l homes seats = (w : Want) (p : ℕ) → times_with p w (home_list homes l) + total (λ v. hand_with l p w v.hand) seats ≤ total (may_be_listed l w p) seats

-- the seat found rightly whether it is still on the list in hand
abbrev pub LeavesRightly : Stance → Type 0
LeavesRightly v = (here : Bool) (p : ℕ) → v.leaving ≡ Some here → v.own ≡ Some p → (here ≡ true → times_on p (hand_list v.hand) ≡ 1) × (here ≡ false → times_on p (hand_list v.hand) ≡ 0)

pub record ListedOnce (locks : ℕ) (homes : List (maybe.Option Waiters)) (seats : List Stance) : Type 0 where
  pub once : OncePerRound homes seats
  pub for_round : (l : ℕ) → l < locks → ListedForRound l homes seats
  pub leaves : (id : ℕ) (v : Stance) → get_elem? seats id ≡ maybe.some v → LeavesRightly v
  pub ordered_home : (l : ℕ) → IsUntilFreeFirst (home_list homes l)
  pub ordered_hand : (id : ℕ) (v : Stance) → get_elem? seats id ≡ maybe.some v → IsUntilFreeFirst (hand_list v.hand)
