-- LOCKED is set exactly where one seat has the lock's list in hand.
use Rattle.std.specs.Prelude.{◌≡◌, ℕ, ◌<◌, List, Some}
use mathlib.Core.Option as maybe
use lib.ListN.{get_elem?}
use Rattle.seat_roster.specs.Totals.{total}
use Rattle.lw_core.specs.Words.{Waiters, locked, has_flag}
use Rattle.lw_core.specs.Stances.{Stance, Hand, has_list}

-- Of the lock l, with its state word and its slot: no two seats have its list in hand, one has it exactly where LOCKED is set, and where it isn't the list is at home
pub record ListInOneHand (l word : ℕ) (home : maybe.Option (maybe.Option Waiters)) (seats : List Stance) : Type 0 where
  pub one : has_flag locked word ≡ total (has_list l) seats
  pub out : has_flag locked word ≡ 1 → home ≡ maybe.some maybe.none
  pub at_home : has_flag locked word ≡ 0 → (list : Waiters) × (home ≡ maybe.some (maybe.some list))

-- the locks whose lists are in hand are the table's
abbrev pub HandsInside : ℕ → List Stance → Type 0
HandsInside locks seats = (id : ℕ) (v : Stance) (h : Hand) → get_elem? seats id ≡ maybe.some v → v.hand ≡ Some h → h.lock < locks
