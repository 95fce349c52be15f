-- Each list at home is what the steps of the seats made of it.
use Rattle.std.specs.Prelude.{◌≡◌, ℕ, suc, ◌<◌, ◌==◌, cond, List, [], ◌∷◌, map}
use mathlib.Core.Option as maybe
use lib.ListN.{get_elem?}
use Rattle.lw_core.specs.declared.step.LwStep.{LwStep}
use Rattle.lw_core.specs.declared.view.Made.{Made}
use Rattle.lw_core.specs.declared.view.Size.{Size}
use Rattle.lw_core.specs.declared.view.Waiter.{Waiter}
use Rattle.seat_roster.specs.WordsAreMade.{Effect, AreMade}
use Rattle.lw_core.specs.Words.{Waiters}
use Rattle.lw_core.specs.WaitLists.{same_want}
use Rattle.lw_core.specs.Machine.{lock_number, takes_list, sends_home}

-- 1 where the two lists are the same: the same backends in the same order, each with the same want
abbrev pub is_same : List Waiter → List Waiter → ℕ
is_same [] [] = 1
is_same (u ∷ us) (w ∷ ws) = cond (u.proc == w.proc) (cond (same_want u.want w.want) (is_same us ws) 0) 0
is_same us ws = 0

-- 1 where this list is at home
abbrev pub is_home : List Waiter → maybe.Option Waiters → ℕ
is_home list maybe.none = 0
is_home list (maybe.some ws) = is_same list ws.items

-- the slots are counted from 1: a step that takes and sends no list counts for 0
abbrev pub slot_used : LwStep → ℕ → ℕ
slot_used k n = cond (takes_list k n) (suc (lock_number k)) (cond (sends_home k n) (suc (lock_number k)) 0)

-- the step took this list in hand, or sent it home
abbrev pub finds : List Waiter → Made → ℕ
finds list m = cond (takes_list m.step m.found) (is_same list m.list) 0

abbrev pub leaves : List Waiter → Made → ℕ
leaves list m = cond (sends_home m.step m.found) (is_same list m.list) 0

abbrev pub moves : List Waiter → Effect Made
moves list = record { word = λ own m. slot_used m.step m.found; found = finds list; left = leaves list }

-- for each slot
abbrev pub at_homes : List Waiter → List (maybe.Option Waiters) → List ℕ
at_homes list homes = 0 ∷ map (is_home list) homes

-- Each list has gone home to a slot, with what lay there at the opening, as often as it was taken from there; and once more where it is there. At the opening nobody is on a list
abbrev pub ListsAreMade : Size → List (maybe.Option Waiters) → List (List (ℕ × Made)) → Type 0
ListsAreMade z homes seats = (list : List Waiter) → AreMade (moves list) (λ i. is_same list []) (suc z.locks) (at_homes list homes) seats

-- So the steps decide which list lies in a slot: each waiter on it, once, and in which order
abbrev pub StepsDecideLists : Size → Type 0
StepsDecideLists z = (homes others : List (maybe.Option Waiters)) (seats : List (List (ℕ × Made))) (l : ℕ) (list other : Waiters) → l < z.locks → ListsAreMade z homes seats → ListsAreMade z others seats
    → get_elem? homes l ≡ maybe.some (maybe.some list) → get_elem? others l ≡ maybe.some (maybe.some other) → list.items ≡ other.items
