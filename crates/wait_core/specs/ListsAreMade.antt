-- Each list at home is what the steps of the seats made of it.
use Rattle.std.specs.Prelude.{ℕ, suc, ◌==◌, cond, List, [], ◌∷◌, map}
use mathlib.Core.Option as maybe
use Rattle.wait_core.specs.declared.step.WaitStep.{WaitStep}
use Rattle.wait_core.specs.declared.step.WaitStep.TheVariants.{Take, Free}
use Rattle.wait_core.specs.declared.view.Kept.{Kept}
use Rattle.wait_core.specs.declared.view.Made.{Made}
use Rattle.wait_core.specs.declared.view.Size.{Size}
use Rattle.seat_roster.specs.WordsAreMade.{Effect, AreMade}
use Rattle.wait_core.specs.Words.{slot_of, slots_in}
use Rattle.wait_core.specs.Seating.{Doings}
use Rattle.wait_core.specs.Stances.{Homes}
use Rattle.wait_core.specs.WordsAreMade.{all_steps}

-- 1 where the two lists are the same
abbrev pub is_same : List ℕ → List ℕ → ℕ
is_same [] [] = 1
is_same (x ∷ xs) (y ∷ ys) = cond (x == y) (is_same xs ys) 0
is_same xs ys = 0

-- 1 where this list is at home
abbrev pub is_home : List ℕ → maybe.Option Kept → ℕ
is_home list maybe.none = 0
is_home list (maybe.some k) = is_same list k.list.items

-- the slots are counted from 1: a step that takes or frees none counts for 0
abbrev pub slot_used : WaitStep → ℕ → ℕ
slot_used (Take x begins) n = cond (n == 0) (suc (slot_of x)) 0
slot_used (Free x target) n = suc (slot_of x)
slot_used k n = 0

-- the step found this list, or left it
abbrev pub finds : List ℕ → WaitStep → ℕ → List ℕ → ℕ
finds list (Take x begins) n found = cond (n == 0) (is_same list found) 0
finds list k n found = 0

abbrev pub leaves : List ℕ → WaitStep → List ℕ → ℕ
leaves list (Free x target) left = is_same list left
leaves list k left = 0

abbrev pub moves : List ℕ → Effect Made
moves list = record { word = λ own m. slot_used m.step m.found; found = λ m. finds list m.step m.found m.list; left = λ m. leaves list m.step m.list }

-- for each slot
abbrev pub at_homes : List ℕ → Homes → List ℕ
at_homes list homes = 0 ∷ map (is_home list) homes

-- Each list has gone home to a slot, with what stood there at the opening, as often as it was found there; and once more where it is there. At the opening nobody is on a list
abbrev pub ListsAreMade : Size → Homes → List Doings → Type 0
ListsAreMade z homes seats = (list : List ℕ) → AreMade (moves list) (λ i. is_same list []) (suc (slots_in z)) (at_homes list homes) (map all_steps seats)
