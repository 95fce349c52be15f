-- Each word of the machine is what the steps of the seats made of it.
use Rattle.std.specs.Prelude.{ℕ, ◌++◌, List, map}
use Rattle.wait_core.specs.declared.view.Inherited.{Inherited}
use Rattle.wait_core.specs.declared.view.Made.{Made}
use Rattle.wait_core.specs.declared.view.Size.{Size}
use Rattle.seat_roster.specs.WordsAreMade.{Effect, signed, AreMade}
use Rattle.wait_core.specs.Words.{client_base}
use Rattle.wait_core.specs.Machine.{number_of, word_of, becomes}
use Rattle.wait_core.specs.Seating.{Doings}

-- what a step did
abbrev pub effect : Size → Effect Made
effect z = record { word = λ own m. word_of z own m.step; found = λ m. m.found; left = λ m. becomes m.step m.found }

-- the steps of a seat and those that it took over, each with the number of the backend that made it
abbrev pub sign : Inherited → ℕ × Made
sign x = (x.by, x.made)

abbrev pub all_steps : Doings → List (ℕ × Made)
all_steps v = signed (number_of v.own) v.steps ++ map sign v.inherited

-- the words open at 0
abbrev pub WordsAreMade : Size → List ℕ → List Doings → Type 0
WordsAreMade z words seats = AreMade (effect z) (λ i. 0) (client_base z) words (map all_steps seats)
