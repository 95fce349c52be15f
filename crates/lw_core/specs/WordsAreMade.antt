-- Each word of the table is what the steps of the seats made of it.
use Rattle.std.specs.Prelude.{ℕ, ◌%◌, ◌==◌, nat_lt, cond, List, ◌++◌}
use Rattle.seat_roster.specs.WordsAreMade.{Effect, signed, AreMade}
use Rattle.lw_core.specs.declared.view.Made.{Made}
use Rattle.lw_core.specs.declared.view.Size.{Size}
use Rattle.lw_core.specs.declared.view.View.{View}
use Rattle.lw_core.specs.Words.{state_at, release_ok, word_count}
use Rattle.lw_core.specs.Machine.{number_of, word_of, becomes}

-- what a step did
abbrev pub effect : Size → Effect Made
effect z = record { word = λ own m. word_of z own m.step; found = λ m. m.found; left = λ m. becomes m.step m.found }

-- the steps of a seat and those that it took over, each with the number of the backend that made it
abbrev pub all_steps : View → List (ℕ × Made)
all_steps v = signed (number_of v.own) v.steps ++ v.inherited

-- what a word but the first is in a new table: a state word has RELEASE_OK alone, and all else is 0
abbrev pub opened : Size → ℕ → ℕ
opened z i = cond (nat_lt i (state_at z.locks)) (cond (i % 6 == 1) release_ok 0) 0

abbrev pub WordsAreMade : Size → List ℕ → List (List (ℕ × Made)) → Type 0
WordsAreMade z words seats = AreMade (effect z) (opened z) (word_count z) words seats
