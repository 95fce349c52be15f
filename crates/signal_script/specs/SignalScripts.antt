-- WHAT A SCRIPT DOES on the machine of signals: the machine's own states, with the call that each backend is in.
use Rattle.std.specs.Prelude.{ℕ, ◌-◌, ◌++◌, ◌==◌, nat_lt, fold, cond, List, [], ◌∷◌, drop, map, slice_index, slice_index_or, slice_set, codes, Option, None, Some, option_map, option_and_then, if◌then◌else◌}
use Rattle.std.specs.List.{range_with_len}
use Rattle.std.specs.Str.{bytes_eq}
use Rattle.decimal_word.specs.Numbers.{number_of}
use Rattle.signal_core.specs.declared.view.About.{About}
use Rattle.signal_core.specs.declared.view.Emission.{Emission}
use Rattle.signal_core.specs.declared.view.SigView.{SigView}
use Rattle.signal_core.specs.declared.step.SigStep.{SigStep}
use Rattle.signal_core.specs.Words.{opened, word_count, worn}
use Rattle.signal_core.specs.Machine.{SigState, word_of, becomes, next}
use Rattle.signal_core.specs.Seating.{fresh}
use Rattle.signal_script.specs.declared.signals.Ask.{Ask}
use Rattle.script_play.specs.Lines.{Numbered, first_word, after_word}
use Rattle.script_play.specs.Answers.{opening_moment}
use Rattle.script_play.specs.Play.{Outcome, played, silent}
use Rattle.signal_script.specs.Signals.{answer, answer_line, ask_of, changed_words, ended, may_begin, step_at, step_line, still}

-- a backend: what its seat knows, and the call that it is in
pub record Seat : Type 0 where
  pub view : SigView
  pub ask : Option Ask

-- a script in the middle: the words, the seats by the numbers of their backends, and the states that were passed, from the opening on
pub record Script : Type 0 where
  pub about : About
  pub words : List ℕ
  pub seats : List Seat
  pub passed : List SigState

abbrev pub state_of : List ℕ → List Seat → SigState
state_of words seats = record { words = words; homes = []; views = map (λ x. x.view) seats }

abbrev pub nobody : Seat
nobody = record { view = fresh None; ask = None }

abbrev pub seat_at : Script → ℕ → Seat
seat_at s p = slice_index_or s.seats p nobody

-- THE OPENING. A table whose backends are all drawn, each in no call
abbrev pub first_words : About → List ℕ
first_words z = map (λ i. cond (i == 0) z.procs (opened z i)) (range_with_len 0 (word_count z))

abbrev pub first_view : About → ℕ → SigView
first_view z p = record (fresh (Some p)) { drawn = cond (p == 0) (z.procs - 1) 0 }

abbrev pub first_seats : About → List Seat
first_seats z = map (λ p. record { view = first_view z p; ask = None }) (range_with_len 0 z.procs)

abbrev pub opening_script : About → Script
opening_script z = record { about = z; words = first_words z; seats = first_seats z; passed = state_of (first_words z) (first_seats z) ∷ [] }

-- A CALL begins
abbrev pub begun : Script → ℕ → Seat → Option Ask → Ask → Option Script
begun s p x (Some other) a = None
begun s p x None a = if may_begin a x.view.slot then Some (record s { seats = slice_set s.seats p (record x { ask = Some a }) }) else None

abbrev pub begins : Script → ℕ → List ℕ → Option Script
begins s p call = if nat_lt p s.about.procs then option_and_then (begun s p (seat_at s p) (seat_at s p).ask) (ask_of call) else None

-- A STEP is made: of the kind that the place names, on its word, as the machine says
abbrev pub last_emitted : List Emission → ℕ
last_emitted emissions = fold (λ before e. e.generation) 0 emissions

abbrev pub went : About → SigStep → ℕ → Seat → Seat
went z k n x = record { view = next z k x.view n; ask = still (next z k x.view n).place x.ask }

abbrev pub told : ℕ → Ask → SigStep → ℕ → SigView → SigView → List ℕ
told p a k n v w = step_line p k (word_of p k) (becomes k n) ++ ended w.place (answer_line p (answer a v.place n w.slot (last_emitted w.emissions)))

abbrev pub moved : Script → List ℕ → List Seat → Script
moved s words seats = record { about = s.about; words = words; seats = seats; passed = s.passed ++ state_of words seats ∷ [] }

unfoldable pub turn : Script → ℕ → Seat → Ask → Script × List ℕ
turn s p x a =
    let k = step_at p a x.view.place in
    let n = slice_index s.words (word_of p k) in
    let y = went s.about k n x in
    (moved s (slice_set s.words (word_of p k) (becomes k n)) (slice_set s.seats p y), told p a k n x.view y.view)

abbrev pub steps : Script → ℕ → Option (Script × List ℕ)
steps s p = if nat_lt p s.about.procs then option_map (turn s p (seat_at s p)) (seat_at s p).ask else None

-- AT THE END each word that differs from its opening is printed
abbrev pub ends : Script → List ℕ
ends s = codes "final\n" ++ changed_words s.about (drop 1 s.words) 1

-- A SCRIPT of these lines, those after the first
abbrev pub signal_play : About → List Numbered → Outcome Script
signal_play z rest = played (silent begins) steps (opening_moment (opening_script z)) rest

-- THE FIRST LINE, `signal PROCS` or `signal PROCS GENERATION`
abbrev pub about_of : List ℕ → Option (List ℕ) → Option About
about_of procs None = option_map (λ p. record { procs = p; generation = 0 }) (number_of 1 64 procs)
about_of procs (Some generation) = option_and_then (λ p. option_map (λ g. record { procs = p; generation = g }) (number_of 0 worn generation)) (number_of 1 64 procs)

abbrev pub signal_header : List ℕ → Option About
signal_header line = if bytes_eq (first_word line) (codes "signal") then option_and_then (λ more. about_of (first_word more) (after_word more)) (after_word line) else None
