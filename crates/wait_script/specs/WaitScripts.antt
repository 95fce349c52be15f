-- WHAT A SCRIPT DOES on the machine of waits: the words, what is at home in the slots, and one view for each backend, with the call that it is in; and the machine's own states that it passes.
use Rattle.std.specs.Prelude.{ℕ, ◌-◌, ◌++◌, ◌==◌, nat_lt, Bool, true, false, cond, List, [], ◌∷◌, drop, take, min, map, slice_index, slice_index_or, slice_set, codes, Option, None, Some, option_map, option_and_then, if◌then◌else◌}
use Rattle.std.specs.List.{range_with_len}
use Rattle.std.specs.Str.{bytes_eq}
use mathlib.Core.Option as maybe
use Rattle.decimal_word.specs.Numbers.{number_of}
use Rattle.wait_core.specs.declared.step.Call.{Call}
use Rattle.wait_core.specs.declared.step.WaitStep.{WaitStep}
use Rattle.wait_core.specs.declared.step.WaitStep.TheVariants.{Take, Free}
use Rattle.wait_core.specs.declared.view.Kept.{Kept}
use Rattle.wait_core.specs.declared.view.Size.{Size}
use Rattle.wait_core.specs.declared.view.WaitView.{WaitView}
use Rattle.wait_core.specs.Words.{client_base, last_phase, most_conditions, slots_in, spin_at}
use Rattle.wait_core.specs.Slots.{opening_record}
use Rattle.wait_core.specs.Seating.{fresh}
use Rattle.wait_core.specs.Machine.{Place, WaitState, as_kept, becomes, left_at, next_with, number_of as number_in, slot_number, word_of}
use Rattle.wait_script.specs.declared.waits.Opening.{Opening}
use Rattle.wait_script.specs.declared.waits.Told.{Told}
use Rattle.wait_script.specs.declared.waits.Told.TheVariants as told
use Rattle.wait_script.specs.Waits.{answer, answer_line, ask_of, changed_word, ended, has_step, list_text, may_begin, record_text, step_at, step_line, still, told_after}
use Rattle.script_play.specs.Lines.{Numbered, first_word, after_word}
use Rattle.script_play.specs.Answers.{opening_moment}
use Rattle.script_play.specs.Play.{Outcome, played}
use Rattle.script_play.specs.Texts.{texts_of}

-- a backend: what its seat knows, the call that it is in, and what that was told. The client of the barriers has no word and no view
pub record Seat : Type 0 where
  pub view : WaitView (Unit {0})
  pub ask : Option Call
  pub told : Told

-- a script in the middle, with the states that were passed, from the opening on. A list that is in hand isn't at home: there is none then. A record stays, as its holder found it
pub record Script : Type 0 where
  pub opening : Opening
  pub words : List ℕ
  pub homes : List Kept
  pub seats : List Seat
  pub passed : List (WaitState (Unit {0}))

-- THE MACHINE'S STATE. What is at home in the slots, in the order of their spin words: a slot is out where its word is taken
abbrev pub unless_taken : ℕ → Kept → maybe.Option Kept
unless_taken spin home = cond (spin == 0) (maybe.some home) maybe.none

-- there are as many words as slots; one that had no word would be at home
abbrev pub slots_of : List ℕ → List Kept → List (maybe.Option Kept)
slots_of spins [] = []
slots_of [] (home ∷ homes) = maybe.some home ∷ slots_of [] homes
slots_of (spin ∷ spins) (home ∷ homes) = unless_taken spin home ∷ slots_of spins homes

-- the spin words stand last
abbrev pub state_of : Size → List ℕ → List Kept → List Seat → WaitState (Unit {0})
state_of z words homes seats = record { words = words; homes = slots_of (drop (spin_at z 0) words) homes; views = map (λ x. x.view) seats }

abbrev pub nobody : Seat
nobody = record { view = fresh tt None; ask = None; told = told.Nothing }

abbrev pub seat_at : Script → ℕ → Seat
seat_at s p = slice_index_or s.seats p nobody

abbrev pub own_of : Seat → ℕ
own_of x = number_in x.view.own

abbrev pub nothing : Kept
nothing = left_at 0 []

abbrev pub home_at : List Kept → ℕ → Kept
home_at homes x = slice_index_or homes x nothing

-- THE OPENING. A table whose backends are all drawn, each in no call
abbrev pub first_words : Size → List ℕ
first_words z = map (λ i. cond (i == 0) z.procs 0) (range_with_len 0 (client_base z))

abbrev pub first_home : ℕ → Kept
first_home phase = as_kept [] (opening_record phase)

abbrev pub first_homes : Opening → List Kept
first_homes o = map (λ _. first_home o.phase) (range_with_len 0 (slots_in o.size))

abbrev pub first_view : Size → ℕ → WaitView (Unit {0})
first_view z p = record (fresh tt (Some p)) { drawn = cond (p == 0) (z.procs - 1) 0 }

abbrev pub first_seats : Size → List Seat
first_seats z = map (λ p. record { view = first_view z p; ask = None; told = told.Nothing }) (range_with_len 0 z.procs)

abbrev pub opening_state : Opening → WaitState (Unit {0})
opening_state o = state_of o.size (first_words o.size) (first_homes o) (first_seats o.size)

abbrev pub opening_script : Opening → Script
opening_script o = record { opening = o; words = first_words o.size; homes = first_homes o; seats = first_seats o.size; passed = opening_state o ∷ [] }

-- A CALL begins. One without a step ends at once
abbrev pub entered : Script → ℕ → Seat → Call → Bool → Script × List ℕ
entered s p x a true = (record s { seats = slice_set s.seats p (record { view = x.view; ask = Some a; told = told.Nothing }) }, [])
entered s p x a false = (s, answer_line (own_of x) (codes "false"))

abbrev pub begun : Script → ℕ → Seat → Option Call → Call → Option (Script × List ℕ)
begun s p x (Some other) a = None
begun s p x None a = if may_begin a x.view.attached then Some (entered s p x a (has_step a x.view.target)) else None

abbrev pub begins : Script → ℕ → List ℕ → Option (Script × List ℕ)
begins s p text = if nat_lt p s.opening.size.procs then option_and_then (begun s p (seat_at s p) (seat_at s p).ask) (ask_of s.opening.size text) else None

-- A STEP is made: of the kind that the place names, on its word, as the machine says. A list is taken in hand, what is in hand goes home, or all stays
abbrev pub home_after : WaitStep → ℕ → ℕ → Place → Kept → Kept
home_after (Take x begins) n p place home = cond (n == 0) (as_kept [] home.record) home
home_after (Free x target) n p place home = left_at p place
home_after k n p place home = home

abbrev pub went : Size → WaitStep → ℕ → Kept → Seat → Seat
went z k n home x = record {
  view = next_with z k x.view n home;
  ask = still (next_with z k x.view n home).place x.ask;
  told = told_after (own_of x) x.view.place x.told;
}

abbrev pub shown : Size → ℕ → Call → WaitStep → ℕ → Seat → List ℕ
shown z p a k n y = step_line z p k (word_of z p k) (becomes k n) ++ ended y.ask (answer_line p (answer a n y.told))

-- and the state after it was passed
abbrev pub moved : Script → List ℕ → List Kept → List Seat → Script
moved s words homes seats = record { opening = s.opening; words = words; homes = homes; seats = seats; passed = s.passed ++ state_of s.opening.size words homes seats ∷ [] }

unfoldable pub turn : Script → ℕ → Seat → Call → Script × List ℕ
turn s p x a =
    let own = own_of x in
    let k = step_at own a x.view.target x.view.place in
    let n = slice_index s.words (word_of s.opening.size own k) in
    let home = home_at s.homes (slot_number k) in
    let y = went s.opening.size k n home x in
    let words = slice_set s.words (word_of s.opening.size own k) (becomes k n) in
    let homes = slice_set s.homes (slot_number k) (home_after k n own x.view.place home) in
    (moved s words homes (slice_set s.seats p y), shown s.opening.size own a k n y)

abbrev pub steps : Script → ℕ → Option (Script × List ℕ)
steps s p = if nat_lt p s.opening.size.procs then option_map (turn s p (seat_at s p)) (seat_at s p).ask else None

-- AT THE END each word is printed that differs from its opening, each list at home that isn't empty, and each record that differs from its opening
abbrev pub ends_with : Opening → List ℕ → List Kept → List ℕ
ends_with o words homes = codes "final\n" ++ texts_of (changed_word o.size) (drop 1 words) 1 ++ texts_of list_text (take most_conditions homes) 0 ++ texts_of (record_text o.phase) (drop most_conditions homes) 0

abbrev pub ends : Script → List ℕ
ends s = ends_with s.opening s.words s.homes

-- A SCRIPT of these lines, those after the first
abbrev pub wait_play : Opening → List Numbered → Outcome Script
wait_play o rest = played begins steps (opening_moment (opening_script o)) rest

-- THE FIRST LINE, `wait PROCS CVS BARS` or `wait PROCS CVS BARS PHASE`, with at most as many barriers as conditions
abbrev pub phase_in : Option (List ℕ) → Option ℕ
phase_in None = Some 0
phase_in (Some word) = number_of 0 last_phase word

-- each takes what follows the words that were read
abbrev pub with_bars : ℕ → ℕ → List ℕ → Option Opening
with_bars p c text = option_and_then (λ b. option_map (λ ph. record { size = record { procs = p; cvs = c; bars = b }; phase = ph }) (phase_in (after_word text))) (number_of 1 (min c 72) (first_word text))

abbrev pub with_conditions : ℕ → List ℕ → Option Opening
with_conditions p text = option_and_then (λ c. option_and_then (with_bars p c) (after_word text)) (number_of 1 most_conditions (first_word text))

abbrev pub with_procs : List ℕ → Option Opening
with_procs text = option_and_then (λ p. option_and_then (with_conditions p) (after_word text)) (number_of 1 64 (first_word text))

abbrev pub wait_header : List ℕ → Option Opening
wait_header line = if bytes_eq (first_word line) (codes "wait") then option_and_then with_procs (after_word line) else None
