-- WHAT A SCRIPT DOES on the machine of locks: the words, the lists at home, and one view for each backend, with the call that it is in.
use Rattle.std.specs.Prelude.{ℕ, ◌-◌, ◌++◌, ◌||◌, nat_lt, Bool, false, cond, List, [], ◌∷◌, length, drop, map, slice_index, slice_index_or, slice_set, codes, ◌==◌, Option, None, Some, option_map, option_and_then, if◌then◌else◌}
use Rattle.std.specs.List.{range_with_len}
use Rattle.std.specs.Str.{bytes_eq}
use mathlib.Core.Option as maybe
use Rattle.decimal_word.specs.Numbers.{number_of}
use Rattle.lw_core.specs.declared.step.LwStep.{LwStep}
use Rattle.lw_core.specs.declared.view.Size.{Size}
use Rattle.lw_core.specs.declared.view.View.{View}
use Rattle.lw_core.specs.declared.view.Waiter.{Waiter}
use Rattle.seat_roster.specs.Totals.{total}
use Rattle.lw_core.specs.Words.{Waiters, word_count}
use Rattle.lw_core.specs.Machine.{LwState, Place, as_waiters, becomes, fresh, left_at, lock_number, mode_in, next, sends_home, takes_list, word_of}
use Rattle.lw_core.specs.Stances.{has_list, stance_of}
use Rattle.lock_script.specs.declared.locks.Ask.{Ask}
use Rattle.lock_script.specs.declared.locks.Heard.{Heard}
use Rattle.lock_script.specs.declared.locks.Heard.TheVariants as heard
use Rattle.script_play.specs.Lines.{Numbered, first_word, after_word}
use Rattle.script_play.specs.Answers.{opening_moment}
use Rattle.script_play.specs.Play.{Outcome, played, silent}
use Rattle.script_play.specs.Texts.{texts_of}
use Rattle.lock_script.specs.Locks.{answer, answer_line, ask_lock, ask_of, changed_word, ended, heard_after, list_text, may_begin, mode_held, opened, step_at, step_line, still}

-- a backend: what its seat knows, the call that it is in, whether the sleep of that call ended, and what the call heard last
pub record Seat : Type 0 where
  pub view : View
  pub ask : Option Ask
  pub waited : Bool
  pub heard : Heard

-- a script in the middle, with the states that were passed, from the opening on. A list that is in hand isn't at home: there is none then
pub record Script : Type 0 where
  pub size : Size
  pub words : List ℕ
  pub homes : List (List Waiter)
  pub seats : List Seat
  pub passed : List LwState

-- a lock's slot has its list where no seat has that in hand, and else nothing
abbrev pub slot_of : List (List Waiter) → List View → ℕ → maybe.Option Waiters
slot_of homes views l = cond (total (has_list l) (map stance_of views) == 0) (maybe.some (as_waiters (slice_index_or homes l []))) maybe.none

abbrev pub slots_of : List (List Waiter) → List View → List (maybe.Option Waiters)
slots_of homes views = map (slot_of homes views) (range_with_len 0 (length homes))

abbrev pub views_of : List Seat → List View
views_of seats = map (λ x. x.view) seats

abbrev pub state_of : List ℕ → List (List Waiter) → List Seat → LwState
state_of words homes seats = record { words = words; homes = slots_of homes (views_of seats); views = views_of seats }

abbrev pub nobody : Seat
nobody = record { view = fresh None; ask = None; waited = false; heard = heard.Nothing }

abbrev pub seat_at : Script → ℕ → Seat
seat_at s p = slice_index_or s.seats p nobody

-- THE OPENING. A table whose backends are all drawn, each in no call
abbrev pub first_words : Size → List ℕ
first_words z = map (λ i. cond (i == 0) z.procs (opened z i)) (range_with_len 0 (word_count z))

abbrev pub first_view : Size → ℕ → View
first_view z p = record (fresh (Some p)) { drawn = cond (p == 0) (z.procs - 1) 0 }

abbrev pub first_homes : Size → List (List Waiter)
first_homes z = map (λ _. []) (range_with_len 0 z.locks)

abbrev pub first_seats : Size → List Seat
first_seats z = map (λ p. record { view = first_view z p; ask = None; waited = false; heard = heard.Nothing }) (range_with_len 0 z.procs)

abbrev pub opening_script : Size → Script
opening_script z = record { size = z; words = first_words z; homes = first_homes z; seats = first_seats z; passed = state_of (first_words z) (first_homes z) (first_seats z) ∷ [] }

-- A CALL begins
abbrev pub begun : Script → ℕ → Seat → Option Ask → Ask → Option Script
begun s p x (Some other) a = None
begun s p x None a = if may_begin a (mode_in (ask_lock a) x.view) x.view.pokes then Some (record s { seats = slice_set s.seats p (record { view = x.view; ask = Some a; waited = false; heard = heard.Nothing }) }) else None

abbrev pub begins : Script → ℕ → List ℕ → Option Script
begins s p text = if nat_lt p s.size.procs then option_and_then (begun s p (seat_at s p) (seat_at s p).ask) (ask_of s.size text) else None

-- A STEP is made: of the kind that the place names, on its word, as the machine says. The list of its lock is taken in hand, sent home, or stays
abbrev pub home_after : LwStep → ℕ → Place → ℕ → List Waiter → List Waiter
home_after k n place p home = cond (takes_list k n) [] (cond (sends_home k n) (left_at place p) home)

abbrev pub went : LwStep → ℕ → List Waiter → Seat → Seat
went k n home x = record {
  view = next k x.view n home;
  ask = still (next k x.view n home).place x.ask;
  waited = nat_lt x.view.waits (next k x.view n home).waits || x.waited;
  heard = heard_after k n x.heard;
}

abbrev pub told : Size → ℕ → Ask → LwStep → ℕ → Seat → List ℕ
told z p a k n y = step_line z p k n (word_of z p k) (becomes k n) ++ ended y.ask (answer_line p (answer a n (mode_in (ask_lock a) y.view) y.waited y.heard))

abbrev pub moved : Script → List ℕ → List (List Waiter) → List Seat → Script
moved s words homes seats = record { size = s.size; words = words; homes = homes; seats = seats; passed = s.passed ++ state_of words homes seats ∷ [] }

unfoldable pub turn : Script → ℕ → Seat → Ask → Script × List ℕ
turn s p x a =
    let k = step_at p a (mode_held (mode_in (ask_lock a) x.view)) x.view.place in
    let n = slice_index s.words (word_of s.size p k) in
    let home = slice_index_or s.homes (lock_number k) [] in
    let y = went k n home x in
    (moved s (slice_set s.words (word_of s.size p k) (becomes k n)) (slice_set s.homes (lock_number k) (home_after k n x.view.place p home)) (slice_set s.seats p y), told s.size p a k n y)

abbrev pub steps : Script → ℕ → Option (Script × List ℕ)
steps s p = if nat_lt p s.size.procs then option_map (turn s p (seat_at s p)) (seat_at s p).ask else None

-- AT THE END each word that differs from its opening is printed, and each list at home that isn't empty
abbrev pub ends : Script → List ℕ
ends s = codes "final\n" ++ texts_of (changed_word s.size) (drop 1 s.words) 1 ++ texts_of list_text s.homes 0

-- A SCRIPT of these lines, those after the first
abbrev pub lock_play : Size → List Numbered → Outcome Script
lock_play z rest = played (silent begins) steps (opening_moment (opening_script z)) rest

-- THE FIRST LINE, `lock PROCS LOCKS`
abbrev pub size_of : List ℕ → List ℕ → Option Size
size_of procs locks = option_and_then (λ p. option_map (λ l. record { locks = l; procs = p }) (number_of 1 200 locks)) (number_of 1 64 procs)

abbrev pub lock_header : List ℕ → Option Size
lock_header line = if bytes_eq (first_word line) (codes "lock") then option_and_then (λ more. option_and_then (size_of (first_word more)) (after_word more)) (after_word line) else None
