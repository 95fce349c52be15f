-- A sketch of a wait machine goes on as the script that it is of.
use Rattle.std.proofs.Common.{◌≡◌, ◌∙◌, ℕ, nat_lt, Bool, true, false, cond, List, [], ◌∷◌, map, set, Option, None, Some, refl, sym, ap}
use Rattle.std.specs.Prelude.{codes, option_map, option_and_then, slice_index}
use Rattle.std.specs.List.{range_with_len}
use Rattle.std.proofs.Math.ListN.{get_or-map}
use Rattle.wait_core.specs.declared.step.Call.{Call}
use Rattle.wait_core.specs.declared.step.WaitStep.{WaitStep}
use Rattle.wait_core.specs.declared.view.Kept.{Kept}
use Rattle.wait_core.specs.Machine.{becomes, slot_number, word_of}
use Rattle.script_play.specs.Lines.{Numbered}
use Rattle.script_play.specs.Answers.{answer_by, opening_moment}
use Rattle.script_play.specs.Play.{played}
use Rattle.script_play.proofs.Likeness.{played_alike}
use Rattle.script_play.proofs.ListFacts.{map-set, set-same}
use Rattle.wait_script.specs.declared.waits.Opening.{Opening}
use Rattle.wait_script.specs.declared.waits.Told.TheVariants as told
use Rattle.wait_script.specs.Waits.{answer_line, ask_of, has_step, may_begin, step_at}
use Rattle.wait_script.specs.WaitScripts.{Script, Seat, home_after, home_at, nobody, own_of, seat_at, wait_play}
use Rattle.wait_script.specs.WaitScripts as script
use Rattle.wait_script.specs.WaitSketch.{Sketch, Stand, begun_with, idle, stand_at, started, with_stand}
use Rattle.wait_script.specs.WaitSketch as sketch

abbrev pub stand_of : Seat → Stand
stand_of x = record { own = own_of x; ask = x.ask; target = x.view.target; place = x.view.place; attached = x.view.attached; told = x.told }

abbrev pub sketch_of : Script → Sketch
sketch_of s = record { opening = s.opening; words = s.words; homes = s.homes; stands = map stand_of s.seats }

stand_is : (s : Script) (p : ℕ) → stand_at (sketch_of s) p ≡ stand_of (seat_at s p)
stand_is s p = get_or-map stand_of s.seats p nobody

abbrev carried : Script × List ℕ → Sketch × List ℕ
carried t = (sketch_of t.0, t.1)

begin_case : (s : Script) (p : ℕ) (ask : Option Call) (a : Call) → option_map (λ t. let r : Sketch × List ℕ = (with_stand (sketch_of s) p t.0, t.1) in r) (started (stand_of (seat_at s p)) ask a) ≡ option_map carried (script.begun s p (seat_at s p) ask a)
begin_case s p (Some other) a = refl
begin_case s p None a = by_case (may_begin a x.view.attached) (has_step a x.view.target)
  where
    x : Seat
    x = seat_at s p

    by_case : (b h : Bool) → option_map (λ t. let r : Sketch × List ℕ = (with_stand (sketch_of s) p t.0, t.1) in r) (cond b (Some (sketch.entered (stand_of x) a h)) None) ≡ option_map carried (cond b (Some (script.entered s p x a h)) None)
    by_case false h = refl
    by_case true true = ap (λ (bs : List Stand). Some (let t : Sketch = record { opening = s.opening; words = s.words; homes = s.homes; stands = bs } in let r : Sketch × List ℕ = (t, []) in r)) (sym (map-set stand_of s.seats p (record { view = x.view; ask = Some a; told = told.Nothing })))
    by_case true false = ap (λ (bs : List Stand). Some (let t : Sketch = record { opening = s.opening; words = s.words; homes = s.homes; stands = bs } in let r : Sketch × List ℕ = (t, answer_line (own_of x) (codes "false")) in r))
        (sym (map-set stand_of s.seats p x) ∙ ap (λ (xs : List Seat). map stand_of xs) (set-same nobody s.seats p))

pub begin_alike : (s : Script) (p : ℕ) (text : List ℕ) → sketch.begins (sketch_of s) p text ≡ option_map carried (script.begins s p text)
begin_alike s p text = rw (stand_is s p) (by_case (nat_lt p s.opening.size.procs) (ask_of s.opening.size text))
  where
    by_case : (b : Bool) (o : Option Call) → cond b (option_and_then (begun_with (sketch_of s) p (stand_of (seat_at s p))) o) None ≡ option_map carried (cond b (option_and_then (script.begun s p (seat_at s p) (seat_at s p).ask) o) None)
    by_case false o = refl
    by_case true None = refl
    by_case true (Some a) = begin_case s p (seat_at s p).ask a

turn_alike : (s : Script) (p : ℕ) (x : Seat) (a : Call) → sketch.turn (sketch_of s) p (stand_of x) a ≡ carried (script.turn s p x a)
unfolding sketch.turn script.turn
turn_alike s p x a =
    let own : ℕ = own_of x in
    let k : WaitStep = step_at own a x.view.target x.view.place in
    let n : ℕ = slice_index s.words (word_of s.opening.size own k) in
    let home : Kept = home_at s.homes (slot_number k) in
    let y : Seat = script.went s.opening.size k n home x in
    let words : List ℕ = set s.words (word_of s.opening.size own k) (becomes k n) in
    let homes : List Kept = set s.homes (slot_number k) (home_after k n own x.view.place home) in
    let with_stands : List Stand → Sketch × List ℕ = λ bs. (let t : Sketch = record { opening = s.opening; words = words; homes = homes; stands = bs } in (t, script.shown s.opening.size own a k n y)) in
    ap with_stands (sym (map-set stand_of s.seats p y))

pub step_alike : (s : Script) (p : ℕ) → sketch.steps (sketch_of s) p ≡ option_map carried (script.steps s p)
step_alike s p = rw (stand_is s p) (by_case (nat_lt p s.opening.size.procs) (seat_at s p).ask)
  where
    by_case : (b : Bool) (o : Option Call) → cond b (option_map (sketch.turn (sketch_of s) p (stand_of (seat_at s p))) o) None ≡ option_map carried (cond b (option_map (script.turn s p (seat_at s p)) o) None)
    by_case false o = refl
    by_case true None = refl
    by_case true (Some a) = ap Some (turn_alike s p (seat_at s p) a)

-- the opening of the one is that of the other
map-map-idle : (f : ℕ → Seat) (xs : List ℕ) → ((p : ℕ) → stand_of (f p) ≡ idle p) → map idle xs ≡ map stand_of (map f xs)
map-map-idle f [] each = refl
map-map-idle f (x ∷ xs) each = rw (each x, ← map-map-idle f xs each) refl

pub opening_alike : (o : Opening) → sketch.opening_sketch o ≡ sketch_of (script.opening_script o)
opening_alike o = ap (λ (bs : List Stand). let t : Sketch = record { opening = o; words = script.first_words o.size; homes = script.first_homes o; stands = bs } in t)
    (map-map-idle (λ p. record { view = script.first_view o.size p; ask = None; told = told.Nothing }) (range_with_len 0 o.size.procs) (λ _. refl))

-- so a sketch plays a script as the machine does
pub wait_sketch_plays : (o : Opening) (rest : List Numbered)
    → answer_by sketch.ends (played sketch.begins sketch.steps (opening_moment (sketch.opening_sketch o)) rest) ≡ answer_by script.ends (wait_play o rest)
wait_sketch_plays o rest = rw (opening_alike o)
    (played_alike sketch_of script.begins script.steps sketch.begins sketch.steps begin_alike step_alike script.ends sketch.ends (λ s. refl) (opening_moment (script.opening_script o)) rest)
