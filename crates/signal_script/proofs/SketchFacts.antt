-- A sketch goes on as the script that it is of.
use Rattle.std.proofs.Common.{◌≡◌, ◌∙◌, ℕ, ◌+◌, nat_lt, Bool, true, false, cond, List, [], ◌∷◌, map, set, Option, None, Some, refl, sym, ap}
use Rattle.std.specs.Prelude.{option_map, option_and_then, slice_index}
use Rattle.std.proofs.Math.ListN.{get_or-map}
use Rattle.std.proofs.lemmas.List.Sums.{fold-append}
use Rattle.signal_core.specs.declared.step.SigStep.{SigStep}
use Rattle.signal_core.specs.declared.step.SigStep.TheVariants.{Hload, Hadd, Mor, Mswap, Gstore, Gload, Pstore, Pload, Pend, Pswap}
use Rattle.signal_core.specs.declared.view.About.{About}
use Rattle.signal_core.specs.declared.view.Emission.{Emission}
use Rattle.signal_core.specs.declared.view.Frame.TheVariants.{Reading, Opening, Entering, Leaving, Posting, Numbering, Telling, Prodding, Comparing, Heading, Swapping, Taking, Keeping, Reminding}
use Rattle.signal_core.specs.Machine.{Place, word_of, becomes, emissions_after}
use Rattle.signal_script.specs.declared.signals.Ask.{Ask}
use Rattle.signal_script.specs.declared.signals.Backend.{Backend}
use Rattle.signal_script.specs.Signals.{ask_of, emitted_after, may_begin, step_at}
use Rattle.signal_script.specs.SignalScripts.{Script, Seat, last_emitted, nobody, seat_at, signal_play}
use Rattle.signal_script.specs.SignalScripts as script
use Rattle.signal_script.specs.SignalSketch.{Sketch, backend_at, begun_with, idle}
use Rattle.signal_script.specs.SignalSketch as sketch
use Rattle.std.specs.List.{range_with_len}
use Rattle.script_play.specs.Lines.{Numbered}
use Rattle.script_play.specs.Play.{played, silent}
use Rattle.script_play.specs.Answers.{answer_by, opening_moment}
use Rattle.script_play.proofs.Likeness.{played_alike}
use Rattle.script_play.proofs.PlayFacts.{silent-alike}
use Rattle.script_play.proofs.ListFacts.{map-set}

abbrev pub backend_of : Seat → Backend
backend_of x = record { ask = x.ask; place = x.view.place; slot = x.view.slot; emitted = last_emitted x.view.emissions }

abbrev pub sketch_of : Script → Sketch
sketch_of s = record { about = s.about; words = s.words; backends = map backend_of s.seats }

backend_is : (s : Script) (p : ℕ) → backend_at (sketch_of s) p ≡ backend_of (seat_at s p)
backend_is s p = get_or-map backend_of s.seats p nobody

-- the last emission's number is the one kept
emitted_alike : (k : SigStep) (n : ℕ) (place : Place) (es : List Emission) → last_emitted (emissions_after k n place es) ≡ emitted_after k place n (last_emitted es)
emitted_alike (Hload begins) n place es = refl
emitted_alike Hadd n None es = refl
emitted_alike Hadd n (Some Reading) es = refl
emitted_alike Hadd n (Some (Opening h)) es = refl
emitted_alike Hadd n (Some (Entering h)) es = refl
emitted_alike Hadd n (Some Leaving) es = refl
emitted_alike Hadd n (Some (Posting j x q)) es = refl
emitted_alike Hadd n (Some (Numbering j x)) es = fold-append (λ before e. e.generation) 0 es (record { kind = j; number = x; generation = n + 1 } ∷ [])
emitted_alike Hadd n (Some (Telling q)) es = refl
emitted_alike Hadd n (Some (Prodding q)) es = refl
emitted_alike Hadd n (Some Comparing) es = refl
emitted_alike Hadd n (Some (Heading g)) es = refl
emitted_alike Hadd n (Some (Swapping h)) es = refl
emitted_alike Hadd n (Some (Taking h found)) es = refl
emitted_alike Hadd n (Some (Keeping h found failed done)) es = refl
emitted_alike Hadd n (Some (Reminding h found failed j)) es = refl
emitted_alike (Mor q j failed) n place es = refl
emitted_alike (Mswap begins) n place es = refl
emitted_alike (Gstore g begins) n place es = refl
emitted_alike (Gload q begins) n place es = refl
emitted_alike (Pstore x) n place es = refl
emitted_alike (Pload q) n place es = refl
emitted_alike (Pend q) n place es = refl
emitted_alike (Pswap begins) n place es = refl

went_alike : (z : About) (k : SigStep) (n : ℕ) (x : Seat) → sketch.went z k n (backend_of x) ≡ backend_of (script.went z k n x)
went_alike z k n x =
    let e = emitted_alike k n x.view.place x.view.emissions in
    rw e refl

begin_case : (s : Script) (p : ℕ) (x : Seat) (ask : Option Ask) (a : Ask) → begun_with (sketch_of s) p (backend_of x) ask a ≡ option_map sketch_of (script.begun s p x ask a)
begin_case s p x (Some other) a = refl
begin_case s p x None a = by_case (may_begin a x.view.slot)
  where
    by_case : (b : Bool) → cond b (Some (let t : Sketch = record { about = s.about; words = s.words; backends = set (map backend_of s.seats) p (record (backend_of x) { ask = Some a }) } in t)) None
        ≡ option_map sketch_of (cond b (Some (record s { seats = set s.seats p (record x { ask = Some a }) })) None)
    by_case true = ap (λ (bs : List Backend). Some (let t : Sketch = record { about = s.about; words = s.words; backends = bs } in t)) (sym (map-set backend_of s.seats p (record x { ask = Some a })))
    by_case false = refl

pub begin_alike : (s : Script) (p : ℕ) (call : List ℕ) → sketch.begins (sketch_of s) p call ≡ option_map sketch_of (script.begins s p call)
begin_alike s p call = rw (backend_is s p) (by_case (nat_lt p s.about.procs) (ask_of call))
  where
    by_case : (b : Bool) (o : Option Ask) → cond b (option_and_then (begun_with (sketch_of s) p (backend_of (seat_at s p)) (seat_at s p).ask) o) None ≡ option_map sketch_of (cond b (option_and_then (script.begun s p (seat_at s p) (seat_at s p).ask) o) None)
    by_case false o = refl
    by_case true None = refl
    by_case true (Some a) = begin_case s p (seat_at s p) (seat_at s p).ask a

turn_alike : (s : Script) (p : ℕ) (x : Seat) (a : Ask) → sketch.turn (sketch_of s) p (backend_of x) a ≡ (let t = script.turn s p x a in (sketch_of t.0, t.1))
unfolding sketch.turn script.turn
turn_alike s p x a =
    let k = step_at p a x.view.place in
    let n = slice_index s.words (word_of p k) in
    let y = script.went s.about k n x in
    let words : List ℕ = set s.words (word_of p k) (becomes k n) in
    let with_backend : Backend → Sketch × List ℕ = λ c. (let t : Sketch = record { about = s.about; words = words; backends = set (map backend_of s.seats) p c } in (t, sketch.told p a k n (backend_of x) c)) in
    let with_backends : List Backend → Sketch × List ℕ = λ bs. (let t : Sketch = record { about = s.about; words = words; backends = bs } in (t, sketch.told p a k n (backend_of x) (backend_of y))) in
    ap with_backend (went_alike s.about k n x) ∙ ap with_backends (sym (map-set backend_of s.seats p y))

pub step_alike : (s : Script) (p : ℕ) → sketch.steps (sketch_of s) p ≡ option_map (λ t. (sketch_of t.0, t.1)) (script.steps s p)
step_alike s p = rw (backend_is s p) (by_case (nat_lt p s.about.procs) (seat_at s p).ask)
  where
    by_case : (b : Bool) (o : Option Ask) → cond b (option_map (sketch.turn (sketch_of s) p (backend_of (seat_at s p))) o) None ≡ option_map (λ t. (sketch_of t.0, t.1)) (cond b (option_map (script.turn s p (seat_at s p)) o) None)
    by_case false o = refl
    by_case true None = refl
    by_case true (Some a) = ap Some (turn_alike s p (seat_at s p) a)

-- the opening of the one is that of the other
map-map-idle : (f : ℕ → Seat) (xs : List ℕ) → ((p : ℕ) → backend_of (f p) ≡ idle) → map (λ _. idle) xs ≡ map backend_of (map f xs)
map-map-idle f [] each = refl
map-map-idle f (x ∷ xs) each = rw (each x, ← map-map-idle f xs each) refl

pub opening_alike : (z : About) → sketch.opening_sketch z ≡ sketch_of (script.opening_script z)
opening_alike z = ap (λ (bs : List Backend). let t : Sketch = record { about = z; words = script.first_words z; backends = bs } in t)
    (map-map-idle (λ p. record { view = script.first_view z p; ask = None }) (range_with_len 0 z.procs) (λ _. refl))

-- so a sketch plays a script as the machine does
pub sketch_plays : (z : About) (rest : List Numbered) → answer_by sketch.ends (played (silent sketch.begins) sketch.steps (opening_moment (sketch.opening_sketch z)) rest) ≡ answer_by script.ends (signal_play z rest)
sketch_plays z rest = rw (opening_alike z)
    (played_alike sketch_of (silent script.begins) script.steps (silent sketch.begins) sketch.steps (λ s p call. silent-alike sketch_of (script.begins s p call) (sketch.begins (sketch_of s) p call) (begin_alike s p call)) step_alike script.ends sketch.ends (λ s. refl) (opening_moment (script.opening_script z)) rest)
