-- What a step leaves of a sketch.
use Rattle.std.proofs.Common.{◌≡◌, ◌∙◌, ℕ, ◌+◌, ◌-◌, ◌*◌, ◌^◌, ◌<◌, ◌≤◌, nat_lt, bit_and, eqb, Bool, true, false, cond, List, [], ◌∷◌, map, zero, suc, set, get_or, Option, None, Some, refl, sym, ap, subst, inl, inr, arith, get_or-set_same, get_or-set_other}
use Rattle.std.specs.Prelude.{slice_index}
use Rattle.std.proofs.lemmas.Bool.{cases_Bool}
use Rattle.std.proofs.lemmas.List.{length-set}
use Rattle.std.proofs.lemmas.List.FromFn.{length-map-range_with_len}
use Rattle.std.specs.List.{range_with_len}
use Rattle.std.proofs.lemmas.Bool.Decides.{nat_tests}
use mathlib.Core.Logic.{dite}
use native.Mathlib.Decide.{ℕ_discrete}
use Rattle.signal_core.specs.declared.step.SigStep.{SigStep}
use Rattle.signal_core.specs.declared.step.SigStep.TheVariants.{Hload, Hadd, Mor, Mswap, Gstore, Gload, Pstore, Pload, Pend, Pswap}
use Rattle.signal_core.specs.declared.view.About.{About}
use Rattle.signal_core.specs.declared.view.Frame.TheVariants.{Reading, Opening, Entering, Leaving, Posting, Numbering, Telling, Prodding, Comparing, Heading, Swapping, Taking, Keeping, Reminding}
use Rattle.signal_core.specs.Words.{opened, word_count, worn}
use Rattle.signal_core.specs.Machine.{Place, becomes, place_after, told, word_of}
use Rattle.signal_script.specs.declared.signals.Ask.{Ask}
use Rattle.signal_script.specs.declared.signals.Ask.TheVariants.{Join, Leave, Emit, Absorb}
use Rattle.signal_script.specs.declared.signals.Backend.{Backend}
use Rattle.signal_script.specs.Signals.{failing_of, step_at, still}
use Rattle.signal_script.specs.SignalSketch.{AskFits, BackendFits, Fits, PlaceFits, Sketch, StepFits, idle, opening_sketch, turn, went}
use Rattle.signal_script.specs.SignalSketch as sketch
use Rattle.signal_script.proofs.KindFacts.{lowest-below}

-- either of two places
either : (procs : ℕ) (b : Bool) (p q : Place) → (b ≡ true → PlaceFits procs p) → (b ≡ false → PlaceFits procs q) → PlaceFits procs (cond b p q)
either procs true p q x y = x refl
either procs false p q x y = y refl

told-fits : (z : About) (q : ℕ) → q < z.procs → PlaceFits z.procs (told z q)
told-fits z q below = either z.procs (eqb (q + 1) z.procs) None (Some (Telling (q + 1))) (λ _. tt) (λ f. below_next z.procs q below f)
  where
    below_next : (n q : ℕ) → q < n → eqb (q + 1) n ≡ false → q + 1 < n
    below_next n q below f = grind (arith, nat_tests, below, f)

-- a backend that makes the step that its place names comes to a place that fits
place-fits : (z : About) (p n : ℕ) (a : Ask) (place : Place) → 0 < z.procs → AskFits (Some a) → PlaceFits z.procs place → PlaceFits z.procs (place_after z (step_at p a place) n place)
place-fits z p n Join None some ask fits = tt
place-fits z p n Leave None some ask fits = tt
place-fits z p n (Emit k) None some ask fits = either z.procs (nat_lt n worn) (Some (Posting k 0 0)) None (λ _. (ask, some)) (λ _. tt)
place-fits z p n (Absorb f) None some ask fits = either z.procs (eqb n 0) None (Some Comparing) (λ _. tt) (λ _. tt)
place-fits z p n a (Some Reading) some ask fits = tt
place-fits z p n a (Some (Opening h)) some ask fits = tt
place-fits z p n a (Some (Entering h)) some ask fits = tt
place-fits z p n a (Some Leaving) some ask fits = tt
place-fits z p n a (Some (Posting k x q)) some ask fits =
    either z.procs (eqb (q + 1) z.procs) (Some (Numbering k x)) (Some (Posting k x (q + 1))) (λ _. tt) (λ f. (fits.0, grind (arith, nat_tests, fits.1, f)))
place-fits z p n a (Some (Numbering k x)) some ask fits = some
place-fits z p n a (Some (Telling q)) some ask fits = either z.procs (eqb n 0) (told z q) (Some (Prodding q)) (λ _. told-fits z q fits) (λ _. fits)
place-fits z p n a (Some (Prodding q)) some ask fits = told-fits z q fits
place-fits z p n a (Some Comparing) some ask fits = tt
place-fits z p n a (Some (Heading g)) some ask fits = either z.procs (eqb n g) None (Some (Swapping n)) (λ _. tt) (λ _. tt)
place-fits z p n a (Some (Swapping h)) some ask fits = tt
place-fits z p n a (Some (Taking h found)) some ask fits = elim (cases_Bool (eqb (bit_and found (failing_of a)) 0)) [
  | inl t ↦ rw t tt
  | inr f ↦ rw f (lowest-below (bit_and found (failing_of a)) 32)
]
place-fits z p n a (Some (Keeping h found failed done)) some ask fits = lowest-below failed (32 - done)
place-fits z p n a (Some (Reminding h found failed k)) some ask fits =
    either z.procs (nat_lt failed (2 ^ (k + 1))) None (Some (Keeping h found failed (k + 1))) (λ _. tt) (λ _. omega (arith, fits))

ask-fits : (place : Place) (a : Option Ask) → AskFits a → AskFits (still place a)
ask-fits None a fits = tt
ask-fits (Some f) a fits = fits

pub went-fits : (z : About) (p n : ℕ) (a : Ask) (b : Backend) → 0 < z.procs → b.ask ≡ Some a → BackendFits z.procs b → BackendFits z.procs (went z (step_at p a b.place) n b)
went-fits z p n a b some is fits = (place-fits z p n a b.place some (rw is at fits.1) fits.0, ask-fits (place_after z (step_at p a b.place) n b.place) b.ask fits.1)

-- a word and a backend are written
pub set-fits : (s : Sketch) (p i x : ℕ) (c : Backend) → Fits s → p < s.about.procs → BackendFits s.about.procs c
    → Fits record { about = s.about; words = set s.words i x; backends = set s.backends p c }
set-fits s p i x c fits below new = record {
  procs = fits.procs;
  generation = fits.generation;
  words = length-set s.words i x ∙ fits.words;
  backends = length-set s.backends p c ∙ fits.backends;
  each = λ q. dite (ℕ_discrete q p)
      (λ is. subst (λ (b : Backend). BackendFits s.about.procs b) (sym (ap (λ (r : ℕ). get_or (set s.backends p c) r idle) is ∙ get_or-set_same s.backends p c idle (omega (arith, fits.backends)))) new)
      (λ apart. subst (λ (b : Backend). BackendFits s.about.procs b) (sym (get_or-set_other s.backends p q c idle apart)) (fits.each q));
}

pub turned-by : (s : Sketch) (p i n x : ℕ) (a : Ask) (b c : Backend) (k : SigStep) → k ≡ step_at p a b.place → i ≡ word_of p k → n ≡ slice_index s.words i → x ≡ becomes k n → c ≡ went s.about k n b
    → let r : Sketch = record { about = s.about; words = set s.words i x; backends = set s.backends p c } in r ≡ (turn s p b a).0
unfolding turn
turned-by s p i n x a b c k ek ei en ex ec = rw (ec, ex, en, ei, ek) refl

pub told-by : (s : Sketch) (p i n : ℕ) (a : Ask) (b c : Backend) (k : SigStep) → k ≡ step_at p a b.place → i ≡ word_of p k → n ≡ slice_index s.words i → c ≡ went s.about k n b
    → sketch.told p a k n b c ≡ (turn s p b a).1
unfolding turn
told-by s p i n a b c k ek ei en ec = rw (ec, en, ei, ek) refl

-- a step is on a word of the table
pub word-in : (procs p : ℕ) (k : SigStep) → p < procs → StepFits procs p k → word_of p k < 4 * procs + 2
word-in procs p (Hload begins) below fits = omega arith
word-in procs p Hadd below fits = omega arith
word-in procs p (Mor q k failed) below fits = elim fits.1 [ inl in_range ↦ omega arith | inr own ↦ omega arith ]
word-in procs p (Mswap begins) below fits = omega arith
word-in procs p (Gstore g begins) below fits = omega arith
word-in procs p (Gload q begins) below fits = elim fits [ inl in_range ↦ omega arith | inr own ↦ omega arith ]
word-in procs p (Pstore x) below fits = omega arith
word-in procs p (Pload q) below fits = omega (arith, fits)
word-in procs p (Pend q) below fits = elim fits [ inl in_range ↦ omega arith | inr own ↦ omega arith ]
word-in procs p (Pswap begins) below fits = omega arith

all-idle : (xs : List ℕ) (p : ℕ) → get_or (map (λ _. idle) xs) p idle ≡ idle
all-idle [] p = refl
all-idle (x ∷ xs) zero = refl
all-idle (x ∷ xs) (suc p) = all-idle xs p

pub opening-fits : (z : About) → (0 < z.procs) × (z.procs ≤ 64) → z.generation ≤ worn → Fits (opening_sketch z)
opening-fits z some near = record {
  procs = some;
  generation = near;
  words = length-map-range_with_len (λ i. cond (eqb i 0) z.procs (opened z i)) 0 (word_count z);
  backends = length-map-range_with_len (λ _. idle) 0 z.procs;
  each = λ p. subst (λ (b : Backend). BackendFits z.procs b) (sym (all-idle (range_with_len 0 z.procs) p)) (tt, tt);
}
