-- Each step keeps that who waits at a barrier heeds its signal.
use Rattle.std.proofs.Common.{◌≡◌, ℕ, Bool, true, ◌∷◌, Option, Some, sym, ap, ◌∙◌, ⊎_elim}
use Rattle.wait_core.specs.declared.step.Spot.{Spot}
use Rattle.wait_core.specs.declared.step.Call.TheVariants as call
use Rattle.wait_core.specs.declared.step.WaitStep.{WaitStep}
use Rattle.wait_core.specs.declared.step.WaitStep.TheVariants.{Reset, Free}
use Rattle.wait_core.specs.declared.view.Frame.TheVariants.{Holding}
use Rattle.wait_core.specs.declared.view.Kept.{Kept}
use Rattle.wait_core.specs.declared.view.Size.{Size}
use Rattle.wait_core.specs.Machine.{Place, top, freed, freed_heeds as freed_heeding, heeds_then, place_then, MayFree, Permits}
use Rattle.wait_core.specs.Fits.{Fits}
use Rattle.wait_core.specs.ArrivalsHeed.{is_settled}
use Rattle.wait_core.proofs.Effects.{alone_idle}
use Rattle.wait_core.proofs.Dozing.{Course, course, Ends, GoesOn, course_follows, freed_heeds}

-- a step that frees nothing, and is no reset by the seat itself
stays_heeding : (t : Option ℕ) (p q : Place) (h : Bool) → GoesOn t p q → (is_settled p ≡ true → h ≡ true) → is_settled q ≡ true → h ≡ true
stays_heeding t p q h goes heeds settled = ⊎_elim (λ (same : course q ≡ course p). heeds (sym (ap (λ (c : Course). c.3) same) ∙ settled)) (λ (ends : Ends t p q). absurd (let none = ap is_settled ends.3 in cc)) goes

free_heeds : (cvs : ℕ) (t : Option ℕ) (x : Spot) (after : Option ℕ) (o : ℕ) (p : Place) (h : Bool) → MayFree x after t (top p) → Fits cvs t p → (is_settled p ≡ true → h ≡ true) → is_settled (freed o p) ≡ true → freed_heeding o p h ≡ true
free_heeds cvs t x after o (Holding j list found ∷ p) h ok fit heeds settled = freed_heeds cvs t o list found j p fit h heeds settled
free_heeds cvs t x after o p h ok fit heeds settled = absurd ok

pub heeds_kept : (z : Size) (t : Option ℕ) (k : WaitStep) (own : Option ℕ) (o n : ℕ) (found : Kept) (p : Place) (h : Bool) → Permits z k own t p → Fits z.cvs t p → (is_settled p ≡ true → h ≡ true) → is_settled (place_then z k n found record { own = o; target = t; place = p }) ≡ true → heeds_then k o p h ≡ true
heeds_kept z t (Free x after) own o n found p h ok fit heeds settled = free_heeds z.cvs t x after o p h ok.1 fit heeds settled
heeds_kept z t (Reset (Some c)) own o n found p h ok fit heeds settled = absurd (let none = ap is_settled (alone_idle call.Reset p tt ok.1) in cc)
heeds_kept z t k own o n found p h ok fit heeds settled = stays_heeding t p (place_then z k n found record { own = o; target = t; place = p }) h (course_follows z t k own o n found p tt ok fit) heeds settled
