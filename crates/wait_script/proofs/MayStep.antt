-- The machine and the client allow the step that a place of a script names.
use Rattle.std.proofs.Common.{◌≡◌, ℕ, ◌<◌, eqb, Bool, true, false, cond, List, [], ◌∷◌, Option, None, Some, refl, ap, eqb-true}
use Rattle.std.specs.Prelude.{is_none, is_some, ⊤}
use Rattle.wait_core.specs.declared.step.Call.{Call}
use Rattle.wait_core.specs.declared.step.Call.TheVariants as call
use Rattle.wait_core.specs.declared.step.Spot.{Spot}
use Rattle.wait_core.specs.declared.step.Spot.TheVariants.{Cv}
use Rattle.wait_core.specs.declared.step.Until.TheVariants.{Latch}
use Rattle.wait_core.specs.declared.view.Frame.TheVariants.{Setting, Telling, Waking, Announcing, Rechecking, CheckingShutdown, Looking, Asleep, Retracting, Draining, Repeating, LeavingSet, LeavingShutdown, Stopping, Taking, Spinning, Holding, Resetting, SleepWaiting, Preparing, Broadcasting, Signalling, Rousing, Settling, Dozing, Passing, Returning}
use Rattle.wait_core.specs.declared.view.PartyView.{PartyView}
use Rattle.wait_core.specs.declared.view.Size.{Size}
use Rattle.wait_core.specs.declared.view.WaitView.{WaitView}
use Rattle.wait_core.specs.Barriers.{JobSuits, StepSuits, asked_by}
use Rattle.wait_core.specs.Fits.{Fits, IsTarget}
use Rattle.wait_core.specs.Machine.{IsBelow, MayBegin, Permits, Place, named_by, takes_first}
use Rattle.wait_core.specs.Parties.{phase_of}
use Rattle.wait_core.specs.Seating.{party_of}
use Rattle.wait_core.proofs.Arriving.{Owes}
use Rattle.wait_script.specs.Waits.{first_step, has_step, may_begin, step_at, taking_first}
use Rattle.wait_script.specs.WaitSketch.{CallFits}
use Rattle.wait_script.specs.Passed.{no_client}
use Rattle.wait_script.proofs.NamesKept.{PlaceNames}

-- what a call names is the table's
abbrev pub CallNames : Size → Call → Type 0
CallNames z a = CallFits z a × IsBelow z.cvs (named_by a)

-- a call whose first step is still to come has one, and its condition holds
abbrev pub AskSuits : Size → Option Call → Place → Option ℕ → List (ℕ × ℕ) → Type 0
AskSuits z (Some a) [] t attached = CallNames z a × (has_step a t ≡ true) × (may_begin a attached ≡ true)
AskSuits z a p t attached = ⊤

module _ (z : Size) (p : ℕ) where
  -- THE FIRST STEP of a call, also of one inside another
  sleep_permits : (c t : ℕ) (place : Place) → c < z.cvs → t < z.cvs → MayBegin (call.Sleep c) place → (b : Bool) → eqb t c ≡ b → Permits z (taking_first p (call.Sleep c) (cond b None (Some (Cv t)))) (Some p) (Some t) place
  sleep_permits c t place below inside begin true e = ((refl, ap Some (eqb-true t c e)), begin)
  sleep_permits c t place below inside begin false e = (inside, ap (λ (b : Bool). cond b None (Some (Cv t))) e, below, begin)

  first_permits : (a : Call) (t : Option ℕ) (place : Place) → CallNames z a → has_step a t ≡ true → IsTarget z.cvs t → MayBegin a place → Permits z (first_step p t a) (Some p) t place
  first_permits (call.Set q) t place names some inside begin = ((refl, names.0), begin)
  first_permits call.Reset t place names some inside begin = (refl, begin)
  first_permits call.IsSet t place names some inside begin = (refl, begin)
  first_permits (call.Wait u) t place names some inside begin = (refl, begin)
  first_permits call.Shut t place names some inside begin = (refl, begin)
  first_permits call.IsShut t place names some inside begin = (refl, begin)
  first_permits call.Cancel None place names some inside begin = absurd (cc)
  first_permits call.Cancel (Some t) place names some inside begin = (inside t refl, refl, tt, begin)
  first_permits (call.Prepare c) None place names some inside begin = (names.1, refl, names.1, begin)
  first_permits (call.Prepare c) (Some t) place names some inside begin = (inside t refl, refl, names.1, begin)
  first_permits (call.Sleep c) None place names some inside begin = (names.1, refl, names.1, begin)
  first_permits (call.Sleep c) (Some t) place names some inside begin = sleep_permits c t place names.1 (inside t refl) begin (eqb t c) refl
  first_permits (call.Signal c) t place names some inside begin = (names.1, refl, names.1, begin)
  first_permits (call.Broadcast c) None place names some inside begin = (names.1, refl, names.1, begin)
  first_permits (call.Broadcast c) (Some t) place names some inside begin = (inside t refl, refl, names.1, begin)
  first_permits (call.Attach b) t place names some inside begin = (names.0, refl, tt, begin)
  first_permits (call.Arrive b) t place names some inside begin = (names.0, refl, tt, begin)
  first_permits (call.Detach b) t place names some inside begin = (names.0, refl, tt, begin)
  first_permits (call.ArriveDetach b) t place names some inside begin = (names.0, refl, tt, begin)
  first_permits (call.ExceptLast b) t place names some inside begin = (names.0, refl, tt, begin)

  -- AND THE NEXT. An arrival that ends cancels its target
  cancels : (b : ℕ) (t : Option ℕ) → t ≡ Some b → has_step call.Cancel t ≡ true
  cancels b t is = ap (λ (o : Option ℕ). is_some o) is

  pub permits : (a : Call) (t : Option ℕ) (place : Place) (attached : List (ℕ × ℕ)) → AskSuits z (Some a) place t attached → IsTarget z.cvs t → Fits z.cvs t place → PlaceNames z place → Permits z (step_at p a t place) (Some p) t place
  permits a t [] attached suits inside fits names = first_permits a t [] suits.0 suits.1 inside tt
  permits a t (Setting q ∷ rest) attached suits inside fits names = (names.0, refl)
  permits a t (Telling q ∷ rest) attached suits inside fits names = (names.0, refl)
  permits a t (Waking q ∷ rest) attached suits inside fits names = (names.0, refl)
  permits a t (Announcing u ∷ rest) attached suits inside fits names = tt
  permits a t (Rechecking u ∷ rest) attached suits inside fits names = (refl, tt)
  permits a t (CheckingShutdown ∷ rest) attached suits inside fits names = refl
  permits a t (Looking u ∷ rest) attached suits inside fits names = tt
  permits a t (Asleep u ∷ rest) attached suits inside fits names = tt
  permits a t (Retracting u ∷ rest) attached suits inside fits names = tt
  permits a t (Draining u ∷ rest) attached suits inside fits names = tt
  permits a t (Repeating u ∷ rest) attached suits inside fits names = (refl, tt)
  permits a t (LeavingSet ∷ rest) attached suits inside fits names = tt
  permits a t (LeavingShutdown ∷ rest) attached suits inside fits names = tt
  permits a t (Stopping q ∷ rest) attached suits inside fits names = (names.0, refl)
  permits a t (Taking j ∷ rest) attached suits inside fits names = (names.0, refl)
  permits a t (Spinning j ∷ rest) attached suits inside fits names = (names.0, refl)
  permits a t (Holding j list found ∷ rest) attached suits inside fits names = (names.0.0, (refl, refl))
  permits a t (Resetting c ∷ rest) attached suits inside fits names = tt
  permits a t (SleepWaiting c ∷ rest) attached suits inside fits names = first_permits (call.Wait Latch) t (SleepWaiting c ∷ rest) (tt, tt) refl inside tt
  permits a t (Signalling c q ∷ rest) attached suits inside fits names = first_permits (call.Set q) t (Signalling c q ∷ rest) (names.0, tt) refl inside refl
  permits a t (Rousing c q more ∷ rest) attached suits inside fits names = first_permits (call.Set q) t (Rousing c q more ∷ rest) (names.0.1, tt) refl inside refl
  permits a t (Settling b ph ∷ rest) attached suits inside fits names = first_permits (call.Prepare b) t (Settling b ph ∷ rest) (tt, fits.0) refl inside refl
  permits a t (Dozing b ph ∷ rest) attached suits inside fits names = first_permits (call.Sleep b) t (Dozing b ph ∷ rest) (tt, fits.0) refl inside refl
  permits a t (Passing b ph ∷ rest) attached suits inside fits names = first_permits (call.Broadcast b) t (Passing b ph ∷ rest) (tt, fits.0) refl inside refl
  permits a t (Returning b ph ∷ rest) attached suits inside fits names = first_permits call.Cancel t (Returning b ph ∷ rest) (tt, tt) (cancels b t fits.0) inside tt
  permits a t (Preparing c ∷ rest) attached suits inside fits names = absurd fits
  permits a t (Broadcasting c ∷ rest) attached suits inside fits names = absurd fits

-- THE CLIENT asks only that who attaches isn't attached yet, and that who arrives or leaves is
not_attached : (o : Option ℕ) → is_none o ≡ true → o ≡ None
not_attached None e = refl
not_attached (Some n) e = absurd (cc)

is_attached : (o : Option ℕ) → is_some o ≡ true → (ph : ℕ) × (o ≡ Some ph)
is_attached None e = absurd (cc)
is_attached (Some n) e = (n, refl)

job_suits : (a : Call) (v : PartyView (Unit {0})) → may_begin a v.attached ≡ true → JobSuits no_client (asked_by a) v
job_suits (call.Attach b) v may = (not_attached (phase_of v.attached b) may, tt)
job_suits (call.Arrive b) v may = let at = is_attached (phase_of v.attached b) may in (at.0, at.1, tt, tt)
job_suits (call.Detach b) v may = let at = is_attached (phase_of v.attached b) may in (at.0, at.1, tt, (λ s. s))
job_suits (call.ArriveDetach b) v may = let at = is_attached (phase_of v.attached b) may in (at.0, at.1, tt, (tt, (λ s. s), (λ s. s)))
job_suits (call.ExceptLast b) v may = let at = is_attached (phase_of v.attached b) may in (at.0, at.1, tt, tt)
job_suits a v may = tt

module _ (p : ℕ) (v : WaitView (Unit {0})) where
  taking_suits : (a : Call) (o : Option Spot) → JobSuits no_client (asked_by a) (party_of v) → StepSuits no_client (taking_first p a o) v
  taking_suits a None h = tt
  taking_suits a (Some x) h = h

  first_suits : (a : Call) (t : Option ℕ) → JobSuits no_client (asked_by a) (party_of v) → StepSuits no_client (first_step p t a) v
  first_suits (call.Set q) t h = tt
  first_suits call.Reset t h = tt
  first_suits call.Shut t h = tt
  first_suits call.IsShut t h = tt
  first_suits a t h = taking_suits a (takes_first t a) h

  pub step_suits : (z : Size) (a : Call) (t : Option ℕ) (place : Place) → AskSuits z (Some a) place t v.attached → StepSuits no_client (step_at p a t place) v
  step_suits z a t [] suits = first_suits a t (job_suits a (party_of v) suits.2)
  step_suits z a t (SleepWaiting c ∷ rest) suits = first_suits (call.Wait Latch) t tt
  step_suits z a t (Settling b ph ∷ rest) suits = first_suits (call.Prepare b) t tt
  step_suits z a t (Dozing b ph ∷ rest) suits = first_suits (call.Sleep b) t tt
  step_suits z a t (Passing b ph ∷ rest) suits = first_suits (call.Broadcast b) t tt
  step_suits z a t (Returning b ph ∷ rest) suits = first_suits call.Cancel t tt
  step_suits z a t (f ∷ rest) suits = tt

-- and it owes nothing for a step
pub owes_nothing : Owes no_client
owes_nothing = record {
  enter = λ words views phases id v w bar h is may. tt;
  notice = λ words views phases id v w bar ph h is quiet. tt;
  elect = λ words views phases id v bar ph h is. tt;
  pass = λ words views phases bar id v h is may. tt;
  leave = λ words views phases id v w bar ph h is quiet. tt;
}
