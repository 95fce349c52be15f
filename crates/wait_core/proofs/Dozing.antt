-- Arrivals in their sleep, and broadcasts of a phase that passed: what each step makes of their places.
use Rattle.std.proofs.Common.{◌≡◌, ◌⊎◌, ℕ, ◌+◌, ◌-◌, eqb, Bool, true, false, cond, List, [], ◌∷◌, Option, None, Some, refl, sym, ap, ◌∙◌, subst, inl, inr, eqb-true}
use Rattle.wait_core.specs.declared.step.Until.{Until}
use Rattle.wait_core.specs.declared.step.Until.TheVariants.{Latch, LatchOrShutdown}
use Rattle.wait_core.specs.declared.step.Spot.{Spot}
use Rattle.wait_core.specs.declared.step.Spot.TheVariants.{Bar}
use Rattle.wait_core.specs.declared.step.Call.{Call}
use Rattle.wait_core.specs.declared.step.Call.TheVariants as call
use Rattle.wait_core.specs.declared.step.WaitStep.{WaitStep}
use Rattle.wait_core.specs.declared.step.WaitStep.TheVariants.{Sload, Sset, Reset, Mstore, Mload, Byte, Look, Drain, Shload, Shstore, Take, Spin, Free}
use Rattle.wait_core.specs.declared.view.Frame.{Frame}
use Rattle.wait_core.specs.declared.view.Frame.TheVariants.{Setting, Telling, Waking, Announcing, Rechecking, CheckingShutdown, Looking, Asleep, Retracting, Draining, Repeating, LeavingSet, LeavingShutdown, Stopping, Taking, Spinning, Holding, Resetting, SleepWaiting, Preparing, Broadcasting, Signalling, Rousing, Settling, Dozing, Passing, Returning}
use Rattle.wait_core.specs.declared.view.Job.{Job}
use Rattle.wait_core.specs.declared.view.Job.TheVariants as job
use Rattle.wait_core.specs.declared.view.Kept.{Kept}
use Rattle.wait_core.specs.declared.view.Record.{Record}
use Rattle.wait_core.specs.declared.view.Size.{Size}
use Rattle.wait_core.specs.Lists.{is_listed}
use Rattle.wait_core.specs.Jobs.{spot_of, is_worn, is_last, is_only, is_awaited, has_passed, departed, left_record, heeds_after, resumed, passes_on, rouses, rouses_on, goes_on}
use Rattle.wait_core.specs.Machine.{Place, top, outer, begun, reloaded, marked, woken, looked, drained, reset, entered, taken, spun, place_then, MayBegin, MayReload, MayMark, MayWake, MayLook, MayDrain, MayReset, MayTake, MaySpin, takes_first, Permits}
use Rattle.wait_core.specs.Fits.{BehindPrepare, BehindSleep, BehindBroadcast, BehindSet, BehindWait, BehindCancel, JobFits, Fits}
use Rattle.wait_core.specs.Stances.{sentinel_at}
use Rattle.wait_core.specs.ArrivalsHeed.{is_notice, is_settled}
use Rattle.wait_core.specs.PassedPhaseIsBroadcast.{dozes, passed_at, has_freed}
use Rattle.wait_core.proofs.Attachments.{waited, same_waited}
use Rattle.wait_core.proofs.Effects.{alone_idle, at_top}
use Rattle.wait_core.proofs.Hands.{IsNoFree}

-- the sleep of an arrival; a phase that was passed, and whether its broadcast has freed the list; and whether the seat has to heed its signal
abbrev pub Course : Type 0
Course = Bool × Option (ℕ × ℕ) × Bool × Bool

abbrev pub course : Place → Course
course p = (dozes p, passed_at p, has_freed p, is_settled p)

-- the same, where no list was freed
abbrev unfreed : Place → Course
unfreed p = (dozes p, passed_at p, false, is_settled p)

-- a broadcast ends whose sentinel is off the list
abbrev pub Ends : Option ℕ → Place → Place → Type 0
Ends t p q = (has_freed p ≡ true) × (t ≡ None) × (sentinel_at p ≡ None) × (q ≡ [])

-- STEPS THAT FREE NOTHING. They change nothing of it, or end a broadcast
abbrev pub GoesOn : Option ℕ → Place → Place → Type 0
GoesOn t p q = (course q ≡ course p) ⊎ Ends t p q

ended_course : (p : Place) → p ≡ [] → course (resumed p) ≡ unfreed p
ended_course [] e = refl
ended_course (f ∷ p) e = absurd (cc)

either_course : (b : Bool) (p q : Place) (c : Course) → course p ≡ c → course q ≡ c → course (cond b p q) ≡ c
either_course true p q c x y = x
either_course false p q c x y = y

either_goes : (t : Option ℕ) (b : Bool) (p q r : Place) → GoesOn t r p → GoesOn t r q → GoesOn t r (cond b p q)
either_goes t true p q r x y = x
either_goes t false p q r x y = y

module _ (cvs : ℕ) (t : Option ℕ) where
  set_goes : (q : ℕ) (p : Place) → BehindSet cvs t q p → GoesOn t p (resumed p)
  set_goes q [] h = inl refl
  set_goes q (Signalling c r ∷ p) h = inl (ended_course p h.1)
  set_goes q (Rousing c r true ∷ p) h = inl refl
  set_goes q (Rousing c r false ∷ []) h = inr (refl, h.1, refl, refl)
  set_goes q (Rousing c r false ∷ Passing b ph ∷ []) h = inr (refl, h.1, refl, refl)
  set_goes q (Rousing c r false ∷ Passing b ph ∷ f ∷ p) h = absurd (let e = h.3.1 in cc)
  set_goes q (Rousing c r false ∷ f ∷ p) h = absurd h.3
  set_goes q (f ∷ p) h = absurd h

  wait_course : (u : Until) (p : Place) → BehindWait cvs t u p → course (resumed p) ≡ unfreed p
  wait_course u [] h = refl
  wait_course u (SleepWaiting c ∷ p) h = refl
  wait_course u (f ∷ p) h = absurd h

  begun_goes : (clear : Bool) (c : Call) (p : Place) → MayBegin c p → Fits cvs t p → GoesOn t p (begun c clear p)
  begun_goes clear (call.Set q) [] ok fit = either_goes t clear (Setting q ∷ []) [] [] (inl refl) (inl refl)
  begun_goes clear (call.Set q) (Signalling c r ∷ p) ok fit = either_goes t clear (Setting q ∷ Signalling c r ∷ p) (resumed p) (Signalling c r ∷ p) (inl refl) (inl (ended_course p fit))
  begun_goes clear (call.Set q) (Rousing c r more ∷ p) ok fit = either_goes t clear (Setting q ∷ Rousing c r more ∷ p) (resumed (Rousing c r more ∷ p)) (Rousing c r more ∷ p) (inl refl) (set_goes r (Rousing c r more ∷ p) (refl, fit.0, fit.1, fit.2))
  begun_goes clear (call.Set q) (f ∷ p) ok fit = absurd ok
  begun_goes clear (call.Wait u) [] ok fit = inl (either_course clear (Announcing u ∷ []) [] (course []) refl refl)
  begun_goes clear (call.Wait u) (SleepWaiting c ∷ p) ok fit = inl (either_course clear (Announcing u ∷ SleepWaiting c ∷ p) (Resetting c ∷ p) (unfreed p) refl refl)
  begun_goes clear (call.Wait u) (f ∷ p) ok fit = absurd ok
  begun_goes clear (call.Sleep c) [] ok fit = inl (either_course clear (Announcing Latch ∷ SleepWaiting c ∷ []) (Resetting c ∷ []) (course []) refl refl)
  begun_goes clear (call.Sleep c) (Dozing b ph ∷ p) ok fit = inl (either_course clear (Announcing Latch ∷ SleepWaiting c ∷ Dozing b ph ∷ p) (Resetting c ∷ Dozing b ph ∷ p) (course (Dozing b ph ∷ p)) refl refl)
  begun_goes clear (call.Sleep c) (f ∷ p) ok fit = absurd ok
  begun_goes clear c p ok fit = inl refl

  reloaded_goes : (clear : Bool) (p : Place) → MayReload (top p) → Fits cvs t p → course (reloaded clear p) ≡ course p
  reloaded_goes clear (Repeating u ∷ p) ok fit = either_course clear (Announcing u ∷ p) (resumed p) (unfreed p) refl (wait_course u p fit)
  reloaded_goes true (Rechecking Latch ∷ p) ok fit = refl
  reloaded_goes true (Rechecking LatchOrShutdown ∷ p) ok fit = refl
  reloaded_goes false (Rechecking u ∷ p) ok fit = refl
  reloaded_goes clear p ok fit = absurd ok

  marked_goes : (may : Bool) (p : Place) → MayMark may (top p) → Fits cvs t p → course (marked p) ≡ course p
  marked_goes true (Announcing u ∷ p) ok fit = refl
  marked_goes false (Retracting u ∷ p) ok fit = refl
  marked_goes false (LeavingSet ∷ p) ok fit = wait_course Latch p fit
  marked_goes false (LeavingShutdown ∷ p) ok fit = ended_course p fit
  marked_goes true p ok fit = absurd ok
  marked_goes false p ok fit = absurd ok

  woken_goes : (z : Size) (q : ℕ) (p : Place) → MayWake q (top p) → Fits cvs t p → GoesOn t p (woken z q p)
  woken_goes z q (Waking r ∷ p) ok fit = set_goes r p fit
  woken_goes z q (Stopping r ∷ p) ok fit = inl (either_course (eqb (q + 1) z.procs) (resumed p) (Stopping (q + 1) ∷ p) (unfreed p) (ended_course p fit) refl)
  woken_goes z q p ok fit = absurd ok

looked_goes : (clear : Bool) (p : Place) → MayLook (top p) → course (looked clear p) ≡ course p
looked_goes true (Looking u ∷ p) ok = refl
looked_goes false (Looking u ∷ p) ok = refl
looked_goes true (Asleep u ∷ p) ok = refl
looked_goes false (Asleep u ∷ p) ok = refl
looked_goes clear p ok = absurd ok

drained_goes : (p : Place) → MayDrain (top p) → course (drained p) ≡ course p
drained_goes (Draining u ∷ p) ok = refl
drained_goes p ok = absurd ok

reset_goes : (p : Place) → MayReset (top p) → course (reset p) ≡ course p
reset_goes (Resetting c ∷ p) ok = refl
reset_goes p ok = absurd ok

spun_goes : (x : Spot) (clear : Bool) (p : Place) → MaySpin x (top p) → course (spun clear p) ≡ course p
spun_goes x true (Spinning j ∷ p) ok = refl
spun_goes x false (Spinning j ∷ p) ok = refl
spun_goes x clear p ok = absurd ok

job_taken : (clear : Bool) (found : Kept) (j : Job) (p : Place) → course (taken clear found (Taking j ∷ p)) ≡ course (Taking j ∷ p)
job_taken true found j p = refl
job_taken false found j p = refl

taken_goes : (x : Spot) (clear : Bool) (found : Kept) (p : Place) → MayTake x (top p) → course (taken clear found p) ≡ course p
taken_goes x clear found (Taking j ∷ p) ok = job_taken clear found j p
taken_goes x clear found p ok = absurd ok

-- a call that takes a spin word begins where no list was freed
begin_unfreed : (t : Option ℕ) (c : Call) (x : Spot) (p : Place) → takes_first t c ≡ Some x → MayBegin c p → has_freed p ≡ false
begin_unfreed t c x [] is ok = refl
begin_unfreed t c x (Signalling d q ∷ p) is ok = refl
begin_unfreed t c x (SleepWaiting d ∷ p) is ok = refl
begin_unfreed t c x (Settling b ph ∷ p) is ok = refl
begin_unfreed t c x (Dozing b ph ∷ p) is ok = refl
begin_unfreed t c x (Passing b ph ∷ p) is ok = refl
begin_unfreed t c x (Returning b ph ∷ p) is ok = refl
begin_unfreed t (call.Set q) x (Rousing d r more ∷ p) is ok = absurd (cc)
begin_unfreed t c x (f ∷ p) is ok = absurd ok

entered_course : (clear : Bool) (found : Kept) (t : Option ℕ) (c : Call) (x : Spot) (p : Place) → takes_first t c ≡ Some x → course (taken clear found (entered t c p)) ≡ unfreed p
entered_course clear found None (call.Prepare c) x p is = job_taken clear found (job.Prepare c) p
entered_course clear found None (call.Sleep c) x p is = job_taken clear found (job.Prepare c) p
entered_course clear found None (call.Broadcast c) x p is = job_taken clear found (job.Broadcast c) p
entered_course clear found (Some s) call.Cancel x p is = job_taken clear found (job.Cancel s) p
entered_course clear found (Some s) (call.Prepare c) x p is = job_taken clear found (job.Cancel s) (Preparing c ∷ p)
entered_course clear found (Some s) (call.Sleep c) x p is = job_taken clear found (job.Cancel s) (Preparing c ∷ p)
entered_course clear found (Some s) (call.Broadcast c) x p is = job_taken clear found (job.Cancel s) (Broadcasting c ∷ p)
entered_course clear found t (call.Signal c) x p is = job_taken clear found (job.Signal c) p
entered_course clear found t (call.Attach b) x p is = job_taken clear found (job.Attach b) p
entered_course clear found t (call.Arrive b) x p is = job_taken clear found (job.Arrive b) p
entered_course clear found t (call.Detach b) x p is = job_taken clear found (job.Detach b) p
entered_course clear found t (call.ArriveDetach b) x p is = job_taken clear found (job.ArriveDetach b) p
entered_course clear found t (call.ExceptLast b) x p is = job_taken clear found (job.ExceptLast b) p
entered_course clear found t c x p is = absurd (cc)

top_goes : (t : Option ℕ) (p q : Place) (f : Frame) → top p ≡ Some f → GoesOn t (f ∷ outer p) q → GoesOn t p q
top_goes t p q f is h = subst (λ (r : Place). GoesOn t r q) (sym (at_top p f is)) h

pub course_follows : (z : Size) (t : Option ℕ) (k : WaitStep) (own : Option ℕ) (o n : ℕ) (found : Kept) (p : Place) → IsNoFree k → Permits z k own t p → Fits z.cvs t p → GoesOn t p (place_then z k n found record { own = o; target = t; place = p })
course_follows z t (Sload q (Some c)) own o n found p apart ok fit = begun_goes z.cvs t (eqb n 0) c p ok.1 fit
course_follows z t (Sload q None) own o n found p apart ok fit = inl (reloaded_goes z.cvs t (eqb n 0) p ok.1 fit)
course_follows z t (Sset q) own o n found p apart ok fit = top_goes t p (Telling q ∷ outer p) (Setting q) ok.1 (inl refl)
course_follows z t (Reset (Some c)) own o n found p apart ok fit = inl refl
course_follows z t (Reset None) own o n found p apart ok fit = inl (reset_goes p ok)
course_follows z t (Mstore may) own o n found p apart ok fit = inl (marked_goes z.cvs t may p ok fit)
course_follows z t (Mload q) own o n found p apart ok fit = top_goes t p _ (Telling q) ok.1 (either_goes t (eqb n 0) (resumed (outer p)) (Waking q ∷ outer p) (Telling q ∷ outer p) (set_goes z.cvs t q (outer p) (subst (Fits z.cvs t) (at_top p (Telling q) ok.1) fit)) (inl refl))
course_follows z t (Byte q) own o n found p apart ok fit = woken_goes z.cvs t z q p ok.1 fit
course_follows z t Look own o n found p apart ok fit = inl (looked_goes (eqb n 0) p ok)
course_follows z t Drain own o n found p apart ok fit = inl (drained_goes p ok)
course_follows z t (Shload (Some c)) own o n found p apart ok fit = inl refl
course_follows z t (Shload None) own o n found p apart ok fit = top_goes t p _ CheckingShutdown ok (inl (either_course (eqb n 0) (Looking LatchOrShutdown ∷ outer p) (LeavingShutdown ∷ outer p) (unfreed (outer p)) refl refl))
course_follows z t (Shstore b) own o n found p apart ok fit = inl (subst (λ (q : Place). course (Stopping 0 ∷ q) ≡ course q) (sym (alone_idle call.Shut p tt ok.1)) refl)
course_follows z t (Take x (Some c)) own o n found p apart ok fit = inl (entered_course (eqb n 0) found t c x p ok.1 ∙ (λ i. (dozes p, passed_at p, sym (begin_unfreed t c x p ok.1 ok.3) i, is_settled p)))
course_follows z t (Take x None) own o n found p apart ok fit = inl (taken_goes x (eqb n 0) found p ok.1)
course_follows z t (Spin x) own o n found p apart ok fit = inl (spun_goes x (eqb n 0) p ok.1)
course_follows z t (Free x after) own o n found p apart ok fit = absurd apart

-- who sleeps in an arrival is settled
settled_either : (x : Bool) → cond x true true ≡ true
settled_either true = refl
settled_either false = refl

pub settled_dozing : (p : Place) → dozes p ≡ true → is_settled p ≡ true
settled_dozing [] is = is
settled_dozing (Dozing d g ∷ p) is = refl
settled_dozing (Taking j ∷ p) is = ap (cond (is_notice j) true) (settled_dozing p is) ∙ settled_either (is_notice j)
settled_dozing (Spinning j ∷ p) is = ap (cond (is_notice j) true) (settled_dozing p is) ∙ settled_either (is_notice j)
settled_dozing (Holding j l r ∷ p) is = ap (cond (is_notice j) true) (settled_dozing p is) ∙ settled_either (is_notice j)
settled_dozing (f ∷ p) is = settled_dozing p is

-- THE FREE OF A SPIN WORD. Only who is listed, sleeps in an arrival or notices nothing is settled after it
settled_none : (p : Place) → p ≡ [] → is_settled p ≡ false
settled_none p is = ap is_settled is

prepare_unsettled : (c : ℕ) (p : Place) → BehindPrepare c p → is_settled p ≡ false
prepare_unsettled c [] h = refl
prepare_unsettled c (Settling b ph ∷ p) h = settled_none p h.1
prepare_unsettled c (f ∷ p) h = absurd h

broadcast_unsettled : (c : ℕ) (p : Place) → BehindBroadcast c p → is_settled p ≡ false
broadcast_unsettled c [] h = refl
broadcast_unsettled c (Passing b ph ∷ p) h = settled_none p h.1
broadcast_unsettled c (f ∷ p) h = absurd h

broadcast_over : (c : ℕ) (p : Place) → BehindBroadcast c p → is_settled (resumed p) ≡ false
broadcast_over c [] h = refl
broadcast_over c (Passing b ph ∷ p) h = ap (λ (q : Place). is_settled (resumed q)) h.1
broadcast_over c (f ∷ p) h = absurd h

either_unsettled : (b : Bool) (p q : Place) → is_settled p ≡ false → is_settled q ≡ false → is_settled (cond b p q) ≡ false
either_unsettled true p q x y = x
either_unsettled false p q x y = y

-- a job after which the seat isn't settled
abbrev Unsettles : Job → Type 0
Unsettles (job.Prepare c) = ⊥
Unsettles (job.Resleep c) = ⊥
Unsettles (job.Notice b ph) = ⊥
Unsettles j = Unit {0}

module _ (cvs : ℕ) (t : Option ℕ) (own : ℕ) (list : List ℕ) (found : Record) where
  over : (p : Place) → p ≡ [] → is_settled (resumed p) ≡ false
  over p is = ap (λ (q : Place). is_settled (resumed q)) is

  cancel_over : (p : Place) → BehindCancel cvs t p → is_settled (resumed p) ≡ false
  cancel_over [] h = refl
  cancel_over (Preparing c ∷ p) h = prepare_unsettled c p h.1
  cancel_over (Broadcasting c ∷ p) h = broadcast_unsettled c p h.1
  cancel_over (Returning b ph ∷ p) h = over p h
  cancel_over (f ∷ p) h = absurd h

  passes_over : (passes : Bool) (b : ℕ) (p : Place) → p ≡ [] → is_settled (passes_on passes b found p) ≡ false
  passes_over true b p is = settled_none p is
  passes_over false b p is = over p is

  signals_over : (c : ℕ) (l : List ℕ) (p : Place) → p ≡ [] → is_settled (goes_on (job.Signal c) own l found p) ≡ false
  signals_over c [] p is = over p is
  signals_over c (q ∷ rest) p is = settled_none p is

  rouses_over : (c : ℕ) (l : List ℕ) (p : Place) → BehindBroadcast c p → is_settled (rouses c l p) ≡ false
  rouses_over c [] p h = broadcast_over c p h
  rouses_over c (q ∷ rest) p h = broadcast_unsettled c p h

  rouses_on_over : (c : ℕ) (l : List ℕ) (p : Place) → BehindBroadcast c p → is_settled (rouses_on c own l p) ≡ false
  rouses_on_over c [] p h = broadcast_over c p h
  rouses_on_over c (q ∷ rest) p h = either_unsettled (eqb q own) (resumed p) (Rousing c q (is_listed own rest) ∷ p) (broadcast_over c p h) (broadcast_unsettled c p h)

  unsettled : (j : Job) (p : Place) → Unsettles j → JobFits cvs t j p → is_settled (goes_on j own list found p) ≡ false
  unsettled (job.Cancel c) p other h = cancel_over p h.2
  unsettled (job.Signal c) p other h = signals_over c list p h.1
  unsettled (job.Broadcast c) p other h = rouses_over c list p h.2
  unsettled (job.Rebroadcast c) p other h = rouses_on_over c list p h.2
  unsettled (job.Attach b) p other h = over p h
  unsettled (job.Arrive b) p other h = either_unsettled (is_worn found) (resumed p) (cond (is_last found) (Passing b found.phase ∷ p) (Settling b found.phase ∷ p)) (over p h.1) (either_unsettled (is_last found) (Passing b found.phase ∷ p) (Settling b found.phase ∷ p) (settled_none p h.1) (settled_none p h.1))
  unsettled (job.Detach b) p other h = passes_over (is_awaited found) b p h.1
  unsettled (job.ArriveDetach b) p other h = either_unsettled (is_worn found) (resumed p) (passes_on (is_last found) b found p) (over p h.1) (passes_over (is_last found) b p h.1)
  unsettled (job.ExceptLast b) p other h = over p h
  unsettled j p other h = absurd other

  -- who is settled then heeds its signal
  abbrev HeedsSettled : Job → Place → Type 0
  HeedsSettled j p = (h : Bool) → (is_settled (Holding j list found ∷ p) ≡ true → h ≡ true) → is_settled (goes_on j own list found p) ≡ true → heeds_after j own list h ≡ true

  resleep_heeds : (c : ℕ) (p : Place) → BehindSleep c p → HeedsSettled (job.Resleep c) p
  resleep_heeds c [] fit h heeds settled = absurd (let none = either_unsettled (is_listed own list) (SleepWaiting c ∷ []) [] refl refl in cc)
  resleep_heeds c (Dozing b ph ∷ p) fit h heeds settled = by_test (is_listed own list)
    where
      by_test : (l : Bool) → cond l h true ≡ true
      by_test true = heeds refl
      by_test false = refl
  resleep_heeds c (f ∷ p) fit h heeds settled = absurd fit

  heeds_apart : (j : Job) (p : Place) → Unsettles j → JobFits cvs t j p → HeedsSettled j p
  heeds_apart j p other fit h heeds settled = absurd (let none = unsettled j p other fit in cc)

  pub freed_heeds : (j : Job) (p : Place) → JobFits cvs t j p → HeedsSettled j p
  freed_heeds (job.Prepare c) p fit h heeds settled = refl
  freed_heeds (job.Resleep c) p fit h heeds settled = resleep_heeds c p fit.2 h heeds settled
  freed_heeds (job.Notice b ph) p fit h heeds settled = heeds refl
  freed_heeds j p fit h heeds settled = heeds_apart j p tt fit h heeds settled

  -- who sleeps in an arrival then slept there before, and is on the list; or it found that its phase hasn't passed
  abbrev StillDozes : Job → Place → Type 0
  StillDozes j p = ((dozes p ≡ true) × (is_listed own list ≡ true) × ((c : ℕ) × (j ≡ job.Resleep c))) ⊎ ((d : ℕ) × (g : ℕ) × (j ≡ job.Notice d g) × (has_passed g found ≡ false))

  resleep_dozes : (c : ℕ) (p : Place) → BehindSleep c p → dozes (goes_on (job.Resleep c) own list found p) ≡ true → StillDozes (job.Resleep c) p
  resleep_dozes c p fit is = by_test (is_listed own list) refl is
    where
      noticing : (p : Place) → BehindSleep c p → dozes (resumed p) ≡ true → ⊥
      noticing [] fit is = cc
      noticing (Dozing d g ∷ p) fit is = let none = ap dozes fit.1 in cc
      noticing (f ∷ p) fit is = fit

      by_test : (l : Bool) → is_listed own list ≡ l → dozes (cond l (SleepWaiting c ∷ p) (resumed p)) ≡ true → StillDozes (job.Resleep c) p
      by_test true there e = inl (e, there, (c, refl))
      by_test false there e = absurd (noticing p fit e)

  notice_dozes : (d g : ℕ) (p : Place) → p ≡ [] → dozes (goes_on (job.Notice d g) own list found p) ≡ true → StillDozes (job.Notice d g) p
  notice_dozes d g p none is = by_test (has_passed g found) refl is
    where
      by_test : (passed : Bool) → has_passed g found ≡ passed → dozes (cond passed (Returning d g ∷ p) (Dozing d g ∷ p)) ≡ true → StillDozes (job.Notice d g) p
      by_test true e is' = absurd (let no = ap dozes none in cc)
      by_test false e is' = inr (d, g, refl, e)

  prepare_dozes : (c : ℕ) (p : Place) → BehindPrepare c p → dozes (resumed p) ≡ false
  prepare_dozes c [] fit = refl
  prepare_dozes c (Settling b ph ∷ p) fit = ap dozes fit.1
  prepare_dozes c (f ∷ p) fit = absurd fit

  dozes_apart : (j : Job) (p : Place) → Unsettles j → JobFits cvs t j p → dozes (goes_on j own list found p) ≡ true → StillDozes j p
  dozes_apart j p other fit is = absurd (let none = unsettled j p other fit in let some = settled_dozing (goes_on j own list found p) is in cc)

  pub freed_dozes : (j : Job) (p : Place) → JobFits cvs t j p → dozes (goes_on j own list found p) ≡ true → StillDozes j p
  freed_dozes (job.Prepare c) p fit is = absurd (let none = prepare_dozes c p fit.2 in cc)
  freed_dozes (job.Resleep c) p fit is = resleep_dozes c p fit.2 is
  freed_dozes (job.Notice d g) p fit is = notice_dozes d g p fit.2 is
  freed_dozes j p fit is = dozes_apart j p tt fit is

  -- A PASSER leaves its target's list first; then it has the list of its broadcast in hand
  abbrev PassesOn : Job → Place → ℕ → ℕ → Type 0
  PassesOn j p b ph = ((passed_at (goes_on j own list found p) ≡ Some (b, ph)) × (has_freed (goes_on j own list found p) ≡ false)) ⊎ ((p ≡ Passing b ph ∷ []) × (t ≡ None) × ((j ≡ job.Broadcast b) ⊎ (j ≡ job.Rebroadcast b)))

  module _ (b ph : ℕ) where
    unpassed : (p : Place) → p ≡ [] → passed_at p ≡ Some (b, ph) → ⊥
    unpassed p none is = let e = ap passed_at none in cc

    prepare_unpassed : (c : ℕ) (p : Place) → BehindPrepare c p → passed_at p ≡ Some (b, ph) → ⊥
    prepare_unpassed c [] fit is = cc
    prepare_unpassed c (Settling d g ∷ p) fit is = unpassed p fit.1 is
    prepare_unpassed c (f ∷ p) fit is = fit

    sleep_unpassed : (c : ℕ) (p : Place) → BehindSleep c p → passed_at p ≡ Some (b, ph) → ⊥
    sleep_unpassed c [] fit is = cc
    sleep_unpassed c (Dozing d g ∷ p) fit is = unpassed p fit.1 is
    sleep_unpassed c (f ∷ p) fit is = fit

    cancel_passes : (c : ℕ) (p : Place) → BehindCancel cvs t p → passed_at p ≡ Some (b, ph) → PassesOn (job.Cancel c) p b ph
    cancel_passes c [] fit is = absurd (cc)
    cancel_passes c (Preparing d ∷ p) fit is = absurd (prepare_unpassed d p fit.1 is)
    cancel_passes c (Broadcasting d ∷ p) fit is = inl (is, refl)
    cancel_passes c (Returning d g ∷ p) fit is = absurd (unpassed p fit is)
    cancel_passes c (f ∷ p) fit is = absurd fit

    broadcast_behind : (c : ℕ) (p : Place) → BehindBroadcast c p → passed_at p ≡ Some (b, ph) → (p ≡ Passing b ph ∷ []) × (c ≡ b)
    broadcast_behind c [] fit is = absurd (cc)
    broadcast_behind c (Passing d g ∷ p) fit is = let same = same_waited d g b ph is in ((λ i. Passing (same.0 i) (same.1 i) ∷ fit.1 i), sym fit.0 ∙ same.0)
    broadcast_behind c (f ∷ p) fit is = absurd fit

    pub passer_frees : (j : Job) (p : Place) → JobFits cvs t j p → passed_at p ≡ Some (b, ph) → PassesOn j p b ph
    passer_frees (job.Cancel c) p fit is = cancel_passes c p fit.2 is
    passer_frees (job.Prepare c) p fit is = absurd (prepare_unpassed c p fit.2 is)
    passer_frees (job.Resleep c) p fit is = absurd (sleep_unpassed c p fit.2 is)
    passer_frees (job.Signal c) p fit is = absurd (unpassed p fit.1 is)
    passer_frees (job.Broadcast c) p fit is = let e = broadcast_behind c p fit.2 is in inr (e.0, fit.1, inl (ap job.Broadcast e.1))
    passer_frees (job.Rebroadcast c) p fit is = let e = broadcast_behind c p fit.2 is in inr (e.0, fit.1, inr (ap job.Rebroadcast e.1))
    passer_frees (job.Attach d) p fit is = absurd (unpassed p fit is)
    passer_frees (job.Arrive d) p fit is = absurd (unpassed p fit.1 is)
    passer_frees (job.Notice d g) p fit is = absurd (unpassed p fit.2 is)
    passer_frees (job.Detach d) p fit is = absurd (unpassed p fit.1 is)
    passer_frees (job.ArriveDetach d) p fit is = absurd (unpassed p fit.1 is)
    passer_frees (job.ExceptLast d) p fit is = absurd (unpassed p fit is)

    -- while its sentinel is listed it is under way
    pub rouses_passed : (l : List ℕ) → sentinel_at (rouses b l (Passing b ph ∷ [])) ≡ Some b → passed_at (rouses b l (Passing b ph ∷ [])) ≡ Some (b, ph)
    rouses_passed [] is = absurd (cc)
    rouses_passed (q ∷ rest) is = refl

    pub rouses_on_passed : (l : List ℕ) → sentinel_at (rouses_on b own l (Passing b ph ∷ [])) ≡ Some b → passed_at (rouses_on b own l (Passing b ph ∷ [])) ≡ Some (b, ph)
    rouses_on_passed [] is = absurd (cc)
    rouses_on_passed (q ∷ rest) is = by_test (eqb q own) is
      where
        by_test : (x : Bool) → sentinel_at (cond x [] (Rousing b q (is_listed own rest) ∷ Passing b ph ∷ [])) ≡ Some b → passed_at (cond x [] (Rousing b q (is_listed own rest) ∷ Passing b ph ∷ [])) ≡ Some (b, ph)
        by_test true e = absurd (cc)
        by_test false e = refl

  -- A PHASE PASSES by the free of one who broadcasts then, or who is the only one that takes part
  abbrev Passes : Job → Place → ℕ → Type 0
  Passes j p b = ((left_record j found).phase ≡ found.phase)
      ⊎ (((passed_at (goes_on j own list found p) ≡ Some (b, found.phase)) × (has_freed (goes_on j own list found p) ≡ false) × (dozes (goes_on j own list found p) ≡ false))
      ⊎ ((found.participants ≡ 1) × (j ≡ job.ExceptLast b) × (dozes (goes_on j own list found p) ≡ false)))

  bar_is : (d b : ℕ) → Bar d ≡ Bar b → d ≡ b
  bar_is d b e = cc

  pub phase_passes : (j : Job) (p : Place) (b : ℕ) → JobFits cvs t j p → spot_of j ≡ Bar b → Passes j p b
  phase_passes (job.Attach d) p b fit is = inl refl
  phase_passes (job.Arrive d) p b fit is = by_test (is_worn found) (is_last found)
    where
      by_test : (worn last : Bool) → let left = cond worn found (cond last (record { phase = found.phase + 1; participants = found.participants; arrived = 0; elected = found.phase + 1 }) (record found { arrived = found.arrived + 1 })) in
          let q = cond worn (resumed p) (cond last (Passing d found.phase ∷ p) (Settling d found.phase ∷ p)) in
          (left.phase ≡ found.phase) ⊎ (((passed_at q ≡ Some (b, found.phase)) × (has_freed q ≡ false) × (dozes q ≡ false)) ⊎ ((found.participants ≡ 1) × (job.Arrive d ≡ job.ExceptLast b) × (dozes q ≡ false)))
      by_test true last = inl refl
      by_test false true = inr (inl (ap (λ (n : ℕ). waited n found.phase) (bar_is d b is), refl, ap dozes fit.1))
      by_test false false = inl refl
  phase_passes (job.Notice d g) p b fit is = inl (by_test (has_passed g found))
    where
      by_test : (passed : Bool) → (cond passed (record found { elected = found.phase }) found).phase ≡ found.phase
      by_test true = refl
      by_test false = refl
  phase_passes (job.Detach d) p b fit is = by_test (is_awaited found)
    where
      by_test : (passes : Bool) → let q = passes_on passes d found p in
          ((departed passes found).phase ≡ found.phase) ⊎ (((passed_at q ≡ Some (b, found.phase)) × (has_freed q ≡ false) × (dozes q ≡ false)) ⊎ ((found.participants ≡ 1) × (job.Detach d ≡ job.ExceptLast b) × (dozes q ≡ false)))
      by_test true = inr (inl (ap (λ (n : ℕ). waited n found.phase) (bar_is d b is), refl, ap dozes fit.1))
      by_test false = inl refl
  phase_passes (job.ArriveDetach d) p b fit is = by_test (is_worn found) (is_last found)
    where
      by_test : (worn last : Bool) → let q = cond worn (resumed p) (passes_on last d found p) in
          ((cond worn found (departed last found)).phase ≡ found.phase) ⊎ (((passed_at q ≡ Some (b, found.phase)) × (has_freed q ≡ false) × (dozes q ≡ false)) ⊎ ((found.participants ≡ 1) × (job.ArriveDetach d ≡ job.ExceptLast b) × (dozes q ≡ false)))
      by_test true last = inl refl
      by_test false true = inr (inl (ap (λ (n : ℕ). waited n found.phase) (bar_is d b is), refl, ap dozes fit.1))
      by_test false false = inl refl
  phase_passes (job.ExceptLast d) p b fit is = by_test (is_worn found) (is_only found) refl
    where
      by_test : (worn only : Bool) → is_only found ≡ only →
          ((cond worn found (cond only (record found { phase = found.phase + 1 }) (record found { participants = found.participants - 1 }))).phase ≡ found.phase)
          ⊎ (((passed_at (resumed p) ≡ Some (b, found.phase)) × (has_freed (resumed p) ≡ false) × (dozes (resumed p) ≡ false)) ⊎ ((found.participants ≡ 1) × (job.ExceptLast d ≡ job.ExceptLast b) × (dozes (resumed p) ≡ false)))
      by_test true only e = inl refl
      by_test false true e = inr (inr (eqb-true found.participants 1 e, ap job.ExceptLast (bar_is d b is), ap (λ (q : Place). dozes (resumed q)) fit))
      by_test false false e = inl refl
  phase_passes j p b fit is = absurd (cc)
