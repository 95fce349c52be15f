-- What each step does to what its seat has in hand.
use Rattle.std.proofs.Common.{◌≡◌, ℕ, ◌+◌, eqb, Bool, true, false, cond, List, [], ◌∷◌, Option, None, Some, refl, sym, ap, ◌∙◌, subst}
use Rattle.wait_core.specs.declared.step.Until.{Until}
use Rattle.wait_core.specs.declared.step.Until.TheVariants.{Latch, LatchOrShutdown}
use Rattle.wait_core.specs.declared.step.Spot.{Spot}
use Rattle.wait_core.specs.declared.step.Spot.TheVariants.{Cv}
use Rattle.wait_core.specs.declared.step.Call.{Call}
use Rattle.wait_core.specs.declared.step.Call.TheVariants as call
use Rattle.wait_core.specs.declared.step.WaitStep.{WaitStep}
use Rattle.wait_core.specs.declared.step.WaitStep.TheVariants.{Sload, Sset, Reset, Mstore, Mload, Byte, Look, Drain, Shload, Shstore, Take, Spin, Free}
use Rattle.wait_core.specs.declared.view.Frame.{Frame}
use Rattle.wait_core.specs.declared.view.Frame.TheVariants.{Setting, Telling, Waking, Announcing, Rechecking, CheckingShutdown, Looking, Asleep, Retracting, Draining, Repeating, LeavingSet, LeavingShutdown, Stopping, Taking, Spinning, Holding, Resetting, SleepWaiting, Preparing, Broadcasting, Signalling, Rousing, Settling, Dozing, Passing, Returning}
use Rattle.wait_core.specs.declared.view.Job.{Job}
use Rattle.wait_core.specs.declared.view.Job.TheVariants as job
use Rattle.wait_core.specs.declared.view.Kept.{Kept}
use Rattle.wait_core.specs.declared.view.Record.{Record}
use Rattle.wait_core.specs.declared.view.Size.{Size}
use Rattle.wait_core.specs.Words.{slot_of}
use Rattle.wait_core.specs.Lists.{is_listed}
use Rattle.wait_core.specs.Jobs.{spot_of, is_worn, is_last, is_awaited, has_passed, resumed, passes_on, goes_on}
use Rattle.wait_core.specs.Machine.{Place, top, outer, begun, reloaded, marked, woken, looked, drained, reset, entered, taken, spun, freed, place_then, MayBegin, MayReload, MayMark, MayWake, MayLook, MayDrain, MayReset, MayTake, MaySpin, MayFree, takes_first, Permits}
use Rattle.wait_core.specs.Fits.{BehindPrepare, BehindSleep, BehindBroadcast, BehindSet, BehindWait, BehindCancel, JobFits, Fits}
use Rattle.wait_core.specs.Stances.{hand_at, slot_in}
use Rattle.wait_core.specs.Barriers.{waits_at, asked_by, asked, asks_at, asks_then}
use Rattle.wait_core.specs.Told.{slot_then}
use Rattle.wait_core.proofs.Effects.{at_top}

-- the slot that is in hand, and the job on a barrier
abbrev Grasp : Type 0
Grasp = Option ℕ × Option Job

abbrev grasp : Place → Grasp
grasp p = (slot_in (hand_at p), asks_at p)

abbrev nothing : Grasp
nothing = (None, None)

abbrev IsFree : Place → Type 0
IsFree p = grasp p ≡ nothing

either_free : (b : Bool) (p q : Place) → IsFree p → IsFree q → IsFree (cond b p q)
either_free true p q x y = x
either_free false p q x y = y

end_free : (p : Place) → p ≡ [] → IsFree (resumed p)
end_free p is = subst (λ (q : Place). IsFree (resumed q)) (sym is) refl

top_free : (p : Place) (f : Frame) → ((q : Place) → IsFree (f ∷ q)) → top p ≡ Some f → IsFree p
top_free p f free is = subst IsFree (sym (at_top p f is)) (free (outer p))

begin_free : (c : Call) (p : Place) → MayBegin c p → IsFree p
begin_free c [] ok = refl
begin_free c (Signalling d q ∷ p) ok = refl
begin_free c (Rousing d q more ∷ p) ok = refl
begin_free c (SleepWaiting d ∷ p) ok = refl
begin_free c (Settling b ph ∷ p) ok = refl
begin_free c (Dozing b ph ∷ p) ok = refl
begin_free c (Passing b ph ∷ p) ok = refl
begin_free c (Returning b ph ∷ p) ok = refl
begin_free c (f ∷ p) ok = absurd ok

module _ (cvs : ℕ) (t : Option ℕ) where
  prepare_free : (c : ℕ) (p : Place) → BehindPrepare c p → IsFree (resumed p)
  prepare_free c [] h = refl
  prepare_free c (Settling b ph ∷ p) h = refl
  prepare_free c (f ∷ p) h = absurd h

  sleep_free : (c : ℕ) (p : Place) → BehindSleep c p → IsFree (resumed p)
  sleep_free c [] h = refl
  sleep_free c (Dozing b ph ∷ p) h = refl
  sleep_free c (f ∷ p) h = absurd h

  broadcast_free : (c : ℕ) (p : Place) → BehindBroadcast c p → IsFree (resumed p)
  broadcast_free c [] h = refl
  broadcast_free c (Passing b ph ∷ p) h = end_free p h.1
  broadcast_free c (f ∷ p) h = absurd h

  roused_free : (c q : ℕ) (more : Bool) (p : Place) → BehindBroadcast c p → IsFree (resumed (Rousing c q more ∷ p))
  roused_free c q more p h = either_free more (Taking (job.Rebroadcast c) ∷ p) (resumed p) refl (broadcast_free c p h)

  set_free : (q : ℕ) (p : Place) → BehindSet cvs t q p → IsFree (resumed p)
  set_free q [] h = refl
  set_free q (Signalling c r ∷ p) h = end_free p h.1
  set_free q (Rousing c r more ∷ p) h = roused_free c r more p h.3
  set_free q (f ∷ p) h = absurd h

  wait_free : (w : Until) (p : Place) → BehindWait cvs t w p → IsFree (resumed p)
  wait_free w [] h = refl
  wait_free w (SleepWaiting c ∷ p) h = refl
  wait_free w (f ∷ p) h = absurd h

  cancel_free : (p : Place) → BehindCancel cvs t p → IsFree (resumed p)
  cancel_free [] h = refl
  cancel_free (Preparing c ∷ p) h = refl
  cancel_free (Broadcasting c ∷ p) h = refl
  cancel_free (Returning b ph ∷ p) h = end_free p h
  cancel_free (f ∷ p) h = absurd h

  resume_free : (c : Call) (p : Place) → MayBegin c p → Fits cvs t p → IsFree (resumed p)
  resume_free c [] ok fit = refl
  resume_free c (Signalling d q ∷ p) ok fit = end_free p fit
  resume_free c (Rousing d q more ∷ p) ok fit = roused_free d q more p fit.2
  resume_free c (SleepWaiting d ∷ p) ok fit = refl
  resume_free c (Settling b ph ∷ p) ok fit = refl
  resume_free c (Dozing b ph ∷ p) ok fit = refl
  resume_free c (Passing b ph ∷ p) ok fit = end_free p fit.1
  resume_free c (Returning b ph ∷ p) ok fit = end_free p fit.1
  resume_free c (f ∷ p) ok fit = absurd ok

  begun_free : (clear : Bool) (c : Call) (p : Place) → MayBegin c p → Fits cvs t p → IsFree (begun c clear p)
  begun_free clear (call.Set q) p ok fit = either_free clear (Setting q ∷ p) (resumed p) refl (resume_free (call.Set q) p ok fit)
  begun_free clear (call.Wait w) p ok fit = either_free clear (Announcing w ∷ p) (resumed p) refl (resume_free (call.Wait w) p ok fit)
  begun_free clear (call.Sleep c) p ok fit = either_free clear (Announcing Latch ∷ SleepWaiting c ∷ p) (Resetting c ∷ p) refl refl
  begun_free clear c p ok fit = begin_free c p ok

  -- before and after a step that takes and frees nothing
  abbrev FreeBoth : Place → Place → Type 0
  FreeBoth p q = IsFree p × IsFree q

  reloaded_free : (clear : Bool) (p : Place) → MayReload (top p) → Fits cvs t p → FreeBoth p (reloaded clear p)
  reloaded_free clear (Repeating w ∷ p) ok fit = (refl, either_free clear (Announcing w ∷ p) (resumed p) refl (wait_free w p fit))
  reloaded_free true (Rechecking Latch ∷ p) ok fit = (refl, refl)
  reloaded_free true (Rechecking LatchOrShutdown ∷ p) ok fit = (refl, refl)
  reloaded_free false (Rechecking w ∷ p) ok fit = (refl, refl)
  reloaded_free clear p ok fit = absurd ok

  marked_free : (may : Bool) (p : Place) → MayMark may (top p) → Fits cvs t p → FreeBoth p (marked p)
  marked_free true (Announcing w ∷ p) ok fit = (refl, refl)
  marked_free false (Retracting w ∷ p) ok fit = (refl, refl)
  marked_free false (LeavingSet ∷ p) ok fit = (refl, wait_free Latch p fit)
  marked_free false (LeavingShutdown ∷ p) ok fit = (refl, end_free p fit)
  marked_free true p ok fit = absurd ok
  marked_free false p ok fit = absurd ok

  woken_free : (z : Size) (q : ℕ) (p : Place) → MayWake q (top p) → Fits cvs t p → FreeBoth p (woken z q p)
  woken_free z q (Waking r ∷ p) ok fit = (refl, set_free r p fit)
  woken_free z q (Stopping r ∷ p) ok fit = (refl, either_free (eqb (q + 1) z.procs) (resumed p) (Stopping (q + 1) ∷ p) (end_free p fit) refl)
  woken_free z q p ok fit = absurd ok

  looked_free : (clear : Bool) (p : Place) → MayLook (top p) → FreeBoth p (looked clear p)
  looked_free clear (Looking w ∷ p) ok = (refl, either_free clear (Asleep w ∷ p) (Retracting w ∷ p) refl refl)
  looked_free clear (Asleep w ∷ p) ok = (refl, either_free clear (Asleep w ∷ p) (Retracting w ∷ p) refl refl)
  looked_free clear p ok = absurd ok

  drained_free : (p : Place) → MayDrain (top p) → FreeBoth p (drained p)
  drained_free (Draining w ∷ p) ok = (refl, refl)
  drained_free p ok = absurd ok

  reset_free : (p : Place) → MayReset (top p) → FreeBoth p (reset p)
  reset_free (Resetting c ∷ p) ok = (refl, refl)
  reset_free p ok = absurd ok

  spun_same : (x : Spot) (clear : Bool) (p : Place) → MaySpin x (top p) → grasp (spun clear p) ≡ grasp p
  spun_same x true (Spinning j ∷ p) ok = refl
  spun_same x false (Spinning j ∷ p) ok = refl
  spun_same x clear p ok = absurd ok

  passes_free : (passes : Bool) (b : ℕ) (found : Record) (p : Place) → p ≡ [] → IsFree (passes_on passes b found p)
  passes_free true b found p h = refl
  passes_free false b found p h = end_free p h

  goes_free : (j : Job) (own : ℕ) (list : List ℕ) (found : Record) (p : Place) → JobFits cvs t j p → IsFree (goes_on j own list found p)
  goes_free (job.Cancel c) own list found p h = cancel_free p h.2
  goes_free (job.Prepare c) own list found p h = prepare_free c p h.2
  goes_free (job.Resleep c) own list found p h = either_free (is_listed own list) (SleepWaiting c ∷ p) (resumed p) refl (sleep_free c p h.2)
  goes_free (job.Signal c) own [] found p h = end_free p h.1
  goes_free (job.Signal c) own (q ∷ rest) found p h = refl
  goes_free (job.Broadcast c) own [] found p h = broadcast_free c p h.2
  goes_free (job.Broadcast c) own (q ∷ rest) found p h = refl
  goes_free (job.Rebroadcast c) own [] found p h = broadcast_free c p h.2
  goes_free (job.Rebroadcast c) own (q ∷ rest) found p h = either_free (eqb q own) (resumed p) (Rousing c q (is_listed own rest) ∷ p) (broadcast_free c p h.2) refl
  goes_free (job.Attach b) own list found p h = end_free p h
  goes_free (job.Arrive b) own list found p h = either_free (is_worn found) (resumed p) (cond (is_last found) (Passing b found.phase ∷ p) (Settling b found.phase ∷ p)) (end_free p h.1) (either_free (is_last found) (Passing b found.phase ∷ p) (Settling b found.phase ∷ p) refl refl)
  goes_free (job.Notice b ph) own list found p h = either_free (has_passed ph found) (Returning b ph ∷ p) (Dozing b ph ∷ p) refl refl
  goes_free (job.Detach b) own list found p h = passes_free (is_awaited found) b found p h.1
  goes_free (job.ArriveDetach b) own list found p h = either_free (is_worn found) (resumed p) (passes_on (is_last found) b found p) (end_free p h.1) (passes_free (is_last found) b found p h.1)
  goes_free (job.ExceptLast b) own list found p h = end_free p h

  freed_free : (x : Spot) (after : Option ℕ) (own : ℕ) (p : Place) → MayFree x after t (top p) → Fits cvs t p → IsFree (freed own p)
  freed_free x after own (Holding j list found ∷ p) ok fit = goes_free j own list found p fit
  freed_free x after own p ok fit = absurd ok

-- a spin word is taken for the job: it is that of the step
job_hand : (z : Size) (x : Spot) (clear : Bool) (found : Kept) (j : Job) (p : Place) → spot_of j ≡ x → grasp (taken clear found (Taking j ∷ p)) ≡ (cond clear (Some (slot_of x)) None, asked j)
job_hand z x true found j p is = λ i. (Some (slot_of (is i)), asked j)
job_hand z x false found j p is = refl

taken_hand : (z : Size) (x : Spot) (clear : Bool) (found : Kept) (p : Place) → MayTake x (top p) → grasp (taken clear found p) ≡ (cond clear (Some (slot_of x)) (slot_in (hand_at p)), asks_at p)
taken_hand z x clear found (Taking j ∷ p) ok = job_hand z x clear found j p ok
taken_hand z x clear found p ok = absurd ok

entered_hand : (z : Size) (x : Spot) (clear : Bool) (found : Kept) (t : Option ℕ) (c : Call) (p : Place) → takes_first t c ≡ Some x → grasp (taken clear found (entered t c p)) ≡ (cond clear (Some (slot_of x)) None, asked_by c)
entered_hand z x clear found None (call.Prepare c) p is = job_hand z x clear found (job.Prepare c) p (cc)
entered_hand z x clear found None (call.Broadcast c) p is = job_hand z x clear found (job.Broadcast c) p (cc)
entered_hand z x clear found None (call.Sleep c) p is = job_hand z x clear found (job.Prepare c) p (cc)
entered_hand z x clear found (Some s) call.Cancel p is = job_hand z x clear found (job.Cancel s) p (cc)
entered_hand z x clear found (Some s) (call.Prepare c) p is = job_hand z x clear found (job.Cancel s) (Preparing c ∷ p) (cc)
entered_hand z x clear found (Some s) (call.Broadcast c) p is = job_hand z x clear found (job.Cancel s) (Broadcasting c ∷ p) (cc)
entered_hand z x clear found (Some s) (call.Sleep c) p is = job_hand z x clear found (job.Cancel s) (Preparing c ∷ p) (other_target (eqb s c) is)
  where
    other_target : (same : Bool) → cond same None (Some (Cv s)) ≡ Some x → Cv s ≡ x
    other_target true e = absurd (cc)
    other_target false e = cc
entered_hand z x clear found t (call.Signal c) p is = job_hand z x clear found (job.Signal c) p (cc)
entered_hand z x clear found t (call.Attach b) p is = job_hand z x clear found (job.Attach b) p (cc)
entered_hand z x clear found t (call.Arrive b) p is = job_hand z x clear found (job.Arrive b) p (cc)
entered_hand z x clear found t (call.Detach b) p is = job_hand z x clear found (job.Detach b) p (cc)
entered_hand z x clear found t (call.ArriveDetach b) p is = job_hand z x clear found (job.ArriveDetach b) p (cc)
entered_hand z x clear found t (call.ExceptLast b) p is = job_hand z x clear found (job.ExceptLast b) p (cc)
entered_hand z x clear found t c p is = absurd (cc)

unchanged : (p q : Place) → IsFree p → IsFree q → grasp q ≡ grasp p
unchanged p q a b = b ∙ sym a

-- what is in hand after a step, and the job on a barrier
abbrev grasp_then : WaitStep → ℕ → Place → Grasp
grasp_then k n p = (slot_then k n (slot_in (hand_at p)), asks_then k p)

follows : (z : Size) (t : Option ℕ) (k : WaitStep) (own : Option ℕ) (o n : ℕ) (found : Kept) (p : Place) → Permits z k own t p → Fits z.cvs t p → grasp (place_then z k n found record { own = o; target = t; place = p }) ≡ grasp_then k n p
follows z t (Sload q (Some c)) own o n found p ok fit = unchanged p _ (begin_free c p ok.1) (begun_free z.cvs t (eqb n 0) c p ok.1 fit)
follows z t (Sload q None) own o n found p ok fit = let h = reloaded_free z.cvs t (eqb n 0) p ok.1 fit in unchanged p _ h.0 h.1
follows z t (Sset q) own o n found p ok fit = unchanged p (Telling q ∷ outer p) (top_free p (Setting q) (λ x. refl) ok.1) refl
follows z t (Reset (Some c)) own o n found p ok fit = refl
follows z t (Reset None) own o n found p ok fit = let h = reset_free z.cvs t p ok in unchanged p _ h.0 h.1
follows z t (Mstore may) own o n found p ok fit = let h = marked_free z.cvs t may p ok fit in unchanged p _ h.0 h.1
follows z t (Mload q) own o n found p ok fit =
    unchanged p _ (top_free p (Telling q) (λ x. refl) ok.1) (either_free (eqb n 0) (resumed (outer p)) (Waking q ∷ outer p) (set_free z.cvs t q (outer p) (subst (Fits z.cvs t) (at_top p (Telling q) ok.1) fit)) refl)
follows z t (Byte q) own o n found p ok fit = let h = woken_free z.cvs t z q p ok.1 fit in unchanged p _ h.0 h.1
follows z t Look own o n found p ok fit = let h = looked_free z.cvs t (eqb n 0) p ok in unchanged p _ h.0 h.1
follows z t Drain own o n found p ok fit = let h = drained_free z.cvs t p ok in unchanged p _ h.0 h.1
follows z t (Shload (Some c)) own o n found p ok fit = refl
follows z t (Shload None) own o n found p ok fit = unchanged p _ (top_free p CheckingShutdown (λ x. refl) ok) (either_free (eqb n 0) (Looking LatchOrShutdown ∷ outer p) (LeavingShutdown ∷ outer p) refl refl)
follows z t (Shstore b) own o n found p ok fit = unchanged p (Stopping 0 ∷ p) (begin_free call.Shut p ok.1) refl
follows z t (Take x (Some c)) own o n found p ok fit = entered_hand z x (eqb n 0) found t c p ok.1 ∙ sym (ap (λ (out : Option ℕ). (cond (eqb n 0) (Some (slot_of x)) out, asked_by c)) (ap (λ (g : Grasp). g.0) (begin_free c p ok.3)))
follows z t (Take x None) own o n found p ok fit = taken_hand z x (eqb n 0) found p ok.1
follows z t (Spin x) own o n found p ok fit = spun_same z.cvs t x (eqb n 0) p ok.1
follows z t (Free x after) own o n found p ok fit = freed_free z.cvs t x after o p ok.1 fit

pub hand_follows : (z : Size) (t : Option ℕ) (k : WaitStep) (own : Option ℕ) (o n : ℕ) (found : Kept) (p : Place) → Permits z k own t p → Fits z.cvs t p → slot_in (hand_at (place_then z k n found record { own = o; target = t; place = p })) ≡ slot_then k n (slot_in (hand_at p))
hand_follows z t k own o n found p ok fit = ap (λ (g : Grasp). g.0) (follows z t k own o n found p ok fit)

pub asks_follows : (z : Size) (t : Option ℕ) (k : WaitStep) (own : Option ℕ) (o n : ℕ) (found : Kept) (p : Place) → Permits z k own t p → Fits z.cvs t p → asks_at (place_then z k n found record { own = o; target = t; place = p }) ≡ asks_then k p
asks_follows z t k own o n found p ok fit = ap (λ (g : Grasp). g.1) (follows z t k own o n found p ok fit)

-- WHERE A SEAT WAITS. A program that ends above a place changes nothing of it
pub waits_resumed : (p : Place) → waits_at (resumed p) ≡ waits_at p
waits_resumed [] = refl
waits_resumed (SleepWaiting c ∷ p) = refl
waits_resumed (Preparing c ∷ p) = refl
waits_resumed (Broadcasting c ∷ p) = refl
waits_resumed (Signalling c q ∷ p) = waits_resumed p
waits_resumed (Rousing c q true ∷ p) = refl
waits_resumed (Rousing c q false ∷ p) = waits_resumed p
waits_resumed (Settling b ph ∷ p) = refl
waits_resumed (Dozing b ph ∷ p) = refl
waits_resumed (Passing b ph ∷ p) = waits_resumed p
waits_resumed (Returning b ph ∷ p) = waits_resumed p
waits_resumed (f ∷ p) = refl

pub either_waits : (b : Bool) (p q : Place) (w : Option (ℕ × ℕ)) → waits_at p ≡ w → waits_at q ≡ w → waits_at (cond b p q) ≡ w
either_waits true p q w x y = x
either_waits false p q w x y = y

begun_waits : (clear : Bool) (c : Call) (p : Place) → waits_at (begun c clear p) ≡ waits_at p
begun_waits clear (call.Set q) p = either_waits clear (Setting q ∷ p) (resumed p) (waits_at p) refl (waits_resumed p)
begun_waits clear (call.Wait w) p = either_waits clear (Announcing w ∷ p) (resumed p) (waits_at p) refl (waits_resumed p)
begun_waits clear (call.Sleep c) p = either_waits clear (Announcing Latch ∷ SleepWaiting c ∷ p) (Resetting c ∷ p) (waits_at p) refl refl
begun_waits clear c p = refl

reloaded_waits : (clear : Bool) (p : Place) → waits_at (reloaded clear p) ≡ waits_at p
reloaded_waits clear (Repeating w ∷ p) = either_waits clear (Announcing w ∷ p) (resumed p) (waits_at p) refl (waits_resumed p)
reloaded_waits true (Rechecking Latch ∷ p) = refl
reloaded_waits true (Rechecking LatchOrShutdown ∷ p) = refl
reloaded_waits false (Rechecking w ∷ p) = refl
reloaded_waits clear p = refl

marked_waits : (p : Place) → waits_at (marked p) ≡ waits_at p
marked_waits (LeavingSet ∷ p) = waits_resumed p
marked_waits (LeavingShutdown ∷ p) = waits_resumed p
marked_waits p = refl

woken_waits : (z : Size) (q : ℕ) (p : Place) → waits_at (woken z q p) ≡ waits_at p
woken_waits z q (Waking r ∷ p) = waits_resumed p
woken_waits z q (Stopping r ∷ p) = either_waits (eqb (q + 1) z.procs) (resumed p) (Stopping (q + 1) ∷ p) (waits_at p) (waits_resumed p) refl
woken_waits z q p = refl

looked_waits : (clear : Bool) (p : Place) → waits_at (looked clear p) ≡ waits_at p
looked_waits true (Looking w ∷ p) = refl
looked_waits false (Looking w ∷ p) = refl
looked_waits true (Asleep w ∷ p) = refl
looked_waits false (Asleep w ∷ p) = refl
looked_waits clear p = refl

drained_waits : (p : Place) → waits_at (drained p) ≡ waits_at p
drained_waits (Draining w ∷ p) = refl
drained_waits p = refl

reset_waits : (p : Place) → waits_at (reset p) ≡ waits_at p
reset_waits (Resetting c ∷ p) = refl
reset_waits p = refl

pub spun_waits : (clear : Bool) (p : Place) → waits_at (spun clear p) ≡ waits_at p
spun_waits true (Spinning j ∷ p) = refl
spun_waits false (Spinning j ∷ p) = refl
spun_waits clear p = refl

pub taken_waits : (clear : Bool) (found : Kept) (p : Place) → waits_at (taken clear found p) ≡ waits_at p
taken_waits true found (Taking j ∷ p) = refl
taken_waits false found (Taking j ∷ p) = refl
taken_waits clear found p = refl

-- the first step of a call
pub entered_waits : (t : Option ℕ) (c : Call) (p : Place) → waits_at (entered t c p) ≡ waits_at p
entered_waits None call.Cancel p = refl
entered_waits (Some s) call.Cancel p = refl
entered_waits None (call.Prepare c) p = refl
entered_waits (Some s) (call.Prepare c) p = refl
entered_waits None (call.Sleep c) p = refl
entered_waits (Some s) (call.Sleep c) p = refl
entered_waits None (call.Broadcast c) p = refl
entered_waits (Some s) (call.Broadcast c) p = refl
entered_waits t c p = refl

-- the frames that a step names by itself
top_waits : (p : Place) (f : Frame) → ((q : Place) → waits_at (f ∷ q) ≡ waits_at q) → top p ≡ Some f → waits_at (outer p) ≡ waits_at p
top_waits p f through is = sym (ap waits_at (at_top p f is) ∙ through (outer p))

abbrev pub IsNoFree : WaitStep → Type 0
IsNoFree (Free x target) = ⊥
IsNoFree k = Unit {0}

-- a step that frees no spin word changes nothing of it
pub waits_stay : (z : Size) (t : Option ℕ) (k : WaitStep) (own : Option ℕ) (o n : ℕ) (found : Kept) (p : Place) → IsNoFree k → Permits z k own t p → waits_at (place_then z k n found record { own = o; target = t; place = p }) ≡ waits_at p
waits_stay z t (Sload q (Some c)) own o n found p apart ok = begun_waits (eqb n 0) c p
waits_stay z t (Sload q None) own o n found p apart ok = reloaded_waits (eqb n 0) p
waits_stay z t (Sset q) own o n found p apart ok = top_waits p (Setting q) (λ x. refl) ok.1
waits_stay z t (Reset (Some c)) own o n found p apart ok = refl
waits_stay z t (Reset None) own o n found p apart ok = reset_waits p
waits_stay z t (Mstore may) own o n found p apart ok = marked_waits p
waits_stay z t (Mload q) own o n found p apart ok = either_waits (eqb n 0) (resumed (outer p)) (Waking q ∷ outer p) (waits_at p) (waits_resumed (outer p) ∙ top_waits p (Telling q) (λ x. refl) ok.1) (top_waits p (Telling q) (λ x. refl) ok.1)
waits_stay z t (Byte q) own o n found p apart ok = woken_waits z q p
waits_stay z t Look own o n found p apart ok = looked_waits (eqb n 0) p
waits_stay z t Drain own o n found p apart ok = drained_waits p
waits_stay z t (Shload (Some c)) own o n found p apart ok = refl
waits_stay z t (Shload None) own o n found p apart ok = let e = top_waits p CheckingShutdown (λ x. refl) ok in either_waits (eqb n 0) (Looking LatchOrShutdown ∷ outer p) (LeavingShutdown ∷ outer p) (waits_at p) e e
waits_stay z t (Shstore b) own o n found p apart ok = refl
waits_stay z t (Take x (Some c)) own o n found p apart ok = taken_waits (eqb n 0) found (entered t c p) ∙ entered_waits t c p
waits_stay z t (Take x None) own o n found p apart ok = taken_waits (eqb n 0) found p
waits_stay z t (Spin x) own o n found p apart ok = spun_waits (eqb n 0) p
waits_stay z t (Free x after) own o n found p apart ok = absurd apart

-- nor does the free of a list
abbrev pub IsOfList : Job → Type 0
IsOfList (job.Attach b) = ⊥
IsOfList (job.Arrive b) = ⊥
IsOfList (job.Notice b ph) = ⊥
IsOfList (job.Detach b) = ⊥
IsOfList (job.ArriveDetach b) = ⊥
IsOfList (job.ExceptLast b) = ⊥
IsOfList j = Unit {0}

pub list_waits : (j : Job) (own : ℕ) (list : List ℕ) (found : Record) (p : Place) → IsOfList j → waits_at (goes_on j own list found p) ≡ waits_at (Holding j list found ∷ p)
list_waits (job.Cancel c) own list found p is = waits_resumed p
list_waits (job.Prepare c) own list found p is = waits_resumed p
list_waits (job.Resleep c) own list found p is = either_waits (is_listed own list) (SleepWaiting c ∷ p) (resumed p) (waits_at p) refl (waits_resumed p)
list_waits (job.Signal c) own [] found p is = waits_resumed p
list_waits (job.Signal c) own (q ∷ rest) found p is = refl
list_waits (job.Broadcast c) own [] found p is = waits_resumed p
list_waits (job.Broadcast c) own (q ∷ []) found p is = refl
list_waits (job.Broadcast c) own (q ∷ x ∷ rest) found p is = refl
list_waits (job.Rebroadcast c) own [] found p is = waits_resumed p
list_waits (job.Rebroadcast c) own (q ∷ rest) found p is = either_waits (eqb q own) (resumed p) (Rousing c q (is_listed own rest) ∷ p) (waits_at p) (waits_resumed p) refl
list_waits j own list found p is = absurd is

-- whoever takes a spin word has nothing in hand
pub taking_free : (z : Size) (t : Option ℕ) (x : Spot) (b : Option Call) (own : Option ℕ) (p : Place) → Permits z (Take x b) own t p → slot_in (hand_at p) ≡ None
taking_free z t x (Some c) own p ok = ap (λ (g : Grasp). g.0) (begin_free c p ok.3)
taking_free z t x None own p ok = by_top p ok.1
  where
    by_top : (p : Place) → MayTake x (top p) → slot_in (hand_at p) ≡ None
    by_top (Taking j ∷ p) ok = refl
    by_top p ok = absurd ok

-- whoever frees one has what it guards
pub freeing_hand : (z : Size) (t : Option ℕ) (x : Spot) (after : Option ℕ) (own : Option ℕ) (p : Place) → Permits z (Free x after) own t p → slot_in (hand_at p) ≡ Some (slot_of x)
freeing_hand z t x after own p ok = by_top p ok.1
  where
    by_top : (p : Place) → MayFree x after t (top p) → slot_in (hand_at p) ≡ Some (slot_of x)
    by_top (Holding j list found ∷ p) ok = ap (λ (y : Spot). Some (slot_of y)) ok.0
    by_top p ok = absurd ok
