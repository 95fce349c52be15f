-- Each step leaves a place that fits.
use Rattle.std.proofs.Common.{◌≡◌, ℕ, ◌+◌, ◌<◌, ◌≤◌, eqb, Bool, true, false, cond, List, [], ◌∷◌, Option, None, Some, refl, sym, ap, ◌∙◌, subst, arith, eq-eqb}
use Rattle.wait_core.specs.declared.step.Until.{Until}
use Rattle.wait_core.specs.declared.step.Until.TheVariants.{Latch, LatchOrShutdown}
use Rattle.wait_core.specs.declared.step.Spot.{Spot}
use Rattle.wait_core.specs.declared.step.Spot.TheVariants.{Cv, Bar}
use Rattle.wait_core.specs.declared.step.Call.{Call}
use Rattle.wait_core.specs.declared.step.Call.TheVariants as call
use Rattle.wait_core.specs.declared.step.WaitStep.{WaitStep}
use Rattle.wait_core.specs.declared.step.WaitStep.TheVariants.{Sload, Sset, Reset, Mstore, Mload, Byte, Look, Drain, Shload, Shstore, Take, Spin, Free}
use Rattle.wait_core.specs.declared.view.Frame.TheVariants.{Setting, Telling, Waking, Announcing, Rechecking, CheckingShutdown, Looking, Asleep, Retracting, Draining, Repeating, LeavingSet, LeavingShutdown, Stopping, Taking, Spinning, Holding, Resetting, SleepWaiting, Preparing, Broadcasting, Signalling, Rousing, Settling, Dozing, Passing, Returning}
use Rattle.wait_core.specs.declared.view.Job.{Job}
use Rattle.wait_core.specs.declared.view.Job.TheVariants as job
use Rattle.wait_core.specs.declared.view.Kept.{Kept}
use Rattle.wait_core.specs.declared.view.Record.{Record}
use Rattle.wait_core.specs.declared.view.Size.{Size}
use Rattle.wait_core.specs.Lists.{is_listed}
use Rattle.wait_core.specs.Jobs.{is_worn, is_last, is_awaited, has_passed, target_after, resumed, passes_on, goes_on}
use Rattle.wait_core.specs.Machine.{Place, top, outer, begun, reloaded, marked, woken, looked, drained, reset, entered, taken, spun, freed, place_then, target_then, MayBegin, MayReload, MayMark, MayWake, MayLook, MayDrain, MayReset, MayTake, MaySpin, MayFree, IsSpot, IsBelow, named_by, takes_first, BeginsLoad, Permits}
use Rattle.wait_core.specs.Fits.{BehindPrepare, BehindSleep, BehindBroadcast, BehindSet, BehindWait, BehindCancel, JobFits, Fits, IsTarget}
use Rattle.wait_core.proofs.Effects.{alone_idle, at_top}

module _ (cvs : ℕ) (t : Option ℕ) where
  -- THE END OF EACH INNER PROGRAM
  end_fits : (p : Place) → p ≡ [] → Fits cvs t (resumed p)
  end_fits p is = subst (λ (q : Place). Fits cvs t (resumed q)) (sym is) tt

  either : (b : Bool) (p q : Place) → Fits cvs t p → Fits cvs t q → Fits cvs t (cond b p q)
  either true p q x y = x
  either false p q x y = y

  after_broadcast : (c : ℕ) (p : Place) → BehindBroadcast c p → Fits cvs t (resumed p)
  after_broadcast c [] h = tt
  after_broadcast c (Passing b ph ∷ p) h = end_fits p h.1
  after_broadcast c (f ∷ p) h = absurd h

  after_set : (q : ℕ) (p : Place) → BehindSet cvs t q p → Fits cvs t (resumed p)
  after_set q [] h = tt
  after_set q (Signalling c r ∷ p) h = end_fits p h.1
  after_set q (Rousing c r more ∷ p) h = either more (Taking (job.Rebroadcast c) ∷ p) (resumed p) (h.2, h.1, h.3) (after_broadcast c p h.3)
  after_set q (f ∷ p) h = absurd h

  after_wait : (w : Until) (p : Place) → BehindWait cvs t w p → Fits cvs t (resumed p)
  after_wait w [] h = tt
  after_wait w (SleepWaiting c ∷ p) h = (h.1, h.2)
  after_wait w (f ∷ p) h = absurd h

  -- who waits for the latch found set at the second look
  behind_any : (w : Until) (p : Place) → BehindWait cvs t w p → BehindWait cvs t Latch p
  behind_any w [] h = tt
  behind_any w (SleepWaiting c ∷ p) h = (refl, h.1, h.2)
  behind_any w (f ∷ p) h = absurd h

  -- who looks at the shutdown word isn't in a sleep
  behind_both : (p : Place) → BehindWait cvs t LatchOrShutdown p → p ≡ []
  behind_both [] h = refl
  behind_both (SleepWaiting c ∷ p) h = absurd (cc)
  behind_both (f ∷ p) h = absurd h

  behind_none : (w : Until) (p : Place) → p ≡ [] → BehindWait cvs t w p
  behind_none w p is = subst (BehindWait cvs t w) (sym is) tt

  -- THE FIRST LOOK AT A LATCH
  behind_set : (q : ℕ) (p : Place) → MayBegin (call.Set q) p → Fits cvs t p → BehindSet cvs t q p
  behind_set q [] ok fit = tt
  behind_set q (Signalling c r ∷ p) ok fit = (ok, fit)
  behind_set q (Rousing c r more ∷ p) ok fit = (ok, fit.0, fit.1, fit.2)
  behind_set q (f ∷ p) ok fit = absurd ok

  behind_wait : (w : Until) (p : Place) → MayBegin (call.Wait w) p → Fits cvs t p → BehindWait cvs t w p
  behind_wait w [] ok fit = tt
  behind_wait Latch (SleepWaiting c ∷ p) ok fit = (refl, fit.0, fit.1)
  behind_wait LatchOrShutdown (SleepWaiting c ∷ p) ok fit = absurd ok
  behind_wait w (f ∷ p) ok fit = absurd ok

  behind_sleep : (c : ℕ) (p : Place) → MayBegin (call.Sleep c) p → Fits cvs t p → BehindSleep c p
  behind_sleep c [] ok fit = tt
  behind_sleep c (Dozing b ph ∷ p) ok fit = (ok, fit.2)
  behind_sleep c (f ∷ p) ok fit = absurd ok

  begun_fits : (z : Size) (q : ℕ) (own : Option ℕ) (clear : Bool) (c : Call) (p : Place) → BeginsLoad z q c own t → MayBegin c p → Fits cvs t p → Fits cvs t (begun c clear p)
  begun_fits z q own clear (call.Set r) p is ok fit = let b = behind_set r p ok fit in either clear (Setting r ∷ p) (resumed p) b (after_set r p b)
  begun_fits z q own clear (call.Wait w) p is ok fit = let b = behind_wait w p ok fit in either clear (Announcing w ∷ p) (resumed p) b (after_wait w p b)
  begun_fits z q own clear (call.Sleep c) p is ok fit = let e = behind_sleep c p ok fit in either clear (Announcing Latch ∷ SleepWaiting c ∷ p) (Resetting c ∷ p) (refl, is.1, e) (is.1, e)
  begun_fits z q own clear c p is ok fit = fit

  reloaded_fits : (clear : Bool) (p : Place) → MayReload (top p) → Fits cvs t p → Fits cvs t (reloaded clear p)
  reloaded_fits clear (Repeating w ∷ p) ok fit = either clear (Announcing w ∷ p) (resumed p) fit (after_wait w p fit)
  reloaded_fits true (Rechecking Latch ∷ p) ok fit = fit
  reloaded_fits true (Rechecking LatchOrShutdown ∷ p) ok fit = behind_both p fit
  reloaded_fits false (Rechecking w ∷ p) ok fit = behind_any w p fit
  reloaded_fits clear p ok fit = absurd ok

  marked_fits : (may : Bool) (p : Place) → MayMark may (top p) → Fits cvs t p → Fits cvs t (marked p)
  marked_fits true (Announcing w ∷ p) ok fit = fit
  marked_fits false (Retracting w ∷ p) ok fit = fit
  marked_fits false (LeavingSet ∷ p) ok fit = after_wait Latch p fit
  marked_fits false (LeavingShutdown ∷ p) ok fit = end_fits p fit
  marked_fits true p ok fit = absurd ok
  marked_fits false p ok fit = absurd ok

  woken_fits : (z : Size) (q : ℕ) (p : Place) → MayWake q (top p) → Fits cvs t p → Fits cvs t (woken z q p)
  woken_fits z q (Waking r ∷ p) ok fit = after_set r p fit
  woken_fits z q (Stopping r ∷ p) ok fit = either (eqb (q + 1) z.procs) (resumed p) (Stopping (q + 1) ∷ p) (end_fits p fit) fit
  woken_fits z q p ok fit = absurd ok

  looked_fits : (clear : Bool) (p : Place) → MayLook (top p) → Fits cvs t p → Fits cvs t (looked clear p)
  looked_fits clear (Looking w ∷ p) ok fit = either clear (Asleep w ∷ p) (Retracting w ∷ p) fit fit
  looked_fits clear (Asleep w ∷ p) ok fit = either clear (Asleep w ∷ p) (Retracting w ∷ p) fit fit
  looked_fits clear p ok fit = absurd ok

  drained_fits : (p : Place) → MayDrain (top p) → Fits cvs t p → Fits cvs t (drained p)
  drained_fits (Draining w ∷ p) ok fit = fit
  drained_fits p ok fit = absurd ok

  checked_fits : (clear : Bool) (p : Place) → p ≡ [] → Fits cvs t (cond clear (Looking LatchOrShutdown ∷ p) (LeavingShutdown ∷ p))
  checked_fits true p is = behind_none LatchOrShutdown p is
  checked_fits false p is = is

  -- A SPIN WORD IS TAKEN, OR LOOKED AT
  job_taken : (clear : Bool) (found : Kept) (j : Job) (p : Place) → JobFits cvs t j p → Fits cvs t (taken clear found (Taking j ∷ p))
  job_taken true found j p h = h
  job_taken false found j p h = h

  taken_fits : (x : Spot) (clear : Bool) (found : Kept) (p : Place) → MayTake x (top p) → Fits cvs t p → Fits cvs t (taken clear found p)
  taken_fits x clear found (Taking j ∷ p) ok fit = job_taken clear found j p fit
  taken_fits x clear found p ok fit = absurd ok

  spun_fits : (x : Spot) (clear : Bool) (p : Place) → MaySpin x (top p) → Fits cvs t p → Fits cvs t (spun clear p)
  spun_fits x clear (Spinning j ∷ p) ok fit = either clear (Taking j ∷ p) (Spinning j ∷ p) fit fit
  spun_fits x clear p ok fit = absurd ok

  reset_fits : (p : Place) → MayReset (top p) → IsTarget cvs t → Fits cvs t p → Fits cvs t (reset p)
  reset_fits (Resetting c ∷ p) ok inside fit = (inside c fit.0, fit.0, fit.1)
  reset_fits p ok inside fit = absurd ok

-- THE FIRST STEP OF A CALL THAT TAKES A SPIN WORD. What may stand behind the call
behind_prepare : (cvs c : ℕ) (t : Option ℕ) (p : Place) → MayBegin (call.Prepare c) p → Fits cvs t p → BehindPrepare c p
behind_prepare cvs c t [] ok fit = tt
behind_prepare cvs c t (Settling b ph ∷ p) ok fit = (ok, fit.1)
behind_prepare cvs c t (f ∷ p) ok fit = absurd ok

behind_broadcast : (cvs c : ℕ) (t : Option ℕ) (p : Place) → MayBegin (call.Broadcast c) p → Fits cvs t p → BehindBroadcast c p
behind_broadcast cvs c t [] ok fit = tt
behind_broadcast cvs c t (Passing b ph ∷ p) ok fit = (ok, fit.1)
behind_broadcast cvs c t (f ∷ p) ok fit = absurd ok

behind_cancel : (cvs : ℕ) (t : Option ℕ) (p : Place) → MayBegin call.Cancel p → Fits cvs t p → BehindCancel cvs t p
behind_cancel cvs t [] ok fit = tt
behind_cancel cvs t (Returning b ph ∷ p) ok fit = fit.1
behind_cancel cvs t (f ∷ p) ok fit = absurd ok

-- a sleep that only prepares is no call inside: there its condition is the target
only_sleep : (cvs c : ℕ) (t : Option ℕ) (x : Spot) (p : Place) → takes_first t (call.Sleep c) ≡ Some x → MayBegin (call.Sleep c) p → Fits cvs t p → p ≡ []
only_sleep cvs c t x [] is ok fit = refl
only_sleep cvs c t x (Dozing b ph ∷ p) is ok fit = absurd (by_target t (fit.1 ∙ ap Some ok) is)
  where
    by_target : (s : Option ℕ) → s ≡ Some c → takes_first s (call.Sleep c) ≡ Some x → ⊥
    by_target None e is = absurd (cc)
    by_target (Some d) e is = let same : d ≡ c = cc in let none : takes_first (Some d) (call.Sleep c) ≡ None = ap (λ (b : Bool). cond b None (Some (Cv d))) (eq-eqb d c same) in absurd (cc)
only_sleep cvs c t x (f ∷ p) is ok fit = absurd ok

module _ (cvs : ℕ) (clear : Bool) (found : Kept) (x : Spot) where
  entered_fits : (t : Option ℕ) (c : Call) (p : Place) → IsTarget cvs t → IsBelow cvs (named_by c) → ((b : ℕ) → x ≡ Bar b → b < cvs) → takes_first t c ≡ Some x → MayBegin c p → Fits cvs t p → Fits cvs t (taken clear found (entered t c p))
  entered_fits None (call.Prepare c) p inside below low is ok fit = job_taken cvs None clear found (job.Prepare c) p (below, refl, behind_prepare cvs c None p ok fit)
  entered_fits None (call.Sleep c) p inside below low is ok fit = let e = only_sleep cvs c None x p is ok fit in job_taken cvs None clear found (job.Prepare c) p (below, refl, subst (BehindPrepare c) (sym e) tt)
  entered_fits None (call.Broadcast c) p inside below low is ok fit = job_taken cvs None clear found (job.Broadcast c) p (below, refl, behind_broadcast cvs c None p ok fit)
  entered_fits (Some s) call.Cancel p inside below low is ok fit = job_taken cvs (Some s) clear found (job.Cancel s) p (inside s refl, refl, behind_cancel cvs (Some s) p ok fit)
  entered_fits (Some s) (call.Prepare c) p inside below low is ok fit = job_taken cvs (Some s) clear found (job.Cancel s) (Preparing c ∷ p) (inside s refl, refl, (below, behind_prepare cvs c (Some s) p ok fit))
  entered_fits (Some s) (call.Sleep c) p inside below low is ok fit =
      let e = only_sleep cvs c (Some s) x p is ok fit in job_taken cvs (Some s) clear found (job.Cancel s) (Preparing c ∷ p) (inside s refl, refl, (below, subst (BehindPrepare c) (sym e) tt))
  entered_fits (Some s) (call.Broadcast c) p inside below low is ok fit = job_taken cvs (Some s) clear found (job.Cancel s) (Broadcasting c ∷ p) (inside s refl, refl, (below, behind_broadcast cvs c (Some s) p ok fit))
  entered_fits t (call.Signal c) p inside below low is ok fit = job_taken cvs t clear found (job.Signal c) p (below, alone_idle (call.Signal c) p tt ok)
  entered_fits t (call.Attach b) p inside below low is ok fit = job_taken cvs t clear found (job.Attach b) p (alone_idle (call.Attach b) p tt ok)
  entered_fits t (call.Arrive b) p inside below low is ok fit = job_taken cvs t clear found (job.Arrive b) p (low b (cc), alone_idle (call.Arrive b) p tt ok)
  entered_fits t (call.Detach b) p inside below low is ok fit = job_taken cvs t clear found (job.Detach b) p (low b (cc), alone_idle (call.Detach b) p tt ok)
  entered_fits t (call.ArriveDetach b) p inside below low is ok fit = job_taken cvs t clear found (job.ArriveDetach b) p (low b (cc), alone_idle (call.ArriveDetach b) p tt ok)
  entered_fits t (call.ExceptLast b) p inside below low is ok fit = job_taken cvs t clear found (job.ExceptLast b) p (alone_idle (call.ExceptLast b) p tt ok)
  entered_fits t c p inside below low is ok fit = absurd (cc)

-- THE FREE OF A SPIN WORD. After the leaving of a list there is no target
after_prepare : (cvs c : ℕ) (p : Place) → c < cvs → BehindPrepare c p → Fits cvs (Some c) (resumed p)
after_prepare cvs c [] below h = tt
after_prepare cvs c (Settling b ph ∷ p) below h = let is = h.0 in (omega arith, ap Some (sym is), h.1)
after_prepare cvs c (f ∷ p) below h = absurd h

after_sleep : (cvs c : ℕ) (t : Option ℕ) (p : Place) → c < cvs → t ≡ Some c → BehindSleep c p → Fits cvs t (resumed p)
after_sleep cvs c t [] below target h = tt
after_sleep cvs c t (Dozing b ph ∷ p) below target h = let is = h.0 in (omega arith, target ∙ ap Some (sym is), h.1)
after_sleep cvs c t (f ∷ p) below target h = absurd h

after_cancel : (cvs : ℕ) (t : Option ℕ) (p : Place) → BehindCancel cvs t p → Fits cvs None (resumed p)
after_cancel cvs t [] h = tt
after_cancel cvs t (Preparing c ∷ p) h = (h.0, refl, h.1)
after_cancel cvs t (Broadcasting c ∷ p) h = (h.0, refl, h.1)
after_cancel cvs t (Returning b ph ∷ p) h = end_fits cvs None p h
after_cancel cvs t (f ∷ p) h = absurd h

passes_fits : (cvs : ℕ) (t : Option ℕ) (passes : Bool) (b : ℕ) (found : Record) (p : Place) → (b < cvs) × (p ≡ []) → Fits cvs t (passes_on passes b found p)
passes_fits cvs t true b found p h = h
passes_fits cvs t false b found p h = end_fits cvs t p h.1

job_freed : (cvs : ℕ) (t : Option ℕ) (j : Job) (own : ℕ) (list : List ℕ) (found : Record) (p : Place) → JobFits cvs t j p → Fits cvs (target_after j t) (goes_on j own list found p)
job_freed cvs t (job.Cancel c) own list found p h = after_cancel cvs t p h.2
job_freed cvs t (job.Prepare c) own list found p h = after_prepare cvs c p h.0 h.2
job_freed cvs t (job.Resleep c) own list found p h = either cvs t (is_listed own list) (SleepWaiting c ∷ p) (resumed p) (h.1, h.2) (after_sleep cvs c t p h.0 h.1 h.2)
job_freed cvs t (job.Signal c) own [] found p h = end_fits cvs t p h.1
job_freed cvs t (job.Signal c) own (q ∷ rest) found p h = h.1
job_freed cvs t (job.Broadcast c) own [] found p h = after_broadcast cvs t c p h.2
job_freed cvs t (job.Broadcast c) own (q ∷ rest) found p h = (h.1, h.0, h.2)
job_freed cvs t (job.Rebroadcast c) own [] found p h = after_broadcast cvs t c p h.2
job_freed cvs t (job.Rebroadcast c) own (q ∷ rest) found p h = either cvs t (eqb q own) (resumed p) (Rousing c q (is_listed own rest) ∷ p) (after_broadcast cvs t c p h.2) (h.1, h.0, h.2)
job_freed cvs t (job.Attach b) own list found p h = end_fits cvs t p h
job_freed cvs t (job.Arrive b) own list found p h = either cvs t (is_worn found) (resumed p) (cond (is_last found) (Passing b found.phase ∷ p) (Settling b found.phase ∷ p)) (end_fits cvs t p h.1) (either cvs t (is_last found) (Passing b found.phase ∷ p) (Settling b found.phase ∷ p) h h)
job_freed cvs t (job.Notice b ph) own list found p h = either cvs t (has_passed ph found) (Returning b ph ∷ p) (Dozing b ph ∷ p) (h.1, h.2) h
job_freed cvs t (job.Detach b) own list found p h = passes_fits cvs t (is_awaited found) b found p h
job_freed cvs t (job.ArriveDetach b) own list found p h = either cvs t (is_worn found) (resumed p) (passes_on (is_last found) b found p) (end_fits cvs t p h.1) (passes_fits cvs t (is_last found) b found p h)
job_freed cvs t (job.ExceptLast b) own list found p h = end_fits cvs t p h

freed_fits : (cvs : ℕ) (t : Option ℕ) (x : Spot) (after : Option ℕ) (own : ℕ) (p : Place) → MayFree x after t (top p) → Fits cvs t p → Fits cvs after (freed own p)
freed_fits cvs t x after own (Holding j list found ∷ p) ok fit = subst (λ (s : Option ℕ). Fits cvs s (goes_on j own list found p)) (sym ok.1) (job_freed cvs t j own list found p fit)
freed_fits cvs t x after own p ok fit = absurd ok

-- EACH STEP
pub fits_after : (z : Size) → z.bars ≤ z.cvs → (t : Option ℕ) (k : WaitStep) (own : Option ℕ) (o n : ℕ) (found : Kept) (p : Place) → Permits z k own t p → IsTarget z.cvs t → Fits z.cvs t p → Fits z.cvs (target_then k t) (place_then z k n found record { own = o; target = t; place = p })
fits_after z wide t (Sload q (Some c)) own o n found p ok inside fit = begun_fits z.cvs t z q own (eqb n 0) c p ok.0 ok.1 fit
fits_after z wide t (Sload q None) own o n found p ok inside fit = reloaded_fits z.cvs t (eqb n 0) p ok.1 fit
fits_after z wide t (Sset q) own o n found p ok inside fit = subst (Fits z.cvs t) (at_top p (Setting q) ok.1) fit
fits_after z wide t (Reset (Some c)) own o n found p ok inside fit = fit
fits_after z wide t (Reset None) own o n found p ok inside fit = reset_fits z.cvs t p ok inside fit
fits_after z wide t (Mstore may) own o n found p ok inside fit = marked_fits z.cvs t may p ok fit
fits_after z wide t (Mload q) own o n found p ok inside fit = let h = subst (Fits z.cvs t) (at_top p (Telling q) ok.1) fit in either z.cvs t (eqb n 0) (resumed (outer p)) (Waking q ∷ outer p) (after_set z.cvs t q (outer p) h) h
fits_after z wide t (Byte q) own o n found p ok inside fit = woken_fits z.cvs t z q p ok.1 fit
fits_after z wide t Look own o n found p ok inside fit = looked_fits z.cvs t (eqb n 0) p ok fit
fits_after z wide t Drain own o n found p ok inside fit = drained_fits z.cvs t p ok fit
fits_after z wide t (Shload (Some c)) own o n found p ok inside fit = fit
fits_after z wide t (Shload None) own o n found p ok inside fit = checked_fits z.cvs t (eqb n 0) (outer p) (subst (Fits z.cvs t) (at_top p CheckingShutdown ok) fit)
fits_after z wide t (Shstore begins) own o n found p ok inside fit = alone_idle call.Shut p tt ok.1
fits_after z wide t (Take x (Some c)) own o n found p ok inside fit = entered_fits z.cvs (eqb n 0) found x t c p inside ok.2 (bar_inside x ok.0) ok.1 ok.3 fit
  where
    bar_inside : (x : Spot) → IsSpot z x → (b : ℕ) → x ≡ Bar b → b < z.cvs
    bar_inside (Cv d) low b e = absurd (cc)
    bar_inside (Bar d) low b e = let is : d ≡ b = cc in omega arith
fits_after z wide t (Take x None) own o n found p ok inside fit = taken_fits z.cvs t x (eqb n 0) found p ok.1 fit
fits_after z wide t (Spin x) own o n found p ok inside fit = spun_fits z.cvs t x (eqb n 0) p ok.1 fit
fits_after z wide t (Free x after) own o n found p ok inside fit = freed_fits z.cvs t x after o p ok.1 fit

-- THE TARGET is a condition of the table
job_target : (cvs : ℕ) (t : Option ℕ) (j : Job) (p : Place) → JobFits cvs t j p → IsTarget cvs t → IsTarget cvs (target_after j t)
job_target cvs t (job.Cancel c) p h inside = λ d is. absurd (cc)
job_target cvs t (job.Prepare c) p h inside = λ d is. let e : c ≡ d = cc in let b = h.0 in omega arith
job_target cvs t j p h inside = inside

freed_target : (cvs : ℕ) (t : Option ℕ) (x : Spot) (after : Option ℕ) (p : Place) → MayFree x after t (top p) → Fits cvs t p → IsTarget cvs t → IsTarget cvs after
freed_target cvs t x after (Holding j list found ∷ p) ok fit inside = subst (IsTarget cvs) (sym ok.1) (job_target cvs t j p fit inside)
freed_target cvs t x after p ok fit inside = absurd ok

pub target_kept : (z : Size) (t : Option ℕ) (k : WaitStep) (own : Option ℕ) (p : Place) → Permits z k own t p → Fits z.cvs t p → IsTarget z.cvs t → IsTarget z.cvs (target_then k t)
target_kept z t (Free x after) own p ok fit inside = freed_target z.cvs t x after p ok.1 fit inside
target_kept z t k own p ok fit inside = inside
