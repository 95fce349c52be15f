-- What a place names is the table's, and each step keeps that.
use Rattle.std.proofs.Common.{◌≡◌, ◌≢◌, ℕ, ◌+◌, ◌<◌, eqb, Bool, true, false, cond, List, [], ◌∷◌, Option, None, Some, refl, subst, arith, eq-eqb}
use Rattle.std.specs.Prelude.{⊤}
use Rattle.wait_core.specs.declared.step.Call.{Call}
use Rattle.wait_core.specs.declared.step.Call.TheVariants as call
use Rattle.wait_core.specs.declared.step.Spot.{Spot}
use Rattle.wait_core.specs.declared.step.Spot.TheVariants.{Bar}
use Rattle.wait_core.specs.declared.step.Until.TheVariants.{Latch, LatchOrShutdown}
use Rattle.wait_core.specs.declared.step.WaitStep.{WaitStep}
use Rattle.wait_core.specs.declared.step.WaitStep.TheVariants.{Sload, Sset, Reset, Mstore, Mload, Byte, Look, Drain, Shload, Shstore, Take, Spin, Free}
use Rattle.wait_core.specs.declared.view.Frame.{Frame}
use Rattle.wait_core.specs.declared.view.Frame.TheVariants.{Setting, Telling, Waking, Announcing, Rechecking, CheckingShutdown, Looking, Asleep, Retracting, Draining, Repeating, LeavingSet, LeavingShutdown, Stopping, Taking, Spinning, Holding, Resetting, SleepWaiting, Preparing, Broadcasting, Signalling, Rousing, Settling, Dozing, Passing, Returning}
use Rattle.wait_core.specs.declared.view.Job.{Job}
use Rattle.wait_core.specs.declared.view.Job.TheVariants as job
use Rattle.wait_core.specs.declared.view.Kept.{Kept}
use Rattle.wait_core.specs.declared.view.Record.{Record}
use Rattle.wait_core.specs.declared.view.Size.{Size}
use Rattle.wait_core.specs.Fits.{IsTarget}
use Rattle.wait_core.specs.Lists.{AllBelow, is_listed}
use Rattle.wait_core.specs.Jobs.{goes_on, has_passed, is_awaited, is_last, is_worn, passes_on, resumed, rouses, rouses_on, signals, spot_of}
use Rattle.wait_core.specs.Machine.{BeginsLoad, IsBelow, IsSpot, Permits, Place, Stand, as_kept, begun, drained, entered, freed, left_at, looked, marked, named_by, outer, place_then, reloaded, reset, spun, taken, takes_first, woken}
use Rattle.wait_script.specs.WaitScripts.{home_after}
use Rattle.wait_script.proofs.HomeFacts.{left-below}

-- the backends, conditions and barriers that a frame names
abbrev pub FrameNames : Size → Frame → Type 0
FrameNames z (Setting q) = q < z.procs
FrameNames z (Telling q) = q < z.procs
FrameNames z (Waking q) = q < z.procs
FrameNames z (Stopping q) = q < z.procs
FrameNames z (Taking j) = IsSpot z (spot_of j)
FrameNames z (Spinning j) = IsSpot z (spot_of j)
FrameNames z (Holding j list found) = IsSpot z (spot_of j) × AllBelow z.procs list
FrameNames z (Resetting c) = c < z.cvs
FrameNames z (SleepWaiting c) = c < z.cvs
FrameNames z (Preparing c) = c < z.cvs
FrameNames z (Broadcasting c) = c < z.cvs
FrameNames z (Signalling c q) = q < z.procs
FrameNames z (Rousing c q more) = (c < z.cvs) × (q < z.procs)
FrameNames z (Settling b ph) = b < z.bars
FrameNames z (Dozing b ph) = b < z.bars
FrameNames z (Passing b ph) = b < z.bars
FrameNames z f = ⊤

abbrev pub PlaceNames : Size → Place → Type 0
PlaceNames z [] = ⊤
PlaceNames z (f ∷ p) = FrameNames z f × PlaceNames z p

module _ (z : Size) where
  names_cond : (b : Bool) (p q : Place) → PlaceNames z p → PlaceNames z q → PlaceNames z (cond b p q)
  names_cond true p q h k = h
  names_cond false p q h k = k

  names_outer : (p : Place) → PlaceNames z p → PlaceNames z (outer p)
  names_outer [] h = tt
  names_outer (f ∷ p) h = h.1

  names_resumed : (p : Place) → PlaceNames z p → PlaceNames z (resumed p)
  names_resumed [] h = tt
  names_resumed (Signalling c q ∷ p) h = names_resumed p h.1
  names_resumed (Rousing c q more ∷ p) h = names_cond more (Taking (job.Rebroadcast c) ∷ p) (resumed p) (h.0.0, h.1) (names_resumed p h.1)
  names_resumed (Passing b ph ∷ p) h = names_resumed p h.1
  names_resumed (Returning b ph ∷ p) h = names_resumed p h.1
  names_resumed (f ∷ p) h = h

  -- LOADS AND STORES
  names_begun : (t own : Option ℕ) (q : ℕ) (clear : Bool) (c : Call) (p : Place) → IsTarget z.cvs t → BeginsLoad z q c own t → PlaceNames z p → PlaceNames z (begun c clear p)
  names_begun t own q clear (call.Set r) p inside ok h = names_cond clear (Setting r ∷ p) (resumed p) (let few = ok.1 in let is = ok.0 in omega (arith, few, is), h) (names_resumed p h)
  names_begun t own q clear (call.Wait u) p inside ok h = names_cond clear (Announcing u ∷ p) (resumed p) (tt, h) (names_resumed p h)
  names_begun t own q clear (call.Sleep c) p inside ok h = names_cond clear (Announcing Latch ∷ SleepWaiting c ∷ p) (Resetting c ∷ p) (tt, (inside c ok.1, h)) (inside c ok.1, h)
  names_begun t own q clear c p inside ok h = h

  names_reloaded : (clear : Bool) (p : Place) → PlaceNames z p → PlaceNames z (reloaded clear p)
  names_reloaded clear (Repeating u ∷ p) h = names_cond clear (Announcing u ∷ p) (resumed p) (tt, h.1) (names_resumed p h.1)
  names_reloaded clear (Rechecking Latch ∷ p) h = names_cond clear (Looking Latch ∷ p) (LeavingSet ∷ p) (tt, h.1) (tt, h.1)
  names_reloaded clear (Rechecking LatchOrShutdown ∷ p) h = names_cond clear (CheckingShutdown ∷ p) (LeavingSet ∷ p) (tt, h.1) (tt, h.1)
  names_reloaded clear p h = h

  names_marked : (p : Place) → PlaceNames z p → PlaceNames z (marked p)
  names_marked (Announcing u ∷ p) h = (tt, h.1)
  names_marked (Retracting u ∷ p) h = (tt, h.1)
  names_marked (LeavingSet ∷ p) h = names_resumed p h.1
  names_marked (LeavingShutdown ∷ p) h = names_resumed p h.1
  names_marked p h = h

  -- a shutdown goes on with the next backend
  names_woken : (q : ℕ) (p : Place) → q < z.procs → PlaceNames z p → PlaceNames z (woken z q p)
  names_woken q (Waking r ∷ p) below h = names_resumed p h.1
  names_woken q (Stopping r ∷ p) below h = by_last (eqb (q + 1) z.procs) refl
    where
      by_last : (b : Bool) → eqb (q + 1) z.procs ≡ b → PlaceNames z (cond b (resumed p) (Stopping (q + 1) ∷ p))
      by_last true e = names_resumed p h.1
      by_last false e = (let apart : q + 1 ≢ z.procs = λ is. absurd (let f = eq-eqb (q + 1) z.procs is in cc) in omega (arith, below, apart), h.1)
  names_woken q p below h = h

  names_looked : (clear : Bool) (p : Place) → PlaceNames z p → PlaceNames z (looked clear p)
  names_looked clear (Looking u ∷ p) h = names_cond clear (Asleep u ∷ p) (Retracting u ∷ p) (tt, h.1) (tt, h.1)
  names_looked clear (Asleep u ∷ p) h = names_cond clear (Asleep u ∷ p) (Retracting u ∷ p) (tt, h.1) (tt, h.1)
  names_looked clear p h = h

  names_drained : (p : Place) → PlaceNames z p → PlaceNames z (drained p)
  names_drained (Draining u ∷ p) h = (tt, h.1)
  names_drained p h = h

  names_reset : (p : Place) → PlaceNames z p → PlaceNames z (reset p)
  names_reset (Resetting c ∷ p) h = h
  names_reset p h = h

  -- A SPIN WORD IS TAKEN, by a call that begins so or later
  names_entered : (t : Option ℕ) (c : Call) (x : Spot) (p : Place) → IsTarget z.cvs t → IsSpot z x → takes_first t c ≡ Some x → IsBelow z.cvs (named_by c) → PlaceNames z p → PlaceNames z (entered t c p)
  names_entered t (call.Signal c) x p inside low is below h = (below, h)
  names_entered t (call.Attach b) x p inside low is below h = (let e : x ≡ Bar b = cc in subst (IsSpot z) e low, h)
  names_entered t (call.Arrive b) x p inside low is below h = (let e : x ≡ Bar b = cc in subst (IsSpot z) e low, h)
  names_entered t (call.Detach b) x p inside low is below h = (let e : x ≡ Bar b = cc in subst (IsSpot z) e low, h)
  names_entered t (call.ArriveDetach b) x p inside low is below h = (let e : x ≡ Bar b = cc in subst (IsSpot z) e low, h)
  names_entered t (call.ExceptLast b) x p inside low is below h = (let e : x ≡ Bar b = cc in subst (IsSpot z) e low, h)
  names_entered (Some t) call.Cancel x p inside low is below h = (inside t refl, h)
  names_entered (Some t) (call.Prepare c) x p inside low is below h = (inside t refl, (below, h))
  names_entered None (call.Prepare c) x p inside low is below h = (below, h)
  names_entered (Some t) (call.Sleep c) x p inside low is below h = (inside t refl, (below, h))
  names_entered None (call.Sleep c) x p inside low is below h = (below, h)
  names_entered (Some t) (call.Broadcast c) x p inside low is below h = (inside t refl, (below, h))
  names_entered None (call.Broadcast c) x p inside low is below h = (below, h)
  names_entered t c x p inside low is below h = h

  names_taken : (clear : Bool) (found : Kept) (p : Place) → AllBelow z.procs found.list.items → PlaceNames z p → PlaceNames z (taken clear found p)
  names_taken clear found (Taking j ∷ p) few h = names_cond clear (Holding j found.list.items found.record ∷ p) (Spinning j ∷ p) ((h.0, few), h.1) h
  names_taken clear found p few h = h

  names_spun : (clear : Bool) (p : Place) → PlaceNames z p → PlaceNames z (spun clear p)
  names_spun clear (Spinning j ∷ p) h = names_cond clear (Taking j ∷ p) (Spinning j ∷ p) h h
  names_spun clear p h = h

  -- AND FREED: who is popped was on the list
  names_signals : (c : ℕ) (list : List ℕ) (p : Place) → AllBelow z.procs list → PlaceNames z p → PlaceNames z (signals c list p)
  names_signals c [] p few h = names_resumed p h
  names_signals c (q ∷ rest) p few h = (few.0, h)

  names_rouses : (c : ℕ) (list : List ℕ) (p : Place) → c < z.cvs → AllBelow z.procs list → PlaceNames z p → PlaceNames z (rouses c list p)
  names_rouses c [] p low few h = names_resumed p h
  names_rouses c (q ∷ rest) p low few h = ((low, few.0), h)

  names_rouses_on : (c own : ℕ) (list : List ℕ) (p : Place) → c < z.cvs → AllBelow z.procs list → PlaceNames z p → PlaceNames z (rouses_on c own list p)
  names_rouses_on c own [] p low few h = names_resumed p h
  names_rouses_on c own (q ∷ rest) p low few h = names_cond (eqb q own) (resumed p) (Rousing c q (is_listed own rest) ∷ p) (names_resumed p h) ((low, few.0), h)

  names_passes_on : (passes : Bool) (b : ℕ) (r : Record) (p : Place) → b < z.bars → PlaceNames z p → PlaceNames z (passes_on passes b r p)
  names_passes_on true b r p low h = (low, h)
  names_passes_on false b r p low h = names_resumed p h

  names_goes_on : (j : Job) (own : ℕ) (list : List ℕ) (r : Record) (p : Place) → IsSpot z (spot_of j) → AllBelow z.procs list → PlaceNames z p → PlaceNames z (goes_on j own list r p)
  names_goes_on (job.Cancel c) own list r p low few h = names_resumed p h
  names_goes_on (job.Prepare c) own list r p low few h = names_resumed p h
  names_goes_on (job.Resleep c) own list r p low few h = names_cond (is_listed own list) (SleepWaiting c ∷ p) (resumed p) (low, h) (names_resumed p h)
  names_goes_on (job.Signal c) own list r p low few h = names_signals c list p few h
  names_goes_on (job.Broadcast c) own list r p low few h = names_rouses c list p low few h
  names_goes_on (job.Rebroadcast c) own list r p low few h = names_rouses_on c own list p low few h
  names_goes_on (job.Attach b) own list r p low few h = names_resumed p h
  names_goes_on (job.Arrive b) own list r p low few h = names_cond (is_worn r) (resumed p) (cond (is_last r) (Passing b r.phase ∷ p) (Settling b r.phase ∷ p)) (names_resumed p h) (names_cond (is_last r) (Passing b r.phase ∷ p) (Settling b r.phase ∷ p) (low, h) (low, h))
  names_goes_on (job.Notice b ph) own list r p low few h = names_cond (has_passed ph r) (Returning b ph ∷ p) (Dozing b ph ∷ p) (tt, h) (low, h)
  names_goes_on (job.Detach b) own list r p low few h = names_passes_on (is_awaited r) b r p low h
  names_goes_on (job.ArriveDetach b) own list r p low few h = names_cond (is_worn r) (resumed p) (passes_on (is_last r) b r p) (names_resumed p h) (names_passes_on (is_last r) b r p low h)
  names_goes_on (job.ExceptLast b) own list r p low few h = names_resumed p h

  names_freed : (own : ℕ) (p : Place) → PlaceNames z p → PlaceNames z (freed own p)
  names_freed own (Holding j list found ∷ p) h = names_goes_on j own list found p h.0.0 h.0.1 h.1
  names_freed own p h = h

  -- EACH STEP that the machine allows
  pub names_after : (t : Option ℕ) (k : WaitStep) (own : Option ℕ) (o n : ℕ) (found : Kept) (p : Place) → 0 < z.procs → Permits z k own t p → IsTarget z.cvs t → AllBelow z.procs found.list.items → PlaceNames z p
      → PlaceNames z (place_then z k n found (let s : Stand = record { own = o; target = t; place = p } in s))
  names_after t (Sload q (Some c)) own o n found p some ok inside few h = names_begun t own q (eqb n 0) c p inside ok.0 h
  names_after t (Sload q None) own o n found p some ok inside few h = names_reloaded (eqb n 0) p h
  names_after t (Sset q) own o n found p some ok inside few h = (ok.0, names_outer p h)
  names_after t (Reset (Some c)) own o n found p some ok inside few h = h
  names_after t (Reset None) own o n found p some ok inside few h = names_reset p h
  names_after t (Mstore may) own o n found p some ok inside few h = names_marked p h
  names_after t (Mload q) own o n found p some ok inside few h = names_cond (eqb n 0) (resumed (outer p)) (Waking q ∷ outer p) (names_resumed (outer p) (names_outer p h)) (ok.0, names_outer p h)
  names_after t (Byte q) own o n found p some ok inside few h = names_woken q p ok.0 h
  names_after t Look own o n found p some ok inside few h = names_looked (eqb n 0) p h
  names_after t Drain own o n found p some ok inside few h = names_drained p h
  names_after t (Shload (Some c)) own o n found p some ok inside few h = h
  names_after t (Shload None) own o n found p some ok inside few h = names_cond (eqb n 0) (Looking LatchOrShutdown ∷ outer p) (LeavingShutdown ∷ outer p) (tt, names_outer p h) (tt, names_outer p h)
  names_after t (Shstore begins) own o n found p some ok inside few h = (some, h)
  names_after t (Take x (Some c)) own o n found p some ok inside few h = names_taken (eqb n 0) found (entered t c p) few (names_entered t c x p inside ok.0 ok.1 ok.2 h)
  names_after t (Take x None) own o n found p some ok inside few h = names_taken (eqb n 0) found p few h
  names_after t (Spin x) own o n found p some ok inside few h = names_spun (eqb n 0) p h
  names_after t (Free x after) own o n found p some ok inside few h = names_freed o p h

  -- the list that is at home then is the table's, too
  below_left : (own : ℕ) (p : Place) → own < z.procs → PlaceNames z p → AllBelow z.procs (left_at own p).list.items
  below_left own (Holding j list found ∷ p) low h = left-below z.procs own j list low h.0.1
  below_left own p low h = tt

  below_taken : (b : Bool) (home : Kept) → AllBelow z.procs home.list.items → AllBelow z.procs (cond b (as_kept [] home.record) home).list.items
  below_taken true home few = tt
  below_taken false home few = few

  pub below_home : (k : WaitStep) (n own : ℕ) (p : Place) (home : Kept) → own < z.procs → PlaceNames z p → AllBelow z.procs home.list.items → AllBelow z.procs (home_after k n own p home).list.items
  below_home (Take x b) n own p home low h few = below_taken (eqb n 0) home few
  below_home (Free x after) n own p home low h few = below_left own p low h
  below_home k n own p home low h few = few
