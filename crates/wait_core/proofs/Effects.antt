-- What a step changes of what its seat's place says.
use Rattle.std.proofs.Common.{◌≡◌, ◌⊎◌, ℕ, ◌+◌, ◌<◌, ◌≤◌, eqb, nat_lt, Bool, true, false, cond, List, [], ◌∷◌, Option, None, Some, refl, sym, ap, ◌∙◌, subst, inl, inr, arith, eqb-true}
use Rattle.std.proofs.lemmas.Bool.Decides.{nat_tests}
use Rattle.wait_core.specs.declared.step.Until.{Until}
use Rattle.wait_core.specs.declared.step.Until.TheVariants.{Latch, LatchOrShutdown}
use Rattle.wait_core.specs.declared.step.Call.{Call}
use Rattle.wait_core.specs.declared.step.Call.TheVariants as call
use Rattle.wait_core.specs.declared.step.Spot.{Spot}
use Rattle.wait_core.specs.declared.step.Spot.TheVariants.{Cv, Bar}
use Rattle.wait_core.specs.declared.step.WaitStep.{WaitStep}
use Rattle.wait_core.specs.declared.step.WaitStep.TheVariants.{Sload, Sset, Reset, Mstore, Mload, Byte, Look, Drain, Shload, Shstore, Take, Spin, Free}
use Rattle.wait_core.specs.declared.view.Frame.{Frame}
use Rattle.wait_core.specs.declared.view.Frame.TheVariants.{Setting, Telling, Waking, Announcing, Rechecking, CheckingShutdown, Looking, Asleep, Retracting, Draining, Repeating, LeavingSet, LeavingShutdown, Stopping, Taking, Spinning, Holding, Resetting, SleepWaiting, Preparing, Broadcasting, Signalling, Rousing, Settling, Dozing, Passing, Returning}
use Rattle.wait_core.specs.declared.view.Size.{Size}
use Rattle.wait_core.specs.declared.view.Job.{Job}
use Rattle.wait_core.specs.declared.view.Job.TheVariants as job
use Rattle.wait_core.specs.declared.view.Kept.{Kept}
use Rattle.wait_core.specs.declared.view.Record.{Record}
use Rattle.wait_core.specs.Words.{most_conditions, slot_of, slots_in}
use Rattle.wait_core.specs.Jobs.{is_worn, is_last, is_awaited, has_passed, resumed, passes_on, goes_on}
use Rattle.wait_core.specs.Lists.{is_listed}
use Rattle.wait_core.specs.Machine.{Place, top, outer, bit, begun, watching, reloaded, marked, woken, looked, drained, reset, entered, taken, spun, freed, place_then, MayBegin, MayReload, MayMark, MayWake, MayLook, MayDrain, MayReset, MayTake, MaySpin, MayFree, SetsLatchOf, WaitsForLatch, PreparesOn, SleepsOn, BroadcastsOn, LeavesTarget, IsInside, takes_first, IsSpot, Permits}
use Rattle.wait_core.specs.Places.{may_sleep, past_latch, past_shutdown, tells, stops}
use Rattle.wait_core.specs.Fits.{BehindPrepare, BehindSleep, BehindBroadcast, BehindSet, BehindWait, BehindCancel, JobFits, Fits}

-- whether it may sleep, as the step leaves it
abbrev pub marks : WaitStep → Bool → Bool
marks (Mstore may) b = may
marks k b = b

-- the second look at the latch found it clear
abbrev pub FoundClear : WaitStep → ℕ → Type 0
FoundClear (Sload q None) n = n ≡ 0
FoundClear k n = ⊥

-- the look at the shutdown word found it clear
abbrev pub FoundRunning : WaitStep → ℕ → Type 0
FoundRunning (Shload None) n = n ≡ 0
FoundRunning k n = ⊥

-- a setter of p is done: p may not sleep, or its byte is stored
abbrev pub EndsTelling : WaitStep → ℕ → ℕ → Type 0
EndsTelling (Mload q) n p = (q ≡ p) × (n ≡ 0)
EndsTelling (Byte q) n p = q ≡ p
EndsTelling k n p = ⊥

abbrev pub EndsStopping : WaitStep → ℕ → Type 0
EndsStopping (Byte q) p = q ≡ p
EndsStopping k p = ⊥

-- from the innermost frame t to u
pub record Effect (z : Size) (k : WaitStep) (n : ℕ) (t u : Option Frame) : Type 0 where
  pub may : may_sleep u ≡ marks k (may_sleep t)
  pub latch : (bit (past_latch u) ≤ bit (past_latch t)) ⊎ FoundClear k n
  pub shutdown : (bit (past_shutdown u) ≤ bit (past_shutdown t)) ⊎ FoundRunning k n
  pub telling : (p : ℕ) → (bit (tells p t) ≤ bit (tells p u)) ⊎ EndsTelling k n p
  pub stopping : (p : ℕ) → p < z.procs → (bit (stops p t) ≤ bit (stops p u)) ⊎ EndsStopping k p

-- a frame of which no part of the rule says anything
pub record IsQuiet (t : Option Frame) : Type 0 where
  pub may : may_sleep t ≡ false
  pub latch : past_latch t ≡ false
  pub shutdown : past_shutdown t ≡ false
  pub telling : (p : ℕ) → tells p t ≡ false
  pub stopping : (p : ℕ) → stops p t ≡ false

-- a frame outside the programs of latches
abbrev IsPlain : Option Frame → Type 0
IsPlain (Some (Telling q)) = ⊥
IsPlain (Some (Waking q)) = ⊥
IsPlain (Some (Rechecking w)) = ⊥
IsPlain (Some CheckingShutdown) = ⊥
IsPlain (Some (Looking w)) = ⊥
IsPlain (Some (Asleep w)) = ⊥
IsPlain (Some (Retracting w)) = ⊥
IsPlain (Some LeavingSet) = ⊥
IsPlain (Some LeavingShutdown) = ⊥
IsPlain (Some (Stopping q)) = ⊥
IsPlain t = Unit {0}

plain_quiet : (t : Option Frame) → IsPlain t → IsQuiet t
plain_quiet (Some (Telling q)) ok = absurd ok
plain_quiet (Some (Waking q)) ok = absurd ok
plain_quiet (Some (Rechecking w)) ok = absurd ok
plain_quiet (Some CheckingShutdown) ok = absurd ok
plain_quiet (Some (Looking w)) ok = absurd ok
plain_quiet (Some (Asleep w)) ok = absurd ok
plain_quiet (Some (Retracting w)) ok = absurd ok
plain_quiet (Some LeavingSet) ok = absurd ok
plain_quiet (Some LeavingShutdown) ok = absurd ok
plain_quiet (Some (Stopping q)) ok = absurd ok
plain_quiet t ok = record { may = refl; latch = refl; shutdown = refl; telling = λ p. refl; stopping = λ p. refl }

-- the place that follows an inner program is outside of them
end_plain : (p : Place) → p ≡ [] → IsPlain (top (resumed p))
end_plain p is = subst (λ (q : Place). IsPlain (top (resumed q))) (sym is) tt

either_plain : (b : Bool) (p q : Place) → IsPlain (top p) → IsPlain (top q) → IsPlain (top (cond b p q))
either_plain true p q x y = x
either_plain false p q x y = y

module _ (cvs : ℕ) (t : Option ℕ) where
  prepare_end : (c : ℕ) (p : Place) → BehindPrepare c p → IsPlain (top (resumed p))
  prepare_end c [] h = tt
  prepare_end c (Settling b ph ∷ p) h = tt
  prepare_end c (f ∷ p) h = absurd h

  sleep_end : (c : ℕ) (p : Place) → BehindSleep c p → IsPlain (top (resumed p))
  sleep_end c [] h = tt
  sleep_end c (Dozing b ph ∷ p) h = tt
  sleep_end c (f ∷ p) h = absurd h

  broadcast_end : (c : ℕ) (p : Place) → BehindBroadcast c p → IsPlain (top (resumed p))
  broadcast_end c [] h = tt
  broadcast_end c (Passing b ph ∷ p) h = end_plain p h.1
  broadcast_end c (f ∷ p) h = absurd h

  roused_end : (c q : ℕ) (more : Bool) (p : Place) → BehindBroadcast c p → IsPlain (top (resumed (Rousing c q more ∷ p)))
  roused_end c q more p h = either_plain more (Taking (job.Rebroadcast c) ∷ p) (resumed p) tt (broadcast_end c p h)

  set_end : (q : ℕ) (p : Place) → BehindSet cvs t q p → IsQuiet (top (resumed p))
  set_end q [] h = plain_quiet None tt
  set_end q (Signalling c r ∷ p) h = plain_quiet _ (end_plain p h.1)
  set_end q (Rousing c r more ∷ p) h = plain_quiet _ (roused_end c r more p h.3)
  set_end q (f ∷ p) h = absurd h

  wait_end : (w : Until) (p : Place) → BehindWait cvs t w p → IsQuiet (top (resumed p))
  wait_end w [] h = plain_quiet None tt
  wait_end w (SleepWaiting c ∷ p) h = plain_quiet _ tt
  wait_end w (f ∷ p) h = absurd h

  -- where a call may begin it is quiet, and so is what follows a call that sets a latch or waits for it
  begin_quiet : (c : Call) (p : Place) → MayBegin c p → IsQuiet (top p)
  begin_quiet c [] ok = plain_quiet None tt
  begin_quiet c (Signalling d q ∷ p) ok = plain_quiet _ tt
  begin_quiet c (Rousing d q more ∷ p) ok = plain_quiet _ tt
  begin_quiet c (SleepWaiting d ∷ p) ok = plain_quiet _ tt
  begin_quiet c (Settling b ph ∷ p) ok = plain_quiet _ tt
  begin_quiet c (Dozing b ph ∷ p) ok = plain_quiet _ tt
  begin_quiet c (Passing b ph ∷ p) ok = plain_quiet _ tt
  begin_quiet c (Returning b ph ∷ p) ok = plain_quiet _ tt
  begin_quiet c (f ∷ p) ok = absurd ok

  begun_end : (c : Call) (p : Place) → MayBegin c p → Fits cvs t p → IsQuiet (top (resumed p))
  begun_end c [] ok h = plain_quiet None tt
  begun_end c (Signalling d q ∷ p) ok h = plain_quiet _ (end_plain p h)
  begun_end c (Rousing d q more ∷ p) ok h = plain_quiet _ (roused_end d q more p h.2)
  begun_end c (SleepWaiting d ∷ p) ok h = plain_quiet _ tt
  begun_end c (Settling b ph ∷ p) ok h = plain_quiet _ tt
  begun_end c (Dozing b ph ∷ p) ok h = plain_quiet _ tt
  begun_end c (Passing b ph ∷ p) ok h = plain_quiet _ (end_plain p h.1)
  begun_end c (Returning b ph ∷ p) ok h = plain_quiet _ (end_plain p h.1)
  begun_end c (f ∷ p) ok h = absurd ok

  cancel_end : (p : Place) → BehindCancel cvs t p → IsPlain (top (resumed p))
  cancel_end [] h = tt
  cancel_end (Preparing c ∷ p) h = tt
  cancel_end (Broadcasting c ∷ p) h = tt
  cancel_end (Returning b ph ∷ p) h = end_plain p h
  cancel_end (f ∷ p) h = absurd h

  passes_end : (passes : Bool) (b : ℕ) (found : Record) (p : Place) → p ≡ [] → IsPlain (top (passes_on passes b found p))
  passes_end true b found p h = tt
  passes_end false b found p h = end_plain p h

  -- and what follows the free of a spin word
  freed_end : (j : Job) (own : ℕ) (list : List ℕ) (found : Record) (p : Place) → JobFits cvs t j p → IsPlain (top (goes_on j own list found p))
  freed_end (job.Cancel c) own list found p h = cancel_end p h.2
  freed_end (job.Prepare c) own list found p h = prepare_end c p h.2
  freed_end (job.Resleep c) own list found p h = either_plain (is_listed own list) (SleepWaiting c ∷ p) (resumed p) tt (sleep_end c p h.2)
  freed_end (job.Signal c) own [] found p h = end_plain p h.1
  freed_end (job.Signal c) own (q ∷ rest) found p h = tt
  freed_end (job.Broadcast c) own [] found p h = broadcast_end c p h.2
  freed_end (job.Broadcast c) own (q ∷ rest) found p h = tt
  freed_end (job.Rebroadcast c) own [] found p h = broadcast_end c p h.2
  freed_end (job.Rebroadcast c) own (q ∷ rest) found p h = either_plain (eqb q own) (resumed p) (Rousing c q (is_listed own rest) ∷ p) (broadcast_end c p h.2) tt
  freed_end (job.Attach b) own list found p h = end_plain p h
  freed_end (job.Arrive b) own list found p h = either_plain (is_worn found) (resumed p) (cond (is_last found) (Passing b found.phase ∷ p) (Settling b found.phase ∷ p)) (end_plain p h.1) (either_plain (is_last found) (Passing b found.phase ∷ p) (Settling b found.phase ∷ p) tt tt)
  freed_end (job.Notice b ph) own list found p h = either_plain (has_passed ph found) (Returning b ph ∷ p) (Dozing b ph ∷ p) tt tt
  freed_end (job.Detach b) own list found p h = passes_end (is_awaited found) b found p h.1
  freed_end (job.ArriveDetach b) own list found p h = either_plain (is_worn found) (resumed p) (passes_on (is_last found) b found p) (end_plain p h.1) (passes_end (is_last found) b found p h.1)
  freed_end (job.ExceptLast b) own list found p h = end_plain p h

-- a spin word of the table has a slot of the table's
pub spot_inside : (z : Size) (x : Spot) → z.cvs ≤ most_conditions → IsSpot z x → slot_of x < slots_in z
spot_inside z (Cv c) most ok = omega arith
spot_inside z (Bar b) most ok = omega arith

-- CALLS THAT STAND INSIDE NO OTHER
abbrev pub IsAlone : Call → Type 0
IsAlone (call.Set q) = ⊥
IsAlone (call.Wait w) = ⊥
IsAlone call.Cancel = ⊥
IsAlone (call.Prepare c) = ⊥
IsAlone (call.Sleep c) = ⊥
IsAlone (call.Broadcast c) = ⊥
IsAlone c = Unit {0}

pub alone_outside : (c : Call) (f : Frame) → IsAlone c → IsInside c f → ⊥
alone_outside c (Signalling d q) alone ok = by_call c alone ok
  where
    by_call : (c : Call) → IsAlone c → SetsLatchOf q c → ⊥
    by_call (call.Set r) alone ok = alone
    by_call c alone ok = ok
alone_outside c (Rousing d q more) alone ok = by_call c alone ok
  where
    by_call : (c : Call) → IsAlone c → SetsLatchOf q c → ⊥
    by_call (call.Set r) alone ok = alone
    by_call c alone ok = ok
alone_outside c (SleepWaiting d) alone ok = by_call c alone ok
  where
    by_call : (c : Call) → IsAlone c → WaitsForLatch c → ⊥
    by_call (call.Wait w) alone ok = alone
    by_call c alone ok = ok
alone_outside c (Settling b ph) alone ok = by_call c alone ok
  where
    by_call : (c : Call) → IsAlone c → PreparesOn b c → ⊥
    by_call (call.Prepare d) alone ok = alone
    by_call c alone ok = ok
alone_outside c (Dozing b ph) alone ok = by_call c alone ok
  where
    by_call : (c : Call) → IsAlone c → SleepsOn b c → ⊥
    by_call (call.Sleep d) alone ok = alone
    by_call c alone ok = ok
alone_outside c (Passing b ph) alone ok = by_call c alone ok
  where
    by_call : (c : Call) → IsAlone c → BroadcastsOn b c → ⊥
    by_call (call.Broadcast d) alone ok = alone
    by_call c alone ok = ok
alone_outside c (Returning b ph) alone ok = by_call c alone ok
  where
    by_call : (c : Call) → IsAlone c → LeavesTarget c → ⊥
    by_call call.Cancel alone ok = alone
    by_call c alone ok = ok
alone_outside c f alone ok = ok

pub alone_idle : (c : Call) (p : Place) → IsAlone c → MayBegin c p → p ≡ []
alone_idle c [] alone ok = refl
alone_idle c (f ∷ p) alone ok = absurd (alone_outside c f alone ok)

-- a place with this innermost frame
pub at_top : (p : Place) (f : Frame) → top p ≡ Some f → p ≡ f ∷ outer p
at_top [] f e = absurd (cc)
at_top (g ∷ p) f e = ap (λ (x : Frame). x ∷ p) (cc)

module _ (z : Size) (t : Option ℕ) where
  -- the innermost frame stays, or is as quiet as before
  still : (k : WaitStep) (n : ℕ) (x y : Option Frame) → IsQuiet x → IsQuiet y → ((b : Bool) → marks k b ≡ b) → Effect z k n x y
  still k n x y a b id =
      let lt : bit (past_latch x) ≡ 0 = ap bit a.latch in let lu : bit (past_latch y) ≡ 0 = ap bit b.latch in
      let ht : bit (past_shutdown x) ≡ 0 = ap bit a.shutdown in let hu : bit (past_shutdown y) ≡ 0 = ap bit b.shutdown in
      record {
        may = b.may ∙ (sym a.may ∙ sym (id (may_sleep x)));
        latch = inl (omega arith);
        shutdown = inl (omega arith);
        telling = λ p. inl (let e : bit (tells p x) ≡ 0 = ap bit (a.telling p) in omega arith);
        stopping = λ p _. inl (let e : bit (stops p x) ≡ 0 = ap bit (a.stopping p) in omega arith);
      }

  either_still : (k : WaitStep) (n : ℕ) (x : Option Frame) (c : Bool) (p q : Place) → IsQuiet x → IsQuiet (top p) → IsQuiet (top q) → ((b : Bool) → marks k b ≡ b) → Effect z k n x (top (cond c p q))
  either_still k n x true p q a b d id = still k n x (top p) a b id
  either_still k n x false p q a b d id = still k n x (top q) a d id

  begun_effect : (q : ℕ) (c : Call) (n : ℕ) (clear : Bool) (p : Place) → MayBegin c p → Fits z.cvs t p → Effect z (Sload q (Some c)) n (top p) (top (begun c clear p))
  begun_effect q (call.Set r) n clear p ok fit = let c = call.Set r in either_still (Sload q (Some c)) n _ clear (Setting r ∷ p) (resumed p) (begin_quiet z.cvs t c p ok) (plain_quiet _ tt) (begun_end z.cvs t c p ok fit) (λ b. refl)
  begun_effect q (call.Wait w) n clear p ok fit = let c = call.Wait w in either_still (Sload q (Some c)) n _ clear (Announcing w ∷ p) (resumed p) (begin_quiet z.cvs t c p ok) (plain_quiet _ tt) (begun_end z.cvs t c p ok fit) (λ b. refl)
  begun_effect q (call.Sleep d) n clear p ok fit =
      let c = call.Sleep d in either_still (Sload q (Some c)) n _ clear (Announcing Latch ∷ SleepWaiting d ∷ p) (Resetting d ∷ p) (begin_quiet z.cvs t c p ok) (plain_quiet _ tt) (plain_quiet _ tt) (λ b. refl)
  begun_effect q c n clear p ok fit = let h = begin_quiet z.cvs t c p ok in still (Sload q (Some c)) n _ _ h h (λ b. refl)

  watching_effect : (q n : ℕ) (w : Until) → n ≡ 0 → Effect z (Sload q None) n (Some (Rechecking w)) (Some (watching w))
  watching_effect q n Latch is = record { may = refl; latch = inr is; shutdown = inl (omega arith); telling = λ p. inl (omega arith); stopping = λ p _. inl (omega arith) }
  watching_effect q n LatchOrShutdown is = record { may = refl; latch = inr is; shutdown = inl (omega arith); telling = λ p. inl (omega arith); stopping = λ p _. inl (omega arith) }

  reloaded_effect : (q n : ℕ) (clear : Bool) → eqb n 0 ≡ clear → (p : Place) → MayReload (top p) → Fits z.cvs t p → Effect z (Sload q None) n (top p) (top (reloaded clear p))
  reloaded_effect q n clear is (Repeating w ∷ p) ok fit = either_still (Sload q None) n _ clear (Announcing w ∷ p) (resumed p) (plain_quiet _ tt) (plain_quiet _ tt) (wait_end z.cvs t w p fit) (λ b. refl)
  reloaded_effect q n true is (Rechecking w ∷ p) ok fit = watching_effect q n w (eqb-true n 0 is)
  reloaded_effect q n false is (Rechecking w ∷ p) ok fit = record { may = refl; latch = inl (omega arith); shutdown = inl (omega arith); telling = λ p. inl (omega arith); stopping = λ p _. inl (omega arith) }
  reloaded_effect q n clear is p ok fit = absurd ok

  marked_effect : (may : Bool) (n : ℕ) (p : Place) → MayMark may (top p) → Fits z.cvs t p → Effect z (Mstore may) n (top p) (top (marked p))
  marked_effect true n (Announcing w ∷ p) ok fit = record { may = refl; latch = inl (omega arith); shutdown = inl (omega arith); telling = λ p. inl (omega arith); stopping = λ p _. inl (omega arith) }
  marked_effect false n (Retracting Latch ∷ p) ok fit = record { may = refl; latch = inl (omega arith); shutdown = inl (omega arith); telling = λ p. inl (omega arith); stopping = λ p _. inl (omega arith) }
  marked_effect false n (Retracting LatchOrShutdown ∷ p) ok fit = record { may = refl; latch = inl (omega arith); shutdown = inl (omega arith); telling = λ p. inl (omega arith); stopping = λ p _. inl (omega arith) }
  marked_effect false n (LeavingSet ∷ p) ok fit = let h = wait_end z.cvs t Latch p fit in let l : bit (past_latch (top (resumed p))) ≡ 0 = ap bit h.latch in let x : bit (past_shutdown (top (resumed p))) ≡ 0 = ap bit h.shutdown in
      record { may = h.may; latch = inl (omega arith); shutdown = inl (omega arith); telling = λ p. inl (omega arith); stopping = λ p _. inl (omega arith) }
  marked_effect false n (LeavingShutdown ∷ p) ok fit = let h = plain_quiet _ (end_plain p fit) in let l : bit (past_latch (top (resumed p))) ≡ 0 = ap bit h.latch in let x : bit (past_shutdown (top (resumed p))) ≡ 0 = ap bit h.shutdown in
      record { may = h.may; latch = inl (omega arith); shutdown = inl (omega arith); telling = λ p. inl (omega arith); stopping = λ p _. inl (omega arith) }
  marked_effect true n p ok fit = absurd ok
  marked_effect false n p ok fit = absurd ok

  -- a setter of q is done, or goes on to its byte
  told_effect : (q n : ℕ) (clear : Bool) → eqb n 0 ≡ clear → (p : Place) → BehindSet z.cvs t q p → Effect z (Mload q) n (Some (Telling q)) (top (cond clear (resumed p) (Waking q ∷ p)))
  told_effect q n true is p fit = let h = set_end z.cvs t q p fit in let l : bit (past_latch (top (resumed p))) ≡ 0 = ap bit h.latch in let x : bit (past_shutdown (top (resumed p))) ≡ 0 = ap bit h.shutdown in
      record {
        may = h.may;
        latch = inl (omega arith);
        shutdown = inl (omega arith);
        telling = λ r. elsewhere r (eqb q r) refl;
        stopping = λ p _. inl (omega arith);
      }
    where
      elsewhere : (r : ℕ) (b : Bool) → eqb q r ≡ b → (bit (eqb q r) ≤ bit (tells r (top (resumed p)))) ⊎ ((q ≡ r) × (n ≡ 0))
      elsewhere r true e = inr (eqb-true q r e, eqb-true n 0 is)
      elsewhere r false e = inl (let zero_is : bit (eqb q r) ≡ 0 = ap bit e in omega arith)
  told_effect q n false is p fit = record { may = refl; latch = inl (omega arith); shutdown = inl (omega arith); telling = λ p. inl (omega arith); stopping = λ p _. inl (omega arith) }

  woken_effect : (q n : ℕ) → q < z.procs → (p : Place) → MayWake q (top p) → Fits z.cvs t p → Effect z (Byte q) n (top p) (top (woken z q p))
  woken_effect q n inside (Waking r ∷ p) ok fit = let h = set_end z.cvs t r p fit in let l : bit (past_latch (top (resumed p))) ≡ 0 = ap bit h.latch in let x : bit (past_shutdown (top (resumed p))) ≡ 0 = ap bit h.shutdown in
      record {
        may = h.may;
        latch = inl (omega arith);
        shutdown = inl (omega arith);
        telling = λ j. elsewhere j (eqb r j) refl;
        stopping = λ p _. inl (omega arith);
      }
    where
      elsewhere : (j : ℕ) (b : Bool) → eqb r j ≡ b → (bit (eqb r j) ≤ bit (tells j (top (resumed p)))) ⊎ (q ≡ j)
      elsewhere j true e = inr (sym ok ∙ eqb-true r j e)
      elsewhere j false e = inl (let zero_is : bit (eqb r j) ≡ 0 = ap bit e in omega arith)
  woken_effect q n inside (Stopping r ∷ p) ok fit = goes_on_from (eqb (q + 1) z.procs) refl
    where
      -- the backends from r on, but for q, are those from q + 1 on
      later : (j : ℕ) → (bit (nat_lt r (j + 1)) ≤ bit (nat_lt (q + 1) (j + 1))) ⊎ (q ≡ j)
      later j = later_of (nat_lt r (j + 1)) (nat_lt (q + 1) (j + 1)) (eqb q j) refl refl refl
        where
          later_of : (a b e : Bool) → nat_lt r (j + 1) ≡ a → nat_lt (q + 1) (j + 1) ≡ b → eqb q j ≡ e → (bit (nat_lt r (j + 1)) ≤ bit (nat_lt (q + 1) (j + 1))) ⊎ (q ≡ j)
          later_of a b true ea eb ee = inr (eqb-true q j ee)
          later_of false b e ea eb ee = inl (let zero_is : bit (nat_lt r (j + 1)) ≡ 0 = ap bit ea in omega arith)
          later_of true true e ea eb ee = inl (let x : bit (nat_lt r (j + 1)) ≡ 1 = ap bit ea in let y : bit (nat_lt (q + 1) (j + 1)) ≡ 1 = ap bit eb in omega arith)
          later_of true false false ea eb ee = absurd (grind (arith, nat_tests, ea, eb, ee, ok))

      goes_on_from : (last : Bool) → eqb (q + 1) z.procs ≡ last → Effect z (Byte q) n (Some (Stopping r)) (top (cond last (resumed p) (Stopping (q + 1) ∷ p)))
      goes_on_from true is = let h = plain_quiet _ (end_plain p fit) in let l : bit (past_latch (top (resumed p))) ≡ 0 = ap bit h.latch in let x : bit (past_shutdown (top (resumed p))) ≡ 0 = ap bit h.shutdown in
          record {
            may = h.may;
            latch = inl (omega arith);
            shutdown = inl (omega arith);
            telling = λ p. inl (omega arith);
            stopping = λ j below. beyond j (nat_lt r (j + 1)) refl (eqb q j) refl below;
          }
        where
          beyond : (j : ℕ) (a : Bool) → nat_lt r (j + 1) ≡ a → (e : Bool) → eqb q j ≡ e → j < z.procs → (bit (nat_lt r (j + 1)) ≤ bit (stops j (top (resumed p)))) ⊎ (q ≡ j)
          beyond j a ea true ee below = inr (eqb-true q j ee)
          beyond j false ea false ee below = inl (let zero_is : bit (nat_lt r (j + 1)) ≡ 0 = ap bit ea in omega arith)
          beyond j true ea false ee below = absurd (grind (arith, nat_tests, ea, ee, ok, is, below))
      goes_on_from false is = record { may = refl; latch = inl (omega arith); shutdown = inl (omega arith); telling = λ p. inl (omega arith); stopping = λ j _. later j }
  woken_effect q n inside p ok fit = absurd ok

  looked_effect : (n : ℕ) (clear : Bool) (p : Place) → MayLook (top p) → Effect z Look n (top p) (top (looked clear p))
  looked_effect n true (Looking Latch ∷ p) ok = record { may = refl; latch = inl (omega arith); shutdown = inl (omega arith); telling = λ p. inl (omega arith); stopping = λ p _. inl (omega arith) }
  looked_effect n true (Looking LatchOrShutdown ∷ p) ok = record { may = refl; latch = inl (omega arith); shutdown = inl (omega arith); telling = λ p. inl (omega arith); stopping = λ p _. inl (omega arith) }
  looked_effect n false (Looking Latch ∷ p) ok = record { may = refl; latch = inl (omega arith); shutdown = inl (omega arith); telling = λ p. inl (omega arith); stopping = λ p _. inl (omega arith) }
  looked_effect n false (Looking LatchOrShutdown ∷ p) ok = record { may = refl; latch = inl (omega arith); shutdown = inl (omega arith); telling = λ p. inl (omega arith); stopping = λ p _. inl (omega arith) }
  looked_effect n true (Asleep w ∷ p) ok = record { may = refl; latch = inl (omega arith); shutdown = inl (omega arith); telling = λ p. inl (omega arith); stopping = λ p _. inl (omega arith) }
  looked_effect n false (Asleep Latch ∷ p) ok = record { may = refl; latch = inl (omega arith); shutdown = inl (omega arith); telling = λ p. inl (omega arith); stopping = λ p _. inl (omega arith) }
  looked_effect n false (Asleep LatchOrShutdown ∷ p) ok = record { may = refl; latch = inl (omega arith); shutdown = inl (omega arith); telling = λ p. inl (omega arith); stopping = λ p _. inl (omega arith) }
  looked_effect n clear p ok = absurd ok

  drained_effect : (n : ℕ) (p : Place) → MayDrain (top p) → Effect z Drain n (top p) (top (drained p))
  drained_effect n (Draining w ∷ p) ok = still Drain n _ _ (plain_quiet _ tt) (plain_quiet _ tt) (λ b. refl)
  drained_effect n p ok = absurd ok

  checked_effect : (n : ℕ) (clear : Bool) → eqb n 0 ≡ clear → (p : Place) → Effect z (Shload None) n (Some CheckingShutdown) (top (cond clear (Looking LatchOrShutdown ∷ p) (LeavingShutdown ∷ p)))
  checked_effect n true is p = record { may = refl; latch = inl (omega arith); shutdown = inr (eqb-true n 0 is); telling = λ p. inl (omega arith); stopping = λ p _. inl (omega arith) }
  checked_effect n false is p = record { may = refl; latch = inl (omega arith); shutdown = inl (omega arith); telling = λ p. inl (omega arith); stopping = λ p _. inl (omega arith) }

  reset_effect : (n : ℕ) (p : Place) → MayReset (top p) → Effect z (Reset None) n (top p) (top (reset p))
  reset_effect n (Resetting c ∷ p) ok = still (Reset None) n _ _ (plain_quiet _ tt) (plain_quiet _ tt) (λ b. refl)
  reset_effect n p ok = absurd ok

  -- a spin word is taken, looked at, or freed: no frame of a latch's program is there before or after
  taken_plain : (clear : Bool) (found : Kept) (j : Job) (p : Place) → IsPlain (top (taken clear found (Taking j ∷ p)))
  taken_plain true found j p = tt
  taken_plain false found j p = tt

  -- a call begins by taking one
  entered_plain : (x : Spot) (clear : Bool) (found : Kept) (s : Option ℕ) (c : Call) (p : Place) → takes_first s c ≡ Some x → IsPlain (top (taken clear found (entered s c p)))
  entered_plain x clear found None (call.Prepare c) p is = taken_plain clear found (job.Prepare c) p
  entered_plain x clear found None (call.Sleep c) p is = taken_plain clear found (job.Prepare c) p
  entered_plain x clear found None (call.Broadcast c) p is = taken_plain clear found (job.Broadcast c) p
  entered_plain x clear found (Some s) call.Cancel p is = taken_plain clear found (job.Cancel s) p
  entered_plain x clear found (Some s) (call.Prepare c) p is = taken_plain clear found (job.Cancel s) (Preparing c ∷ p)
  entered_plain x clear found (Some s) (call.Sleep c) p is = taken_plain clear found (job.Cancel s) (Preparing c ∷ p)
  entered_plain x clear found (Some s) (call.Broadcast c) p is = taken_plain clear found (job.Cancel s) (Broadcasting c ∷ p)
  entered_plain x clear found s (call.Signal c) p is = taken_plain clear found (job.Signal c) p
  entered_plain x clear found s (call.Attach b) p is = taken_plain clear found (job.Attach b) p
  entered_plain x clear found s (call.Arrive b) p is = taken_plain clear found (job.Arrive b) p
  entered_plain x clear found s (call.Detach b) p is = taken_plain clear found (job.Detach b) p
  entered_plain x clear found s (call.ArriveDetach b) p is = taken_plain clear found (job.ArriveDetach b) p
  entered_plain x clear found s (call.ExceptLast b) p is = taken_plain clear found (job.ExceptLast b) p
  entered_plain x clear found s c p is = absurd (cc)

  taken_effect : (x : Spot) (n : ℕ) (clear : Bool) (found : Kept) (p : Place) → MayTake x (top p) → Effect z (Take x None) n (top p) (top (taken clear found p))
  taken_effect x n clear found (Taking j ∷ p) ok = still (Take x None) n _ _ (plain_quiet _ tt) (plain_quiet _ (taken_plain clear found j p)) (λ b. refl)
  taken_effect x n clear found p ok = absurd ok

  spun_effect : (x : Spot) (n : ℕ) (clear : Bool) (p : Place) → MaySpin x (top p) → Effect z (Spin x) n (top p) (top (spun clear p))
  spun_effect x n clear (Spinning j ∷ p) ok = either_still (Spin x) n _ clear (Taking j ∷ p) (Spinning j ∷ p) (plain_quiet _ tt) (plain_quiet _ tt) (plain_quiet _ tt) (λ b. refl)
  spun_effect x n clear p ok = absurd ok

  freed_effect : (x : Spot) (after : Option ℕ) (own n : ℕ) (p : Place) → MayFree x after t (top p) → Fits z.cvs t p → Effect z (Free x after) n (top p) (top (freed own p))
  freed_effect x after own n (Holding j list found ∷ p) ok fit = still (Free x after) n _ _ (plain_quiet _ tt) (plain_quiet _ (freed_end z.cvs t j own list found p fit)) (λ b. refl)
  freed_effect x after own n p ok fit = absurd ok

  -- each step, in a seat with this target
  pub effect : (k : WaitStep) (own : Option ℕ) (o n : ℕ) (found : Kept) (p : Place) → Permits z k own t p → Fits z.cvs t p → Effect z k n (top p) (top (place_then z k n found record { own = o; target = t; place = p }))
  effect (Sload q (Some c)) own o n found p ok fit = begun_effect q c n (eqb n 0) p ok.1 fit
  effect (Sload q None) own o n found p ok fit = reloaded_effect q n (eqb n 0) refl p ok.1 fit
  effect (Sset q) own o n found p ok fit = subst (λ (x : Option Frame). Effect z (Sset q) n x (Some (Telling q))) (sym ok.1) (record { may = refl; latch = inl (omega arith); shutdown = inl (omega arith); telling = λ p. inl (omega arith); stopping = λ p _. inl (omega arith) })
  effect (Reset (Some c)) own o n found p ok fit = let h = begin_quiet z.cvs t call.Reset p ok.1 in still (Reset (Some c)) n _ _ h h (λ b. refl)
  effect (Reset None) own o n found p ok fit = reset_effect n p ok
  effect (Mstore may) own o n found p ok fit = marked_effect may n p ok fit
  effect (Mload q) own o n found p ok fit =
      subst (λ (x : Option Frame). Effect z (Mload q) n x (top (cond (eqb n 0) (resumed (outer p)) (Waking q ∷ outer p)))) (sym ok.1) (told_effect q n (eqb n 0) refl (outer p) (subst (Fits z.cvs t) (at_top p (Telling q) ok.1) fit))
  effect (Byte q) own o n found p ok fit = woken_effect q n ok.0 p ok.1 fit
  effect Look own o n found p ok fit = looked_effect n (eqb n 0) p ok
  effect Drain own o n found p ok fit = drained_effect n p ok
  effect (Shload (Some c)) own o n found p ok fit = let h = begin_quiet z.cvs t call.IsShut p ok.1 in still (Shload (Some c)) n _ _ h h (λ b. refl)
  effect (Shload None) own o n found p ok fit = subst (λ (x : Option Frame). Effect z (Shload None) n x (top (cond (eqb n 0) (Looking LatchOrShutdown ∷ outer p) (LeavingShutdown ∷ outer p)))) (sym ok) (checked_effect n (eqb n 0) refl (outer p))
  effect (Shstore begins) own o n found p ok fit = let h = begin_quiet z.cvs t call.Shut p ok.1 in let l : bit (past_latch (top p)) ≡ 0 = ap bit h.latch in
      record {
        may = sym h.may;
        latch = inl (omega arith);
        shutdown = inl (omega arith);
        telling = λ j. inl (let x : bit (tells j (top p)) ≡ 0 = ap bit (h.telling j) in omega arith);
        stopping = λ j _. inl (let x : bit (stops j (top p)) ≡ 0 = ap bit (h.stopping j) in omega arith);
      }
  effect (Take x (Some c)) own o n found p ok fit = still (Take x (Some c)) n _ _ (begin_quiet z.cvs t c p ok.3) (plain_quiet _ (entered_plain x (eqb n 0) found t c p ok.1)) (λ b. refl)
  effect (Take x None) own o n found p ok fit = taken_effect x n (eqb n 0) found p ok.1
  effect (Spin x) own o n found p ok fit = spun_effect x n (eqb n 0) p ok.1
  effect (Free x after) own o n found p ok fit = freed_effect x after o n p ok.1 fit

-- who is past a look may sleep
pub latch_marked : (t : Option Frame) → bit (past_latch t) ≤ bit (may_sleep t)
latch_marked None = omega arith
latch_marked (Some CheckingShutdown) = omega arith
latch_marked (Some (Looking w)) = omega arith
latch_marked (Some (Asleep w)) = omega arith
latch_marked (Some (Retracting w)) = omega arith
latch_marked (Some LeavingShutdown) = omega arith
latch_marked (Some f) = omega arith

pub shutdown_latch : (t : Option Frame) → bit (past_shutdown t) ≤ bit (past_latch t)
shutdown_latch None = omega arith
shutdown_latch (Some (Looking Latch)) = omega arith
shutdown_latch (Some (Looking LatchOrShutdown)) = omega arith
shutdown_latch (Some (Asleep Latch)) = omega arith
shutdown_latch (Some (Asleep LatchOrShutdown)) = omega arith
shutdown_latch (Some (Retracting Latch)) = omega arith
shutdown_latch (Some (Retracting LatchOrShutdown)) = omega arith
shutdown_latch (Some f) = omega arith

-- who drains its byte may not sleep
pub drains_awake : (t : Option Frame) → MayDrain t → may_sleep t ≡ false
drains_awake (Some (Draining w)) ok = refl
drains_awake t ok = absurd ok
