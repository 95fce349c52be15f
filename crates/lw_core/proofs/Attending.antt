-- What each kind of step does to a seat's place, for those who wait for a lock: the seat attends to the lock afterwards, or it is out of it.
use Rattle.std.proofs.Common.{◌≡◌, ◌≢◌, ℕ, ◌-◌, eqb, Bool, true, false, cond, List, [], ◌∷◌, get_or, Option, None, Some, is_some, sym, refl, ap, ◌∙◌, subst}
use mathlib.Core.Logic.{dite}
use native.Mathlib.Decide.{ℕ_discrete}
use Rattle.proc_table.specs.declared.Mode.{Mode}
use Rattle.proc_table.specs.declared.Mode.TheVariants as mode
use Rattle.lw_core.specs.declared.step.Call.{Call}
use Rattle.lw_core.specs.declared.step.Call.TheVariants as call
use Rattle.lw_core.specs.declared.view.Frame.{Frame}
use Rattle.lw_core.specs.declared.view.Frame.TheVariants.{Attempting, Trying, Unqueued, Queued, TakingList, Spinning, Queueing, Flagging, Announcing, Appending, Dequeueing, Checking, Removing, Withdrawing, Answering, Looking, Asleep, Downing, Sleeping, Woken, GivingBack, Waking, Marking, Detaching, Clearing, Posting, Peeking, Comparing, Reading, Returning, VarUnqueued, Allowing, VarQueued, VarLeaving, Storing, Publishing, Calling, Unhanding, Releasing}
use Rattle.lw_core.specs.declared.view.Hold.{Hold}
use Rattle.lw_core.specs.declared.view.View.{View}
use Rattle.lw_core.specs.declared.view.Want.{Want}
use Rattle.lw_core.specs.declared.view.Want.TheVariants as want
use Rattle.lw_core.specs.declared.view.Waiter.{Waiter}
use Rattle.lw_core.specs.Words.{is_free, locked, has_flag}
use Rattle.lw_core.specs.WaitLists.{taken_from}
use Rattle.lw_core.specs.Machine.{Place, number_of, not_held, resumed, on_grant, on_refusal, loaded, peeked, let_go, after_store, calls_for_wake, in_hand, flagged, sent_home, stored, reread, telling, detached, posted, looked, answered, surplus_posted, MayLoad, MayTake, MaySendHome, MayFlag, MayStore, MayReread, MayDetach, Owes, MayLook, MayAnswer, outer, on_outcome, on_conflict, taking, releasing, compared, published, MayPeek, BeginsTaking, MayReadVar, MayStoreVar, BeginsRelease}
use Rattle.lw_core.specs.SeatFits.{IsFreeOf, HoldsAs, FollowsAttempt, FollowsLeaving, FollowsSleep, FollowsDown, FollowsTaking, PlaceFits}
use Rattle.lw_core.specs.Stances.{Entry, entry_of, sleep_entry, queued_at, announced_at, due_of, due_at}
use Rattle.lw_core.specs.FreeLockIsAnswered.{attends_at, lock_in, committed_at}
use Rattle.lw_core.proofs.Touches.{top_is}

-- Of a seat that goes on from the place p to the place q: it attends to the lock l; or it didn't, sleeps for the lock only where it did, and sets no RELEASE_OK of l that is due
pub data Goes (l : ℕ) (p q : Place) : Type 0 where
  attends : attends_at q ≡ Some l → Goes l p q
  passes : (attends_at p ≡ Some l → ⊥) → (committed_at q ≡ Some l → committed_at p ≡ Some l) → (queued_at p ≡ None → due_at p ≡ Some l → ⊥) → Goes l p q

-- where nothing is queued for nothing is due
undue : (l : ℕ) (o : Option Entry) → o ≡ None → due_of o ≡ Some l → ⊥
undue l o none due = let is : None ≡ Some l = sym (ap due_of none) ∙ due in cc

other : (l k : ℕ) → k ≢ l → Some k ≡ Some l → ⊥
other l k ne e = ne (ap number_of e)

held_free : (o : Option Mode) → is_some o ≡ true → o ≡ None → ⊥
held_free None some none = absurd (cc)
held_free (Some m) some none = absurd (cc)

module _ (l : ℕ) where
  -- the seat attends to what it attended to before
  goes_on : (p q : Place) → attends_at q ≡ attends_at p → (committed_at q ≡ Some l → committed_at p ≡ Some l) → (queued_at p ≡ None → due_at p ≡ Some l → ⊥) → Goes l p q
  goes_on p q same sleeps due = by_lock (attends_at p) refl
    where
      by_lock : (o : Option ℕ) → attends_at p ≡ o → Goes l p q
      by_lock None e = passes (λ is. absurd (cc)) sleeps due
      by_lock (Some k) e = dite (ℕ_discrete k l) (λ is. attends (same ∙ (e ∙ ap Some is))) (λ ne. passes (λ is. other l k ne (sym e ∙ is)) sleeps due)

  -- it attends to nothing, and sleeps for nothing afterwards
  wanders : (p q : Place) → attends_at p ≡ None → committed_at q ≡ None → (queued_at p ≡ None → due_at p ≡ Some l → ⊥) → Goes l p q
  wanders p q free awake due = passes (λ is. absurd (cc)) (λ is. absurd (cc)) due

  begun_goes_or : (p : Place) → p ≡ [] → (q : Place) → (committed_at q ≡ Some l → ⊥) → Goes l p q
  begun_goes_or p e q awake = subst (λ (o : Place). Goes l o q) (sym e) (passes (λ is. absurd (cc)) (λ is. absurd (awake is)) (undue l None))

  -- a call begins
  pub begun_goes : (p q : Place) → p ≡ [] → committed_at q ≡ None → Goes l p q
  begun_goes p q e awake = subst (λ (o : Place). Goes l o q) (sym e) (wanders [] q refl awake (λ none due. absurd (cc)))

  -- what is given back says nothing of waiting
  resumed_awake : (s : ℕ) (p : Place) → p ≡ [] → committed_at (resumed s (GivingBack ∷ p)) ≡ None
  resumed_awake s p e = by_surplus (eqb s 0)
    where
      by_surplus : (b : Bool) → committed_at (cond b p (GivingBack ∷ p)) ≡ None
      by_surplus true = ap committed_at e
      by_surplus false = refl

  left_awake : (s : ℕ) (w : Want) (p : Place) → FollowsLeaving w p → committed_at (resumed s p) ≡ None
  left_awake s w (GivingBack ∷ p) e = resumed_awake s p e
  left_awake s w (VarLeaving old c ∷ p) e = resumed_awake s p e.1
  left_awake s w p e = absurd e

  told_awake : (us : List Waiter) (p : Place) → p ≡ [] → committed_at (telling us p) ≡ None
  told_awake [] p e = ap committed_at e
  told_awake (u ∷ us) p e = refl

  pub loaded_goes : (holds : List Hold) (s k n : ℕ) (p : Place) → MayLoad k p → PlaceFits holds s p → Goes l p (loaded None n p)
  loaded_goes holds s k n (Attempting j m ∷ []) ok fits = absurd fits
  loaded_goes holds s k n (Attempting j m ∷ Unqueued i o u true ∷ p) ok fits = goes_on _ _ refl (λ is. absurd (cc)) (undue l None)
  loaded_goes holds s k n (Attempting j m ∷ Unqueued i o u false ∷ p) ok fits = wanders _ _ refl refl (undue l None)
  loaded_goes holds s k n (Attempting j m ∷ Queued i o u ∷ p) ok fits = wanders _ _ refl refl (undue l (entry_of i u))
  loaded_goes holds s k n (Attempting j m ∷ f ∷ p) ok fits = absurd fits.1
  loaded_goes holds s k n (Spinning j ∷ p) ok fits = by_word (eqb (has_flag locked n) 0) p fits
    where
      by_word : (b : Bool) (q : Place) → FollowsTaking holds j s q → Goes l (Spinning j ∷ q) (cond b (TakingList j ∷ q) (Spinning j ∷ q))
      by_word true (Queueing i w ∷ q) fits = wanders _ _ refl refl (undue l None)
      by_word true (Dequeueing i w ∷ GivingBack ∷ q) fits = wanders _ _ refl refl (undue l (entry_of i w))
      by_word true (Dequeueing i w ∷ VarLeaving old c ∷ q) fits = goes_on _ _ refl (λ is. is) (undue l (entry_of i w))
      by_word true (Dequeueing i w ∷ q) fits = absurd fits.2
      by_word true (Waking i updated ∷ q) fits = goes_on _ _ refl (λ is. absurd (cc)) (undue l None)
      by_word true (Comparing i old ∷ VarUnqueued a older ∷ q) fits = wanders _ _ refl refl (undue l None)
      by_word true (Comparing i old ∷ VarQueued a older ∷ q) fits = goes_on _ _ refl (λ is. is) (undue l (entry_of a want.UntilFree))
      by_word true (Comparing i old ∷ q) fits = absurd fits.2
      by_word true (Storing i x releases ∷ q) fits = wanders _ _ refl refl (undue l None)
      by_word true q fits = absurd fits
      by_word false (Queueing i w ∷ q) fits = wanders _ _ refl refl (undue l None)
      by_word false (Dequeueing i w ∷ GivingBack ∷ q) fits = wanders _ _ refl refl (undue l (entry_of i w))
      by_word false (Dequeueing i w ∷ VarLeaving old c ∷ q) fits = goes_on _ _ refl (λ is. is) (undue l (entry_of i w))
      by_word false (Dequeueing i w ∷ q) fits = absurd fits.2
      by_word false (Waking i updated ∷ q) fits = goes_on _ _ refl (λ is. absurd (cc)) (undue l None)
      by_word false (Comparing i old ∷ VarUnqueued a older ∷ q) fits = wanders _ _ refl refl (undue l None)
      by_word false (Comparing i old ∷ VarQueued a older ∷ q) fits = goes_on _ _ refl (λ is. is) (undue l (entry_of a want.UntilFree))
      by_word false (Comparing i old ∷ q) fits = absurd fits.2
      by_word false (Storing i x releases ∷ q) fits = wanders _ _ refl refl (undue l None)
      by_word false q fits = absurd fits
  loaded_goes holds s k n (Marking j updated found marked [] ∷ p) ok fits = goes_on _ _ refl (λ is. absurd (cc)) (undue l None)
  loaded_goes holds s k n p ok fits = absurd ok

  -- an attempt on another lock is granted or refused; and one on any is tried again
  pub granted_goes : (k w s : ℕ) (m : Mode) (p : Place) → k ≢ l → FollowsAttempt k m s p → Goes l (Trying k m w ∷ p) (on_grant s p)
  granted_goes k w s m [] ne e = wanders _ _ refl refl (undue l None)
  granted_goes k w s m (Unqueued j n u true ∷ p) ne e = passes (λ is. ne (sym e.0 ∙ ap number_of is)) (λ is. let none = resumed_awake s p e.3 in absurd (cc)) (undue l None)
  granted_goes k w s m (Unqueued j n u false ∷ p) ne e = wanders _ _ refl (resumed_awake s p e.3) (undue l None)
  granted_goes k w s m (Queued j n u ∷ p) ne e = wanders _ _ refl refl (undue l (entry_of j u))
  granted_goes k w s m p ne e = absurd e

  pub refused_goes : (k w s : ℕ) (m : Mode) (p : Place) → k ≢ l → FollowsAttempt k m s p → Goes l (Trying k m w ∷ p) (on_refusal p)
  refused_goes k w s m [] ne e = wanders _ _ refl refl (undue l None)
  refused_goes k w s m (Unqueued j n u true ∷ p) ne e = passes (λ is. ne (sym e.0 ∙ ap number_of is)) (λ is. absurd (cc)) (undue l None)
  refused_goes k w s m (Unqueued j n u false ∷ p) ne e = wanders _ _ refl refl (undue l None)
  refused_goes k w s m (Queued j n u ∷ p) ne e = passes (λ is. absurd (cc)) (λ is. absurd (ne (sym e.0 ∙ ap number_of is))) (undue l (entry_of j u))
  refused_goes k w s m p ne e = absurd e

  pub retried_goes : (k w n s : ℕ) (m : Mode) (p : Place) → FollowsAttempt k m s p → Goes l (Trying k m w ∷ p) (Trying k m n ∷ p)
  retried_goes k w n s m [] e = wanders _ _ refl refl (undue l None)
  retried_goes k w n s m (Unqueued j i u true ∷ p) e = goes_on _ _ refl (λ is. absurd (cc)) (undue l None)
  retried_goes k w n s m (Unqueued j i u false ∷ p) e = wanders _ _ refl refl (undue l None)
  retried_goes k w n s m (Queued j i u ∷ p) e = wanders _ _ refl refl (undue l (entry_of j u))
  retried_goes k w n s m p e = absurd e

  -- a release
  let_go_awake : (o : Option Call) (k word : ℕ) (p : Place) → p ≡ [] → committed_at (let_go o k word p) ≡ None
  let_go_awake o k word p e = by_call (calls_for_wake word)
    where
      by_call : (b : Bool) → committed_at (cond b (TakingList k ∷ Waking k (after_store o) ∷ p) p) ≡ None
      by_call true = refl
      by_call false = ap committed_at e

  pub let_go_goes : (b : Option Call) (k word : ℕ) (v : View) → releasing b v.place ≡ [] → BeginsRelease k b v → Goes l v.place (let_go b k word (releasing b v.place))
  let_go_goes (Some c) k word v none ok = begun_goes v.place (let_go (Some c) k word v.place) none (let_go_awake (Some c) k word v.place none)
  let_go_goes None k word v none ok = subst (λ (p : Place). Goes l p (let_go None k word (outer v.place))) (sym (top_is v.place (Releasing k) ok)) (wanders _ _ refl (let_go_awake None k word (outer v.place) none) (undue l None))

  -- a look at a lock in a wait for its variable, which begins with it; and one that goes on, on another lock where it finds an exclusive holder
  pub peeked_goes : (s k old n : ℕ) (p : Place) → p ≡ [] → Goes l p (peeked (Some (call.WaitForVar k old)) s n p)
  peeked_goes s k old n p e = begun_goes p (peeked (Some (call.WaitForVar k old)) s n p) e (by_word (is_free mode.Shared n))
    where
      by_word : (b : Bool) → committed_at (cond b p (TakingList k ∷ Comparing k old ∷ VarUnqueued k old ∷ p)) ≡ None
      by_word true = ap committed_at e
      by_word false = refl

  pub looked_on_goes : (holds : List Hold) (s k n : ℕ) (p : Place) → MayPeek k p → PlaceFits holds s p → (is_free mode.Shared n ≡ false → k ≢ l) → Goes l p (peeked None s n p)
  looked_on_goes holds s k n (Peeking j old ∷ VarUnqueued i older ∷ p) ok fits ne = by_word (is_free mode.Shared n)
    where
      by_word : (b : Bool) → Goes l (Peeking j old ∷ VarUnqueued i older ∷ p) (cond b (resumed s (GivingBack ∷ p)) (TakingList j ∷ Comparing j old ∷ VarUnqueued i older ∷ p))
      by_word true = wanders _ _ refl (resumed_awake s p fits.1.2) (undue l None)
      by_word false = wanders _ _ refl refl (undue l None)
  looked_on_goes holds s k n (Peeking j old ∷ VarQueued i older ∷ p) ok fits ne = by_word (is_free mode.Shared n) refl
    where
      by_word : (b : Bool) → is_free mode.Shared n ≡ b → Goes l (Peeking j old ∷ VarQueued i older ∷ p) (cond b (TakingList i ∷ Dequeueing i want.UntilFree ∷ VarLeaving older false ∷ p) (TakingList j ∷ Comparing j old ∷ VarQueued i older ∷ p))
      by_word true e = wanders _ _ refl refl (undue l (entry_of i want.UntilFree))
      by_word false e = passes (λ is. absurd (cc)) (λ is. absurd (ne e (sym ok ∙ (sym fits.1.0 ∙ ap number_of is)))) (undue l (entry_of i want.UntilFree))
  looked_on_goes holds s k n (Peeking j old ∷ p) ok fits ne = absurd fits.1
  looked_on_goes holds s k n p ok fits ne = absurd ok

  pub compared_goes : (holds : List Hold) (s k n : ℕ) (p : Place) → MayReadVar k p → PlaceFits holds s p → Goes l p (compared n p)
  compared_goes holds s k n (Reading j old found ∷ VarUnqueued i older ∷ p) ok fits = wanders _ _ refl refl (undue l None)
  compared_goes holds s k n (Reading j old found ∷ VarQueued i older ∷ p) ok fits = goes_on _ _ refl (λ is. is) (undue l (entry_of i want.UntilFree))
  compared_goes holds s k n (Reading j old found ∷ p) ok fits = absurd fits.1
  compared_goes holds s k n p ok fits = absurd ok

  pub published_goes : (k x : ℕ) (p : Place) → MayStoreVar k x p → Goes l p (published p)
  published_goes k x (Publishing j y found true ∷ p) ok = wanders _ _ refl refl (undue l None)
  published_goes k x (Publishing j y found false ∷ p) ok = wanders _ _ refl refl (undue l None)
  published_goes k x p ok = absurd ok

  -- the list is taken in hand, or isn't
  from_idle : (p : Place) → p ≡ [] → (f q : Place) → committed_at f ≡ None → attends_at f ≡ None → Goes l f q → Goes l p q
  from_idle p e f q awake free (attends is) = attends is
  from_idle p e f q awake free (passes not sleeps due) = begun_goes_or p e q (λ is. let none = sleeps is in absurd (cc))

  pub taken_goes : (holds : List Hold) (s k : ℕ) (found : List Waiter) (f : Frame) (p : Place) → MayTake k (f ∷ p) → PlaceFits holds s (f ∷ p) → (b : Bool) → Goes l (f ∷ p) (cond b (in_hand found p) (Spinning k ∷ p))
  taken_goes holds s k found (TakingList j) (Queueing i w ∷ p) ok fits true = wanders _ _ refl refl (undue l None)
  taken_goes holds s k found (TakingList j) (Queueing i w ∷ p) ok fits false = wanders _ _ refl refl (undue l None)
  taken_goes holds s k found (TakingList j) (Dequeueing i w ∷ GivingBack ∷ p) ok fits true = wanders _ _ refl refl (undue l (entry_of i w))
  taken_goes holds s k found (TakingList j) (Dequeueing i w ∷ VarLeaving old c ∷ p) ok fits true = goes_on _ _ refl (λ is. is) (undue l (entry_of i w))
  taken_goes holds s k found (TakingList j) (Dequeueing i w ∷ GivingBack ∷ p) ok fits false = wanders _ _ refl refl (undue l (entry_of i w))
  taken_goes holds s k found (TakingList j) (Dequeueing i w ∷ VarLeaving old c ∷ p) ok fits false = goes_on _ _ refl (λ is. is) (undue l (entry_of i w))
  taken_goes holds s k found (TakingList j) (Waking i updated ∷ p) ok fits true = goes_on _ _ refl (λ is. absurd (cc)) (undue l None)
  taken_goes holds s k found (TakingList j) (Waking i updated ∷ p) ok fits false = goes_on _ _ refl (λ is. absurd (cc)) (undue l None)
  taken_goes holds s k found (TakingList j) (Comparing i old ∷ VarUnqueued a older ∷ p) ok fits true = wanders _ _ refl refl (undue l None)
  taken_goes holds s k found (TakingList j) (Comparing i old ∷ VarQueued a older ∷ p) ok fits true = goes_on _ _ refl (λ is. is) (undue l (entry_of a want.UntilFree))
  taken_goes holds s k found (TakingList j) (Storing i x releases ∷ p) ok fits true = wanders _ _ refl refl (undue l None)
  taken_goes holds s k found (TakingList j) (Comparing i old ∷ VarUnqueued a older ∷ p) ok fits false = wanders _ _ refl refl (undue l None)
  taken_goes holds s k found (TakingList j) (Comparing i old ∷ VarQueued a older ∷ p) ok fits false = goes_on _ _ refl (λ is. is) (undue l (entry_of a want.UntilFree))
  taken_goes holds s k found (TakingList j) (Storing i x releases ∷ p) ok fits false = wanders _ _ refl refl (undue l None)
  taken_goes holds s k found (TakingList j) (Comparing i old ∷ p) ok fits b = absurd fits.2
  taken_goes holds s k found (TakingList j) (Dequeueing i w ∷ p) ok fits b = absurd fits.2
  taken_goes holds s k found f p ok fits b = absurd ok

  -- where a call begins by taking the list
  pub taking_goes : (lawful : List ℕ → Type 0) (b : Option Call) (k : ℕ) (v : View) (q : Place) → BeginsTaking lawful k b v → Goes l (taking b v.place) q → Goes l v.place q
  taking_goes lawful (Some (call.UpdateVar j x)) k v q ok goes = from_idle v.place ok.1 (TakingList j ∷ Storing j x false ∷ v.place) q refl refl goes
  taking_goes lawful (Some (call.ReleaseClearVar j x)) k v q ok goes = from_idle v.place ok.1 (TakingList j ∷ Storing j x true ∷ v.place) q refl refl goes
  taking_goes lawful (Some c) k v q ok goes = absurd ok
  taking_goes lawful None k v q ok goes = goes

  pub sent_goes : (holds : List Hold) (s k own : ℕ) (clears : Bool) (p : Place) → MaySendHome k clears own p → PlaceFits holds s p → Goes l p (sent_home s p)
  sent_goes holds s k own clears (Appending j w found ∷ Attempting a m ∷ Queued b n u ∷ p) ok fits = wanders _ _ refl refl (undue l None)
  sent_goes holds s k own clears (Removing j w found true ∷ p) ok fits = wanders _ _ refl refl (undue l (entry_of j w))
  sent_goes holds s k own clears (Removing j w found false ∷ p) ok fits = wanders _ _ refl refl (undue l (entry_of j w))
  sent_goes holds s k own clears (Appending j w found ∷ Allowing a ∷ Peeking b old ∷ VarQueued i older ∷ p) ok fits = wanders _ _ refl refl (undue l None)
  sent_goes holds s k own clears (Appending j w found ∷ p) ok fits = absurd fits.1
  sent_goes holds s k own clears (Returning j old found n ∷ VarUnqueued i older ∷ p) ok fits = by_value (eqb n old)
    where
      by_value : (b : Bool) → Goes l (Returning j old found n ∷ VarUnqueued i older ∷ p) (cond b (on_conflict (VarUnqueued i older ∷ p)) (resumed s (GivingBack ∷ p)))
      by_value true = wanders _ _ refl refl (undue l None)
      by_value false = wanders _ _ refl (resumed_awake s p fits.1.2) (undue l None)
  sent_goes holds s k own clears (Returning j old found n ∷ VarQueued i older ∷ p) ok fits = by_value (eqb n old)
    where
      by_value : (b : Bool) → Goes l (Returning j old found n ∷ VarQueued i older ∷ p) (cond b (on_conflict (VarQueued i older ∷ p)) (on_outcome true s (VarQueued i older ∷ p)))
      by_value true = goes_on _ _ refl (λ is. is) (undue l (entry_of i want.UntilFree))
      by_value false = goes_on _ _ refl (λ is. is) (undue l (entry_of i want.UntilFree))
  sent_goes holds s k own clears (Returning j old found n ∷ p) ok fits = absurd fits.1
  sent_goes holds s k own clears (Calling j found marked [] ∷ p) ok fits = wanders _ _ refl (told_awake marked p fits.3) (undue l None)
  sent_goes holds s k own clears (Unhanding j found ∷ p) ok fits = wanders _ _ refl refl (undue l None)
  sent_goes holds s k own clears p ok fits = absurd ok

  pub flagged_goes : (k : ℕ) (p : Place) → MayFlag k p → Goes l p (flagged p)
  flagged_goes k (Flagging j w found ∷ p) ok = wanders _ _ refl refl (undue l None)
  flagged_goes k p ok = absurd ok

  pub stored_goes : (holds : List Hold) (s q x : ℕ) (own : Option ℕ) (p : Place) → MayStore q x own p → PlaceFits holds s p → Goes l p (stored s p)
  stored_goes holds s q x own (Announcing k w found ∷ p) ok fits = wanders _ _ refl refl (undue l None)
  stored_goes holds s q x own (Withdrawing ∷ p) ok fits = wanders _ _ refl (left_awake s want.UntilFree p fits) (undue l None)
  stored_goes holds s q x own (Marking k updated found marked (u ∷ us) ∷ p) ok fits = goes_on _ _ refl (λ is. absurd (cc)) (undue l None)
  stored_goes holds s q x own (Calling k found marked (u ∷ us) ∷ p) ok fits = wanders _ _ refl refl (undue l None)
  stored_goes holds s q x own (Clearing (u ∷ us) ∷ p) ok fits = wanders _ _ refl refl (undue l None)
  stored_goes holds s q x own p ok fits = absurd ok

  pub reread_goes : (holds : List Hold) (s n : ℕ) (p : Place) → MayReread p → PlaceFits holds s p → Goes l p (reread s n p)
  reread_goes holds s n (Checking k w found ∷ GivingBack ∷ p) ok fits = wanders _ _ refl refl (undue l (entry_of k w))
  reread_goes holds s n (Checking k w found ∷ VarLeaving old c ∷ p) ok fits = goes_on _ _ refl (λ is. is) (undue l (entry_of k w))
  reread_goes holds s n (Checking k w found ∷ p) ok fits = absurd fits.1
  reread_goes holds s n (Sleeping k w a ∷ p) ok fits = by_field (eqb n 0)
    where
      slept : (b : Bool) (q : Place) → FollowsSleep holds k w b q → committed_at (resumed s q) ≡ None
      slept false (Woken j m ∷ q) e = refl
      slept false (GivingBack ∷ q) e = resumed_awake s q e.1
      slept false (Peeking j old ∷ VarUnqueued i older ∷ q) e = refl
      slept true (GivingBack ∷ q) e = resumed_awake s q e
      slept true (VarLeaving old c ∷ q) e = resumed_awake s q e.1
      slept b q e = absurd e

      by_field : (b : Bool) → Goes l (Sleeping k w a ∷ p) (cond b (resumed s p) (Looking ∷ Sleeping k w a ∷ p))
      by_field true = wanders _ _ refl (slept a p fits) (undue l (sleep_entry (Sleeping k w a ∷ p)))
      by_field false = goes_on _ _ refl (λ is. is) (undue l (sleep_entry (Sleeping k w a ∷ p)))
  reread_goes holds s n p ok fits = absurd ok

  -- the exchange of a wake for another lock, or one that missed
  pub detached_goes : (holds : List Hold) (s k w to n : ℕ) (p : Place) → k ≢ l → MayDetach k w to p → PlaceFits holds s p → Goes l p (detached true n p)
  detached_goes holds s k w to n (Detaching j updated found word ∷ p) ne ok fits = passes (λ is. ne (sym ok.0 ∙ ap number_of is)) (λ is. let none = told_awake (taken_from found) p fits.2 in absurd (cc)) (undue l None)
  detached_goes holds s k w to n p ne ok fits = absurd ok

  pub missed_goes : (k w to n : ℕ) (p : Place) → MayDetach k w to p → Goes l p (detached false n p)
  missed_goes k w to n (Detaching j updated found word ∷ p) ok = goes_on _ _ refl (λ is. absurd (cc)) (undue l None)
  missed_goes k w to n p ok = absurd ok

  pub posted_goes : (holds : List Hold) (s q : ℕ) (own : Option ℕ) (p : Place) → Owes q own p → PlaceFits holds s p → Goes l p (posted (surplus_posted p s) p)
  posted_goes holds s q own (GivingBack ∷ p) ok fits = wanders _ _ refl (resumed_awake (s - 1) p fits.1) (undue l None)
  posted_goes holds s q own (Posting (u ∷ us) ∷ p) ok fits = wanders _ _ refl (told_awake us p fits.1) (undue l None)
  posted_goes holds s q own p ok fits = absurd ok

  pub looked_goes : (b : Option Call) (p : Place) → MayLook b p → (is_zero : Bool) → Goes l p (looked is_zero p)
  looked_goes (Some c) [] ok true = wanders _ _ refl refl (undue l None)
  looked_goes (Some c) [] ok false = wanders _ _ refl refl (undue l None)
  looked_goes None (Looking ∷ p) ok true = goes_on _ _ refl (λ is. is) (undue l (sleep_entry p))
  looked_goes None (Looking ∷ p) ok false = goes_on _ _ refl (λ is. is) (undue l (sleep_entry p))
  looked_goes None (Asleep ∷ p) ok true = goes_on _ _ refl (λ is. is) (undue l (sleep_entry p))
  looked_goes None (Asleep ∷ p) ok false = goes_on _ _ refl (λ is. is) (undue l (sleep_entry p))
  looked_goes b p ok is_zero = absurd ok

  pub down_goes : (holds : List Hold) (s : ℕ) (p : Place) → FollowsDown holds s p → Goes l (Downing ∷ p) p
  down_goes holds s [] fits = wanders _ _ refl refl (undue l None)
  down_goes holds s (Sleeping k w a ∷ p) fits = goes_on _ _ refl (λ is. is) (undue l (sleep_entry (Sleeping k w a ∷ p)))
  down_goes holds s p fits = absurd fits

  -- RELEASE_OK is set by one who was woken and tries again, or by one who left the list and so holds the lock
  answering_undue : (holds : List Hold) (k : ℕ) (w : Want) → HoldsAs holds k w → IsFreeOf holds l → due_of (entry_of k w) ≡ Some l → ⊥
  answering_undue holds k want.UntilFree has free due = absurd (cc)
  answering_undue holds k want.Shared has free due = held_free _ (has refl) (ap (λ (j : ℕ). (get_or holds j not_held).mode) (ap number_of due) ∙ free)
  answering_undue holds k want.Exclusive has free due = held_free _ (has refl) (ap (λ (j : ℕ). (get_or holds j not_held).mode) (ap number_of due) ∙ free)

  pub answered_goes : (holds : List Hold) (s k : ℕ) (p : Place) → MayAnswer k p → PlaceFits holds s p → IsFreeOf holds l → Goes l p (answered p)
  answered_goes holds s k (Answering j w ∷ Looking ∷ Sleeping i u true ∷ p) ok fits free = passes (λ is. absurd (cc)) (λ is. absurd (cc)) (λ none due. answering_undue holds j w fits.2 free due)
  answered_goes holds s k (Woken j m ∷ p) ok fits free = dite (ℕ_discrete j l) (λ is. attends (ap Some is)) (λ ne. passes (λ is. absurd (cc)) (λ is. absurd (cc)) (λ none due. other l j ne due))
  answered_goes holds s k (Allowing j ∷ Peeking i old ∷ VarQueued a older ∷ p) ok fits free = wanders _ _ refl refl (undue l (entry_of j want.UntilFree))
  answered_goes holds s k (Answering j w ∷ p) ok fits free = absurd fits
  answered_goes holds s k (Allowing j ∷ p) ok fits free = absurd fits
  answered_goes holds s k p ok fits free = absurd ok

-- who sleeps for a lock may be on its list, and isn't about to go on one
pub committed_queued : (l : ℕ) (p : Place) → committed_at p ≡ Some l → lock_in (queued_at p) ≡ Some l
committed_queued l (Looking ∷ p) e = e
committed_queued l (Asleep ∷ p) e = e
committed_queued l (Downing ∷ p) e = e
committed_queued l (Sleeping k w a ∷ p) e = e
committed_queued l (TakingList k ∷ Comparing i old ∷ VarQueued j older ∷ p) e = e
committed_queued l (Spinning k ∷ Comparing i old ∷ VarQueued j older ∷ p) e = e
committed_queued l (Reading k old found ∷ VarQueued j older ∷ p) e = e
committed_queued l (Returning k old found n ∷ VarQueued j older ∷ p) e = e
committed_queued l (TakingList k ∷ Dequeueing j w ∷ VarLeaving old true ∷ p) e = e
committed_queued l (Spinning k ∷ Dequeueing j w ∷ VarLeaving old true ∷ p) e = e
committed_queued l (Checking k w found ∷ VarLeaving old true ∷ p) e = e
committed_queued l (Removing k w found here ∷ VarLeaving old true ∷ p) e = e
committed_queued l [] e = absurd (cc)
committed_queued l p e = absurd (cc)

pub committed_quiet : (l : ℕ) (p : Place) → committed_at p ≡ Some l → announced_at p ≡ false
committed_quiet l (Appending k w found ∷ p) e = absurd (cc)
committed_quiet l (Withdrawing ∷ p) e = absurd (cc)
committed_quiet l [] e = refl
committed_quiet l p e = refl
