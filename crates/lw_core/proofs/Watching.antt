-- What each kind of step does to a seat's place, for those who wait for a change of a lock's variable: who watches it afterwards watched it before, and who updates the lock goes on.
use Rattle.std.proofs.Common.{◌≡◌, ◌⊎◌, ℕ, ◌-◌, eqb, Bool, true, false, cond, List, [], ◌∷◌, Option, None, Some, sym, refl, ap, ◌∙◌, subst, inl, inr, eq-eqb, ⊎_elim}
use Rattle.std.proofs.lemmas.Bool.{eqb-true}
use Rattle.proc_table.specs.declared.Mode.{Mode}
use Rattle.proc_table.specs.declared.Mode.TheVariants as mode
use Rattle.lw_core.specs.declared.step.Call.{Call}
use Rattle.lw_core.specs.declared.step.Call.TheVariants as call
use Rattle.lw_core.specs.declared.view.Frame.{Frame}
use Rattle.lw_core.specs.declared.view.Frame.TheVariants.{Attempting, Trying, Unqueued, Queued, TakingList, Spinning, Queueing, Flagging, Announcing, Appending, Dequeueing, Checking, Removing, Withdrawing, Answering, Looking, Asleep, Downing, Sleeping, Woken, GivingBack, Waking, Marking, Detaching, Clearing, Posting, Peeking, Comparing, Reading, Returning, VarUnqueued, Allowing, VarQueued, VarLeaving, Storing, Publishing, Calling, Unhanding, Releasing}
use Rattle.lw_core.specs.declared.view.Hold.{Hold}
use Rattle.lw_core.specs.declared.view.View.{View}
use Rattle.lw_core.specs.declared.view.Want.{Want}
use Rattle.lw_core.specs.declared.view.Want.TheVariants as want
use Rattle.lw_core.specs.declared.view.Waiter.{Waiter}
use Rattle.lw_core.specs.Words.{is_free, locked, has_flag}
use Rattle.lw_core.specs.WaitLists.{taken_from}
use Rattle.lw_core.specs.Machine.{Place, outer, resumed, on_grant, on_waking, on_refusal, on_conflict, on_outcome, loaded, peeked, let_go, calls_for_wake, releasing, taking, in_hand, flagged, compared, published, sent_home, stored, reread, telling, detached, posted, looked, answered, surplus_posted, MayLoad, MayPeek, MayTake, BeginsTaking, BeginsRelease, MayReadVar, MayStoreVar, MaySendHome, MayFlag, MayStore, MayReread, MayDetach, Owes, MayLook, MayAnswer}
use Rattle.lw_core.specs.SeatFits.{HoldsAlone, FollowsAttempt, FollowsLook, FollowsLeaving, FollowsSleep, FollowsDown, PlaceFits}
use Rattle.lw_core.specs.Stances.{entry_of, sleep_entry, queued_at, announced_at, hand_at, has_hand}
use Rattle.lw_core.specs.VariableIsAnnounced.{Watch, watch_of, sleep_watch, sleeps_for_at, watches_at, reads_at, updates_at}
use Rattle.lw_core.proofs.Touches.{top_is}

-- what a place says of watching
record Sight : Type 0 where
  watch : Option Watch
  sleep : Option Watch
  read : Option Watch

abbrev sight : Place → Sight
sight p = record { watch = watches_at p; sleep = sleeps_for_at p; read = reads_at p }

abbrev blind : Sight
blind = record { watch = None; sleep = None; read = None }

-- the lock and the value of a watch
abbrev lock_watched : Option Watch → ℕ
lock_watched None = 0
lock_watched (Some t) = t.lock

abbrev value_watched : Option Watch → ℕ
value_watched None = 0
value_watched (Some t) = t.value

-- Of a seat that goes on from the place p to the place q, with the lock l, whose variable is x afterwards: it watches what it watched, or set RELEASE_OK; it sleeps for what it slept for, or for what it read; it has read what the variable is; and it goes on to update l, or is done
pub record Goes (l x : ℕ) (IsSet IsDone : Type 0) (p q : Place) : Type 0 where
  pub watches : (old : ℕ) → watches_at q ≡ watch_of l old → (watches_at p ≡ watch_of l old) ⊎ IsSet
  pub sleeps : (old : ℕ) → sleeps_for_at q ≡ watch_of l old → (sleeps_for_at p ≡ watch_of l old) ⊎ (reads_at p ≡ watch_of l old)
  pub reads : (n : ℕ) → reads_at q ≡ watch_of l n → x ≡ n
  pub updates : updates_at p ≡ Some l → (updates_at q ≡ Some l) ⊎ IsDone

same_watch : (a b c d : ℕ) → a ≡ b → c ≡ d → watch_of a c ≡ watch_of b d
same_watch a b c d e f = λ h. watch_of (e h) (f h)

-- the lock of a release that stored the variable
updated_lock : (b : Bool) (j l : ℕ) → cond {A = Option ℕ} b (Some j) None ≡ Some l → j ≡ l
updated_lock true j l e = cc
updated_lock false j l e = absurd (cc)

module _ (l x : ℕ) (IsSet IsDone : Type 0) where
  abbrev Passes : Place → Place → Type 0
  Passes p q = Goes l x IsSet IsDone p q

  -- it watches and updates what it did, and has read nothing
  goes_on : (p q : Place) → watches_at q ≡ watches_at p → sleeps_for_at q ≡ sleeps_for_at p → reads_at q ≡ None → updates_at q ≡ updates_at p → Passes p q
  goes_on p q watch sleep read update = record { watches = λ old is. inl (sym watch ∙ is); sleeps = λ old is. inl (sym sleep ∙ is); reads = λ n is. absurd (cc); updates = λ is. inl (update ∙ is) }

  -- it watches nothing afterwards, and what it updated it updates or is done with
  turns_off : (p q : Place) → sight q ≡ blind → (updates_at p ≡ Some l → (updates_at q ≡ Some l) ⊎ IsDone) → Passes p q
  turns_off p q dark update = record {
    watches = λ old is. absurd (let none = ap (λ (s : Sight). s.watch) dark in cc);
    sleeps = λ old is. absurd (let none = ap (λ (s : Sight). s.sleep) dark in cc);
    reads = λ n is. absurd (let none = ap (λ (s : Sight). s.read) dark in cc);
    updates = update;
  }

  -- and it updated nothing
  rests : (p q : Place) → sight q ≡ blind → updates_at p ≡ None → Passes p q
  rests p q dark none = turns_off p q dark (λ is. absurd (cc))

  -- a call begins
  pub begun_goes : (p q : Place) → p ≡ [] → sight q ≡ blind → Passes p q
  begun_goes p q e dark = rests p q dark (ap updates_at e)

  pub idle_goes : (p q : Place) → p ≡ [] → q ≡ p → Passes p q
  idle_goes p q e same = begun_goes p q e (ap sight (same ∙ e))

  -- what is given back says nothing of watching
  resumed_blind : (s : ℕ) (p : Place) → p ≡ [] → sight (resumed s (GivingBack ∷ p)) ≡ blind
  resumed_blind s p e = by_surplus (eqb s 0)
    where
      by_surplus : (b : Bool) → sight (cond b p (GivingBack ∷ p)) ≡ blind
      by_surplus true = ap sight e
      by_surplus false = refl

  left_blind : (s : ℕ) (w : Want) (p : Place) → FollowsLeaving w p → sight (resumed s p) ≡ blind
  left_blind s w (GivingBack ∷ p) e = resumed_blind s p e
  left_blind s w (VarLeaving old c ∷ p) e = resumed_blind s p e.1
  left_blind s w p e = absurd e

  told_blind : (us : List Waiter) (p : Place) → p ≡ [] → sight (telling us p) ≡ blind
  told_blind [] p e = ap sight e
  told_blind (u ∷ us) p e = refl

  -- who spins for a list watches and updates what it did when it was to take it
  spun_goes : (a b : ℕ) (p : Place) → Passes (TakingList a ∷ p) (Spinning b ∷ p) × Passes (Spinning b ∷ p) (TakingList a ∷ p) × Passes (Spinning b ∷ p) (Spinning b ∷ p)
  spun_goes a b (Waking k updated ∷ p) = (goes_on _ _ refl refl refl refl, goes_on _ _ refl refl refl refl, goes_on _ _ refl refl refl refl)
  spun_goes a b (Dequeueing k w ∷ VarLeaving old c ∷ p) = (goes_on _ _ refl refl refl refl, goes_on _ _ refl refl refl refl, goes_on _ _ refl refl refl refl)
  spun_goes a b (Dequeueing k w ∷ []) = (rests _ _ refl refl, rests _ _ refl refl, rests _ _ refl refl)
  spun_goes a b (Dequeueing k w ∷ f ∷ p) = (rests _ _ refl refl, rests _ _ refl refl, rests _ _ refl refl)
  spun_goes a b (Comparing k old ∷ VarQueued j older ∷ p) = (goes_on _ _ refl refl refl refl, goes_on _ _ refl refl refl refl, goes_on _ _ refl refl refl refl)
  spun_goes a b (Comparing k old ∷ []) = (rests _ _ refl refl, rests _ _ refl refl, rests _ _ refl refl)
  spun_goes a b (Comparing k old ∷ f ∷ p) = (rests _ _ refl refl, rests _ _ refl refl, rests _ _ refl refl)
  spun_goes a b [] = (rests _ _ refl refl, rests _ _ refl refl, rests _ _ refl refl)
  spun_goes a b (f ∷ p) = (rests _ _ refl refl, rests _ _ refl refl, rests _ _ refl refl)

  pub loaded_goes : (k n : ℕ) (p : Place) → MayLoad k p → Passes p (loaded None n p)
  loaded_goes k n (Attempting j m ∷ p) ok = rests _ _ refl refl
  loaded_goes k n (Spinning j ∷ p) ok = by_word (eqb (has_flag locked n) 0)
    where
      by_word : (b : Bool) → Passes (Spinning j ∷ p) (cond b (TakingList j ∷ p) (Spinning j ∷ p))
      by_word true = (spun_goes j j p).1
      by_word false = (spun_goes j j p).2
  loaded_goes k n (Marking j updated found marked [] ∷ p) ok = goes_on _ _ refl refl refl refl
  loaded_goes k n p ok = absurd ok

  -- an attempt is granted, refused or tried again
  pub granted_goes : (k w s : ℕ) (m : Mode) (p : Place) → FollowsAttempt k m s p → Passes (Trying k m w ∷ p) (on_grant s p)
  granted_goes k w s m [] e = rests _ _ refl refl
  granted_goes k w s m (Unqueued j n u slept ∷ p) e = rests _ _ (resumed_blind s p e.3) refl
  granted_goes k w s m (Queued j n u ∷ p) e = rests _ _ refl refl
  granted_goes k w s m p e = absurd e

  pub refused_goes : (k w s : ℕ) (m : Mode) (p : Place) → FollowsAttempt k m s p → Passes (Trying k m w ∷ p) (on_refusal p)
  refused_goes k w s m [] e = rests _ _ refl refl
  refused_goes k w s m (Unqueued j n u slept ∷ p) e = rests _ _ refl refl
  refused_goes k w s m (Queued j n u ∷ p) e = rests _ _ (by_want u) refl
    where
      by_want : (v : Want) → sight (Looking ∷ Sleeping j v false ∷ on_waking v j n p) ≡ blind
      by_want want.UntilFree = refl
      by_want want.Shared = refl
      by_want want.Exclusive = refl
  refused_goes k w s m p e = absurd e

  pub retried_goes : (k w n : ℕ) (m : Mode) (p : Place) → Passes (Trying k m w ∷ p) (Trying k m n ∷ p)
  retried_goes k w n m p = rests _ _ refl refl

  -- a release: where it calls for no wake, an update of its lock is done
  pub let_go_goes : (b : Option Call) (k word : ℕ) (v : View) → PlaceFits v.holds v.surplus v.place → releasing b v.place ≡ [] → BeginsRelease k b v → (k ≡ l → HoldsAlone v.holds k → calls_for_wake word ≡ false → IsDone)
      → Passes v.place (let_go b k word (releasing b v.place))
  let_go_goes (Some c) k word v fits none ok done = begun_goes v.place (let_go (Some c) k word v.place) none (by_call (calls_for_wake word))
    where
      by_call : (c : Bool) → sight (cond c (TakingList k ∷ Waking k false ∷ v.place) v.place) ≡ blind
      by_call true = refl
      by_call false = ap sight none
  let_go_goes None k word v fits none ok done = let at_top = top_is v.place (Releasing k) ok in subst (λ (p : Place). Passes p (let_go None k word (outer v.place))) (sym at_top)
      (by_call (calls_for_wake word) (λ is. done is (subst (PlaceFits v.holds v.surplus) at_top fits).0))
    where
      by_call : (c : Bool) → (k ≡ l → c ≡ false → IsDone) → Passes (Releasing k ∷ outer v.place) (cond c (TakingList k ∷ Waking k true ∷ outer v.place) (outer v.place))
      by_call true finished = goes_on _ _ refl refl refl refl
      by_call false finished = turns_off _ _ (ap sight none) (λ is. inr (finished (cc) refl))

  -- a look at a lock in a wait for its variable, which begins with it or goes on
  pub peeked_goes : (s k old n : ℕ) (p : Place) → p ≡ [] → Passes p (peeked (Some (call.WaitForVar k old)) s n p)
  peeked_goes s k old n p e = begun_goes p (peeked (Some (call.WaitForVar k old)) s n p) e (by_word (is_free mode.Shared n))
    where
      by_word : (b : Bool) → sight (cond b p (TakingList k ∷ Comparing k old ∷ VarUnqueued k old ∷ p)) ≡ blind
      by_word true = ap sight e
      by_word false = refl

  pub looked_on_goes : (holds : List Hold) (s k n : ℕ) (p : Place) → MayPeek k p → PlaceFits holds s p → Passes p (peeked None s n p)
  looked_on_goes holds s k n (Peeking j old ∷ VarUnqueued i older ∷ p) ok fits = by_word (is_free mode.Shared n)
    where
      by_word : (b : Bool) → Passes (Peeking j old ∷ VarUnqueued i older ∷ p) (cond b (resumed s (GivingBack ∷ p)) (TakingList j ∷ Comparing j old ∷ VarUnqueued i older ∷ p))
      by_word true = rests _ _ (resumed_blind s p fits.1.2) refl
      by_word false = rests _ _ refl refl
  looked_on_goes holds s k n (Peeking j old ∷ VarQueued i older ∷ p) ok fits = by_word (is_free mode.Shared n)
    where
      by_word : (b : Bool) → Passes (Peeking j old ∷ VarQueued i older ∷ p) (cond b (TakingList i ∷ Dequeueing i want.UntilFree ∷ VarLeaving older false ∷ p) (TakingList j ∷ Comparing j old ∷ VarQueued i older ∷ p))
      by_word true = goes_on _ _ (same_watch i j older old fits.1.0 fits.1.1) refl refl refl
      by_word false = goes_on _ _ refl refl refl refl
  looked_on_goes holds s k n (Peeking j old ∷ p) ok fits = absurd fits.1
  looked_on_goes holds s k n p ok fits = absurd ok

  -- the variable is read, which is n
  pub compared_goes : (holds : List Hold) (s k n : ℕ) (p : Place) → MayReadVar k p → PlaceFits holds s p → (k ≡ l → x ≡ n) → Passes p (compared n p)
  compared_goes holds s k n (Reading j old found ∷ p) ok fits value = by_place p fits.1
    where
      reads : (m : ℕ) → watch_of j n ≡ watch_of l m → x ≡ m
      reads m is = value (sym ok ∙ ap lock_watched is) ∙ ap value_watched is

      by_place : (q : Place) → FollowsLook j old q → Passes (Reading j old found ∷ q) (Returning j old found n ∷ q)
      by_place (VarUnqueued i older ∷ q) e = record { watches = λ value is. absurd (cc); sleeps = λ value is. absurd (cc); reads = reads; updates = λ is. absurd (cc) }
      by_place (VarQueued i older ∷ q) e = record { watches = λ value is. inl is; sleeps = λ value is. absurd (cc); reads = reads; updates = λ is. absurd (cc) }
      by_place q e = absurd e
  compared_goes holds s k n p ok fits value = absurd ok

  -- or stored
  pub published_goes : (k y : ℕ) (p : Place) → MayStoreVar k y p → Passes p (published p)
  published_goes k y (Publishing j u found true ∷ p) ok = rests _ _ refl refl
  published_goes k y (Publishing j u found false ∷ p) ok = rests _ _ refl refl
  published_goes k y p ok = absurd ok

  -- the list is taken in hand, or isn't
  pub taken_goes : (holds : List Hold) (s k : ℕ) (found : List Waiter) (f : Frame) (p : Place) → MayTake k (f ∷ p) → PlaceFits holds s (f ∷ p) → (b : Bool) → Passes (f ∷ p) (cond b (in_hand found p) (Spinning k ∷ p))
  taken_goes holds s k found (TakingList j) (Queueing i w ∷ p) ok fits true = rests _ _ refl refl
  taken_goes holds s k found (TakingList j) (Dequeueing i w ∷ GivingBack ∷ p) ok fits true = rests _ _ refl refl
  taken_goes holds s k found (TakingList j) (Dequeueing i w ∷ VarLeaving old c ∷ p) ok fits true = goes_on _ _ refl refl refl refl
  taken_goes holds s k found (TakingList j) (Dequeueing i w ∷ p) ok fits true = absurd fits.2
  taken_goes holds s k found (TakingList j) (Waking i updated ∷ p) ok fits true = goes_on _ _ refl refl refl refl
  taken_goes holds s k found (TakingList j) (Comparing i old ∷ VarUnqueued a older ∷ p) ok fits true = rests _ _ refl refl
  taken_goes holds s k found (TakingList j) (Comparing i old ∷ VarQueued a older ∷ p) ok fits true = goes_on _ _ refl refl refl refl
  taken_goes holds s k found (TakingList j) (Comparing i old ∷ p) ok fits true = absurd fits.2
  taken_goes holds s k found (TakingList j) (Storing i y releases ∷ p) ok fits true = rests _ _ refl refl
  taken_goes holds s k found (TakingList j) p ok fits false = (spun_goes j k p).0
  taken_goes holds s k found f p ok fits b = absurd ok

  -- where a call begins by taking the list
  from_idle : (p : Place) → p ≡ [] → (f q : Place) → sight f ≡ blind → Passes f q → Passes p q
  from_idle p e f q dark goes = record {
    watches = λ old is. ⊎_elim (λ was. absurd (let none = ap (λ (s : Sight). s.watch) dark in cc)) (λ now. inr now) (goes.watches old is);
    sleeps = λ old is. ⊎_elim (λ was. absurd (let none = ap (λ (s : Sight). s.sleep) dark in cc)) (λ read. absurd (let none = ap (λ (s : Sight). s.read) dark in cc)) (goes.sleeps old is);
    reads = goes.reads;
    updates = λ is. absurd (let none : None ≡ Some l = sym (ap updates_at e) ∙ is in cc);
  }

  pub taking_goes : (lawful : List ℕ → Type 0) (b : Option Call) (k : ℕ) (v : View) (q : Place) → BeginsTaking lawful k b v → Passes (taking b v.place) q → Passes v.place q
  taking_goes lawful (Some (call.UpdateVar j y)) k v q ok goes = from_idle v.place ok.1 (TakingList j ∷ Storing j y false ∷ v.place) q refl goes
  taking_goes lawful (Some (call.ReleaseClearVar j y)) k v q ok goes = from_idle v.place ok.1 (TakingList j ∷ Storing j y true ∷ v.place) q refl goes
  taking_goes lawful (Some c) k v q ok goes = absurd ok
  taking_goes lawful None k v q ok goes = goes

  -- the list goes home: an update that called those who wait is done; and who read the old value sleeps for it
  pub sent_goes : (holds : List Hold) (s k own : ℕ) (clears : Bool) (p : Place) → MaySendHome k clears own p → PlaceFits holds s p → ((found marked : List Waiter) → k ≡ l → p ≡ Calling k found marked [] ∷ outer p → IsDone) → Passes p (sent_home s p)
  sent_goes holds s k own clears (Appending j w found ∷ Attempting a m ∷ Queued b n u ∷ p) ok fits done = rests _ _ refl refl
  sent_goes holds s k own clears (Appending j w found ∷ Allowing a ∷ Peeking b old ∷ VarQueued i older ∷ p) ok fits done = rests _ _ refl refl
  sent_goes holds s k own clears (Appending j w found ∷ p) ok fits done = absurd fits.1
  sent_goes holds s k own clears (Removing j w found true ∷ p) ok fits done = rests _ _ refl refl
  sent_goes holds s k own clears (Removing j w found false ∷ p) ok fits done = rests _ _ refl refl
  sent_goes holds s k own clears (Returning j old found n ∷ VarUnqueued i older ∷ p) ok fits done = by_value (eqb n old)
    where
      by_value : (b : Bool) → Passes (Returning j old found n ∷ VarUnqueued i older ∷ p) (cond b (on_conflict (VarUnqueued i older ∷ p)) (resumed s (GivingBack ∷ p)))
      by_value true = rests _ _ refl refl
      by_value false = rests _ _ (resumed_blind s p fits.1.2) refl
  sent_goes holds s k own clears (Returning j old found n ∷ VarQueued i older ∷ p) ok fits done = by_value (eqb n old) refl
    where
      by_value : (b : Bool) → eqb n old ≡ b → Passes (Returning j old found n ∷ VarQueued i older ∷ p) (cond b (on_conflict (VarQueued i older ∷ p)) (on_outcome true s (VarQueued i older ∷ p)))
      by_value true e = record {
        watches = λ value is. inl (same_watch j i old older (sym fits.1.0) (sym fits.1.1) ∙ is);
        sleeps = λ value is. inr (same_watch j i n older (sym fits.1.0) (eqb-true n old e ∙ sym fits.1.1) ∙ is);
        reads = λ n is. absurd (cc);
        updates = λ is. absurd (cc);
      }
      by_value false e = goes_on _ _ (same_watch i j older old fits.1.0 fits.1.1) refl refl refl
  sent_goes holds s k own clears (Returning j old found n ∷ p) ok fits done = absurd fits.1
  sent_goes holds s k own clears (Calling j found marked [] ∷ p) ok fits done = turns_off _ _ (told_blind marked p fits.3) (λ is. inr (done found marked (sym ok.0 ∙ (cc)) (ap (λ (i : ℕ). Calling i found marked [] ∷ p) ok.0)))
  sent_goes holds s k own clears (Unhanding j found ∷ p) ok fits done = goes_on _ _ refl refl refl refl
  sent_goes holds s k own clears p ok fits done = absurd ok

  pub flagged_goes : (k : ℕ) (p : Place) → MayFlag k p → Passes p (flagged p)
  flagged_goes k (Flagging j w found ∷ p) ok = rests _ _ refl refl
  flagged_goes k p ok = absurd ok

  pub stored_goes : (holds : List Hold) (s q y : ℕ) (own : Option ℕ) (p : Place) → MayStore q y own p → PlaceFits holds s p → Passes p (stored s p)
  stored_goes holds s q y own (Announcing k w found ∷ p) ok fits = rests _ _ refl refl
  stored_goes holds s q y own (Withdrawing ∷ p) ok fits = rests _ _ (left_blind s want.UntilFree p fits) refl
  stored_goes holds s q y own (Marking k updated found marked (u ∷ us) ∷ p) ok fits = goes_on _ _ refl refl refl refl
  stored_goes holds s q y own (Calling k found marked (u ∷ us) ∷ p) ok fits = goes_on _ _ refl refl refl refl
  stored_goes holds s q y own (Clearing (u ∷ us) ∷ p) ok fits = rests _ _ refl refl
  stored_goes holds s q y own p ok fits = absurd ok

  pub reread_goes : (holds : List Hold) (s n : ℕ) (p : Place) → MayReread p → PlaceFits holds s p → Passes p (reread s n p)
  reread_goes holds s n (Checking k w found ∷ GivingBack ∷ p) ok fits = rests _ _ refl refl
  reread_goes holds s n (Checking k w found ∷ VarLeaving old c ∷ p) ok fits = goes_on _ _ refl refl refl refl
  reread_goes holds s n (Checking k w found ∷ p) ok fits = absurd fits.1
  reread_goes holds s n (Sleeping k w a ∷ p) ok fits = by_field (eqb n 0)
    where
      slept : (b : Bool) (q : Place) → FollowsSleep holds k w b q → sight (resumed s q) ≡ blind
      slept false (Woken j m ∷ q) e = refl
      slept false (GivingBack ∷ q) e = resumed_blind s q e.1
      slept false (Peeking j old ∷ VarUnqueued i older ∷ q) e = refl
      slept true (GivingBack ∷ q) e = resumed_blind s q e
      slept true (VarLeaving old c ∷ q) e = resumed_blind s q e.1
      slept b q e = absurd e

      by_field : (b : Bool) → Passes (Sleeping k w a ∷ p) (cond b (resumed s p) (Looking ∷ Sleeping k w a ∷ p))
      by_field true = rests _ _ (slept a p fits) refl
      by_field false = goes_on _ _ refl refl refl refl
  reread_goes holds s n p ok fits = absurd ok

  -- the exchange of a wake, with which an update of its lock is done; or one that missed
  pub detached_goes : (holds : List Hold) (s k w to n : ℕ) (p : Place) → MayDetach k w to p → PlaceFits holds s p → (k ≡ l → IsDone) → Passes p (detached true n p)
  detached_goes holds s k w to n (Detaching j updated found word ∷ p) ok fits done = turns_off _ _ (told_blind (taken_from found) p fits.2) (λ is. inr (done (sym ok.0 ∙ updated_lock updated j l is)))
  detached_goes holds s k w to n p ok fits done = absurd ok

  pub missed_goes : (k w to n : ℕ) (p : Place) → MayDetach k w to p → Passes p (detached false n p)
  missed_goes k w to n (Detaching j updated found word ∷ p) ok = goes_on _ _ refl refl refl refl
  missed_goes k w to n p ok = absurd ok

  pub posted_goes : (holds : List Hold) (s q : ℕ) (own : Option ℕ) (p : Place) → Owes q own p → PlaceFits holds s p → Passes p (posted (surplus_posted p s) p)
  posted_goes holds s q own (GivingBack ∷ p) ok fits = rests _ _ (resumed_blind (s - 1) p fits.1) refl
  posted_goes holds s q own (Posting (u ∷ us) ∷ p) ok fits = rests _ _ (told_blind us p fits.1) refl
  posted_goes holds s q own p ok fits = absurd ok

  pub looked_goes : (b : Option Call) (p : Place) → MayLook b p → (is_zero : Bool) → Passes p (looked is_zero p)
  looked_goes (Some c) [] ok true = rests _ _ refl refl
  looked_goes (Some c) [] ok false = rests _ _ refl refl
  looked_goes None (Looking ∷ p) ok true = goes_on _ _ refl refl refl refl
  looked_goes None (Looking ∷ p) ok false = goes_on _ _ refl refl refl refl
  looked_goes None (Asleep ∷ p) ok true = goes_on _ _ refl refl refl refl
  looked_goes None (Asleep ∷ p) ok false = goes_on _ _ refl refl refl refl
  looked_goes b p ok is_zero = absurd ok

  pub down_goes : (holds : List Hold) (s : ℕ) (p : Place) → FollowsDown holds s p → Passes (Downing ∷ p) p
  down_goes holds s [] fits = rests _ _ refl refl
  down_goes holds s (Sleeping k w a ∷ p) fits = goes_on _ _ refl refl refl refl
  down_goes holds s p fits = absurd fits

  -- RELEASE_OK is set, also by one who begins to watch
  pub answered_goes : (holds : List Hold) (s k : ℕ) (p : Place) → MayAnswer k p → PlaceFits holds s p → (k ≡ l → IsSet) → Passes p (answered p)
  answered_goes holds s k (Answering j w ∷ Looking ∷ Sleeping i u true ∷ p) ok fits now = rests _ _ refl refl
  answered_goes holds s k (Woken j m ∷ p) ok fits now = rests _ _ refl refl
  answered_goes holds s k (Allowing j ∷ Peeking i old ∷ VarQueued a older ∷ p) ok fits now = record {
    watches = λ value is. inr (now (sym ok ∙ (sym fits.1 ∙ ap lock_watched is)));
    sleeps = λ value is. absurd (cc);
    reads = λ n is. absurd (cc);
    updates = λ is. absurd (cc);
  }
  answered_goes holds s k (Answering j w ∷ p) ok fits now = absurd fits
  answered_goes holds s k (Allowing j ∷ p) ok fits now = absurd fits
  answered_goes holds s k p ok fits now = absurd ok

-- WHO WATCHES. It queued until the lock is free
until_free : (a b : ℕ) → a ≡ b → entry_of a want.UntilFree ≡ entry_of b want.UntilFree
until_free a b e = ap (λ (i : ℕ). entry_of i want.UntilFree) e

module _ (holds : List Hold) (l old : ℕ) where
  sleeper_queued : (k : ℕ) (w : Want) (a : Bool) (p : Place) → FollowsSleep holds k w a p → sleep_watch (Sleeping k w a ∷ p) ≡ watch_of l old → sleep_entry (Sleeping k w a ∷ p) ≡ entry_of l want.UntilFree
  sleeper_queued k w false (Peeking j value ∷ VarUnqueued i older ∷ p) fits e = ap (entry_of k) fits.3 ∙ until_free k l (sym fits.0 ∙ ap lock_watched e)
  sleeper_queued k w false (Peeking j value ∷ p) fits e = absurd fits
  sleeper_queued k w false [] fits e = absurd fits
  sleeper_queued k w false (f ∷ p) fits e = absurd (cc)
  sleeper_queued k w true p fits e = absurd (cc)

  down_queued : (s : ℕ) (p : Place) → FollowsDown holds s p → sleep_watch p ≡ watch_of l old → sleep_entry p ≡ entry_of l want.UntilFree
  down_queued s [] fits e = absurd (cc)
  down_queued s (Sleeping k w a ∷ p) fits e = sleeper_queued k w a p fits e
  down_queued s p fits e = absurd fits

  pub watches_queued : (s : ℕ) (p : Place) → PlaceFits holds s p → watches_at p ≡ watch_of l old → queued_at p ≡ entry_of l want.UntilFree
  watches_queued s (Peeking k value ∷ VarQueued j older ∷ p) fits e = until_free j l (fits.1.0 ∙ ap lock_watched e)
  watches_queued s (TakingList k ∷ Comparing i value ∷ VarQueued j older ∷ p) fits e = until_free j l (fits.2.0 ∙ (sym fits.0 ∙ ap lock_watched e))
  watches_queued s (Spinning k ∷ Comparing i value ∷ VarQueued j older ∷ p) fits e = until_free j l (fits.2.0 ∙ (sym fits.0 ∙ ap lock_watched e))
  watches_queued s (Reading k value found ∷ VarQueued j older ∷ p) fits e = until_free j l (fits.1.0 ∙ ap lock_watched e)
  watches_queued s (Returning k value found n ∷ VarQueued j older ∷ p) fits e = until_free j l (fits.1.0 ∙ ap lock_watched e)
  watches_queued s (TakingList k ∷ Dequeueing i w ∷ VarLeaving value c ∷ p) fits e = ap (entry_of i) fits.2.0 ∙ until_free i l (ap lock_watched e)
  watches_queued s (Spinning k ∷ Dequeueing i w ∷ VarLeaving value c ∷ p) fits e = ap (entry_of i) fits.2.0 ∙ until_free i l (ap lock_watched e)
  watches_queued s (Checking k w found ∷ VarLeaving value c ∷ p) fits e = ap (entry_of k) fits.1.0 ∙ until_free k l (ap lock_watched e)
  watches_queued s (Removing k w found here ∷ VarLeaving value c ∷ p) fits e = ap (entry_of k) fits.1.0 ∙ until_free k l (ap lock_watched e)
  watches_queued s (Looking ∷ p) fits e = down_queued s p fits e
  watches_queued s (Asleep ∷ p) fits e = down_queued s p fits e
  watches_queued s (Downing ∷ p) fits e = down_queued s p fits e
  watches_queued s (Sleeping k w a ∷ p) fits e = sleeper_queued k w a p fits e
  watches_queued s [] fits e = absurd (cc)
  watches_queued s p fits e = absurd (cc)

-- who sleeps watches; and who watches isn't about to go on a list
pub sleeper_watches : (t : Watch) (p : Place) → sleeps_for_at p ≡ Some t → watches_at p ≡ Some t
sleeper_watches t (Looking ∷ p) e = e
sleeper_watches t (Asleep ∷ p) e = e
sleeper_watches t (Downing ∷ p) e = e
sleeper_watches t (Sleeping k w a ∷ p) e = e
sleeper_watches t [] e = absurd (cc)
sleeper_watches t p e = absurd (cc)

pub watcher_quiet : (t : Watch) (p : Place) → watches_at p ≡ Some t → announced_at p ≡ false
watcher_quiet t (Appending k w found ∷ p) e = absurd (cc)
watcher_quiet t (Withdrawing ∷ p) e = absurd (cc)
watcher_quiet t [] e = refl
watcher_quiet t p e = refl

-- who has read the variable, or is to store it, has the list in hand; and who stored it updates the lock
has_it : (k l : ℕ) → k ≡ l → cond {A = ℕ} (eqb k l) 1 0 ≡ 1
has_it k l e = ap (λ (b : Bool). cond b 1 0) (eq-eqb k l e)

pub reader_has : (l n : ℕ) (p : Place) → reads_at p ≡ watch_of l n → has_hand l (hand_at p) ≡ 1
reader_has l n (Returning k old found m ∷ p) e = has_it k l (ap lock_watched e)
reader_has l n [] e = absurd (cc)
reader_has l n p e = absurd (cc)

pub storer_has : (k y : ℕ) (p : Place) → MayStoreVar k y p → (has_hand k (hand_at p) ≡ 1) × (updates_at (published p) ≡ Some k)
storer_has k y (Publishing j u found true ∷ p) ok = (has_it j k ok.0, ap Some ok.0)
storer_has k y (Publishing j u found false ∷ p) ok = (has_it j k ok.0, ap Some ok.0)
storer_has k y p ok = absurd ok
