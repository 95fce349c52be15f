-- Each kind of step leaves a place whose frames stand.
use Rattle.std.proofs.Common.{◌≡◌, ℕ, ◌+◌, ◌-◌, ◌<◌, eqb, Bool, true, false, cond, List, [], ◌∷◌, get_or, set, Option, None, Some, refl, sym, ◌∙◌, subst, append-nil}
use mathlib.Core.Option as maybe
use lib.ListN.{get_elem?}
use Rattle.proc_table.specs.declared.Mode.{Mode}
use Rattle.proc_table.specs.declared.Mode.TheVariants.{Shared}
use Rattle.seat_roster.proofs.Stretches.{each_set, each_more}
use Rattle.lw_core.specs.declared.step.Call.{Call}
use Rattle.lw_core.specs.declared.step.Call.TheVariants as call
use Rattle.lw_core.specs.declared.step.LwStep.{LwStep}
use Rattle.lw_core.specs.declared.step.LwStep.TheVariants as kind
use Rattle.lw_core.specs.declared.view.Frame.TheVariants.{Attempting, Trying, Unqueued, Queued, TakingList, Spinning, Queueing, Flagging, Announcing, Appending, Dequeueing, Checking, Removing, Withdrawing, Answering, Looking, Asleep, Downing, Sleeping, Woken, GivingBack, Waking, Marking, Detaching, Clearing, Posting, Peeking, Comparing, Reading, Returning, VarUnqueued, Allowing, VarQueued, VarLeaving, Storing, Publishing, Calling, Unhanding}
use Rattle.lw_core.specs.declared.view.Hold.{Hold}
use Rattle.lw_core.specs.declared.view.Size.{Size}
use Rattle.lw_core.specs.declared.view.View.{View}
use Rattle.lw_core.specs.declared.view.Waiter.{Waiter}
use Rattle.lw_core.specs.declared.view.Want.{Want}
use Rattle.lw_core.specs.declared.view.Want.TheVariants as want
use Rattle.lw_core.specs.Words.{state_at, sem_at, waiting_at, is_free, grant_of, locked, has_flag}
use Rattle.lw_core.specs.WaitLists.{AllBelow, taken_from, home_list}
use Rattle.lw_core.specs.Machine.{LwState, Place, outer, not_held, held, hold_in, number_of, lock_number, word_of, resumed, on_grant, on_waking, on_refusal, loaded, peeked, on_outcome, on_conflict, calls_for_wake, after_store, releasing, taking, in_hand, flagged, compared, published, stored, reread, telling, sent_home, detached, posted, surplus_posted, looked, answered, moved, gripped, next, guard_hold, IsInRange, BeginsTaking, BeginsAttempt, Allowed, after, LeavesLawful}
use Rattle.lw_core.specs.SeatFits.{FollowsAttempt, PlaceFits}
use Rattle.lw_core.specs.FramesStand.{AllStand, FramesStand}
use Rattle.lw_core.specs.Rule.{Rule}
use Rattle.lw_core.specs.Runs.{drew_one, stays, comes, both, spent, drawn, split, joined}
use Rattle.lw_core.proofs.Below.{taken_below, until_free_below}
use Rattle.lw_core.proofs.Touches.{on_exchange, begun_release, poked_keeps}
use Rattle.lw_core.proofs.Places as places

either_of : {A : Type 0} (P : A → Type 0) (b : Bool) (x y : A) → P x → P y → P (cond b x y)
either_of P true x y left right = left
either_of P false x y left right = right

module _ (lawful : ℕ → List ℕ → Type 0) (z : Size) (holds : List Hold) where
  abbrev S : Place → Type 0
  S p = AllStand lawful z holds p

  either_stands : (b : Bool) (p q : Place) → S p → S q → S (cond b p q)
  either_stands b p q left right = either_of S b p q left right

  back_stands : (n : ℕ) (p : Place) → S p → S (resumed n (GivingBack ∷ p))
  back_stands n p h = either_stands (eqb n 0) p (GivingBack ∷ p) h (tt, h)

  resumed_stands : (n : ℕ) (p : Place) → S p → S (resumed n p)
  resumed_stands n (GivingBack ∷ p) h = back_stands n p h.1
  resumed_stands n (VarLeaving old c ∷ p) h = back_stands n p h.1
  resumed_stands n p h = h

  waking_stands : (w : Want) (l : ℕ) (m : Mode) (p : Place) → l < z.locks → S p → S (on_waking w l m p)
  waking_stands want.UntilFree l m p inside h = (tt, h)
  waking_stands w l m p inside h = (inside, h)

  refused_stands : (p : Place) → S p → S (on_refusal p)
  refused_stands (Unqueued l m w slept ∷ p) h = (h.0, (h.0, (h.0, (h.0, h.1))))
  refused_stands (Queued l m w ∷ p) h = (tt, (h.0, waking_stands w l m p h.0 h.1))
  refused_stands p h = h

  begun_stands : (b : Option Call) (l n : ℕ) (v : View) → l < z.locks → BeginsAttempt l b v → S v.place → S (loaded b n v.place)
  begun_stands (Some (call.Try k m)) l n v inside ok h = (subst (λ (i : ℕ). i < z.locks) (sym ok.0) inside, h)
  begun_stands (Some (call.Acquire k m)) l n v inside ok h = let here = subst (λ (i : ℕ). i < z.locks) (sym ok.0) inside in (here, (here, h))
  begun_stands (Some (call.AcquireOrWait k m)) l n v inside ok h = let here = subst (λ (i : ℕ). i < z.locks) (sym ok.0) inside in (here, (here, h))
  begun_stands b l n v inside ok h = absurd ok

  loaded_stands : (n : ℕ) (p : Place) → S p → S (loaded None n p)
  loaded_stands n (Attempting l m ∷ p) h = h
  loaded_stands n (Spinning l ∷ p) h = either_stands (eqb (has_flag locked n) 0) (TakingList l ∷ p) (Spinning l ∷ p) h h
  loaded_stands n (Marking l updated found marked [] ∷ p) h = h
  loaded_stands n p h = h

  outcome_stands : (c : Bool) (n : ℕ) (p : Place) → S p → S (on_outcome c n p)
  outcome_stands c n (VarUnqueued l old ∷ p) h = back_stands n p h.1
  outcome_stands c n (VarQueued l old ∷ p) h = (h.0, (h.0, (tt, h.1)))
  outcome_stands c n p h = h

  conflict_stands : (p : Place) → S p → S (on_conflict p)
  conflict_stands (VarUnqueued l old ∷ p) h = (h.0, (h.0, (h.0, (h.0, (h.0, h.1)))))
  conflict_stands (VarQueued l old ∷ p) h = (tt, (h.0, (h.0, (h.0, h.1))))
  conflict_stands p h = h

  peeked_stands : (s n : ℕ) (p : Place) → S p → S (peeked None s n p)
  peeked_stands s n (Peeking l old ∷ p) h = either_stands (is_free Shared n) (on_outcome false s p) (TakingList l ∷ Comparing l old ∷ p) (outcome_stands false s p h.1) (h.0, (h.0, h.1))
  peeked_stands s n p h = h

  hand_stands : (found : List Waiter) (p : Place) → AllBelow z.procs found → S p → S (in_hand found p)
  hand_stands found (Queueing l w ∷ p) below h = h
  hand_stands found (Dequeueing l w ∷ p) below h = h
  hand_stands found (Waking l updated ∷ p) below h = ((h.0, below), h.1)
  hand_stands found (Comparing l old ∷ p) below h = h
  hand_stands found (Storing l x releases ∷ p) below h = ((h.0.0, below, h.0.1), h.1)
  hand_stands found p below h = h

  taking_stands : (b : Option Call) (l : ℕ) (v : View) → v.holds ≡ holds → l < z.locks → BeginsTaking (lawful l) l b v → S v.place → S (taking b v.place)
  taking_stands (Some (call.UpdateVar k x)) l v is inside ok h = let here = subst (λ (i : ℕ). i < z.locks) (sym ok.0) inside in (here, ((here, λ not. absurd (cc)), h))
  taking_stands (Some (call.ReleaseClearVar k x)) l v is inside ok h = let here = subst (λ (i : ℕ). i < z.locks) (sym ok.0) inside in
      (here, ((here, λ _. subst (λ (i : ℕ × List Hold). LeavesLawful (lawful i.0) (get_or i.1 i.0 not_held)) (λ i. (sym ok.0 i, is i)) ok.3), h))
  taking_stands (Some c) l v is inside ok h = absurd ok
  taking_stands None l v is inside ok h = h

  outer_stands : (p : Place) → S p → S (outer p)
  outer_stands [] h = h
  outer_stands (f ∷ p) h = h.1

  flagged_stands : (p : Place) → S p → S (flagged p)
  flagged_stands (Flagging l w found ∷ p) h = h
  flagged_stands p h = h

  compared_stands : (n : ℕ) (p : Place) → S p → S (compared n p)
  compared_stands n (Reading l old found ∷ p) h = h
  compared_stands n p h = h

  published_stands : (p : Place) → S p → S (published p)
  published_stands (Publishing l x found false ∷ p) h = ((h.0.0, h.0.1), h.1)
  published_stands (Publishing l x found true ∷ p) h = ((h.0.0, h.0.2 refl), h.1)
  published_stands p h = h

  stored_stands : (s : ℕ) (p : Place) → S p → S (stored s p)
  stored_stands s (Announcing l w found ∷ p) h = h
  stored_stands s (Withdrawing ∷ p) h = resumed_stands s p h.1
  stored_stands s (Marking l updated found marked (u ∷ us) ∷ p) h = h
  stored_stands s (Calling l found marked (u ∷ us) ∷ p) h = h
  stored_stands s (Clearing us ∷ p) h = h
  stored_stands s p h = h

  reread_stands : (s n : ℕ) (p : Place) → S p → S (reread s n p)
  reread_stands s n (Checking l w found ∷ p) h = h
  reread_stands s n (Sleeping l w a ∷ p) h = either_stands (eqb n 0) (resumed s p) (Looking ∷ Sleeping l w a ∷ p) (resumed_stands s p h.1) (tt, h)
  reread_stands s n p h = h

  telling_stands : (us : List Waiter) (p : Place) → AllBelow z.procs us → S p → S (telling us p)
  telling_stands [] p below h = h
  telling_stands (u ∷ us) p below h = (below, h)

  sent_stands : (s : ℕ) (p : Place) → PlaceFits holds s p → S p → S (sent_home s p)
  sent_stands s (Appending l w found ∷ p) fits h = h.1
  sent_stands s (Removing l w found true ∷ p) fits h = (tt, h.1)
  sent_stands s (Removing l w found false ∷ p) fits h = (h.0, (tt, (h.0, h.1)))
  sent_stands s (Returning l old found n ∷ p) fits h = either_stands (eqb n old) (on_conflict p) (on_outcome true s p) (conflict_stands p h.1) (outcome_stands true s p h.1)
  sent_stands s (Calling l found marked [] ∷ p) fits h = telling_stands marked p (subst (AllBelow z.procs) (sym fits.0 ∙ append-nil marked) (until_free_below z.procs found h.0.1)) h.1
  sent_stands s (Unhanding l found ∷ p) fits h = h
  sent_stands s p fits h = h

  detached_stands : (hit : Bool) (n : ℕ) (p : Place) → S p → S (detached hit n p)
  detached_stands hit n (Detaching l updated found w ∷ p) h = either_stands hit (telling (taken_from found) p) (Detaching l updated found n ∷ p) (telling_stands (taken_from found) p (taken_below z.procs false found h.0.1) h.1) h
  detached_stands hit n p h = h

  posted_stands : (s : ℕ) (p : Place) → S p → S (posted s p)
  posted_stands s (GivingBack ∷ p) h = back_stands s p h.1
  posted_stands s (Posting (u ∷ us) ∷ p) h = telling_stands us p h.0.1 h.1
  posted_stands s p h = h

  looked_stands : (is_zero : Bool) (p : Place) → S p → S (looked is_zero p)
  looked_stands is_zero (Looking ∷ p) h = either_stands is_zero (Asleep ∷ p) (Downing ∷ p) h h
  looked_stands is_zero (Asleep ∷ p) h = either_stands is_zero (Asleep ∷ p) (Downing ∷ p) h h
  looked_stands is_zero p h = either_stands is_zero (Asleep ∷ p) (Downing ∷ p) (tt, h) (tt, h)

  answered_stands : (p : Place) → S p → S (answered p)
  answered_stands (Answering l w ∷ p) h = h.1
  answered_stands (Allowing l ∷ p) h = h.1
  answered_stands (Woken l m ∷ p) h = (h.0, (h.0, h.1))
  answered_stands p h = h

-- behind an attempt no frame looks at what is held
granted_stands : (lawful : ℕ → List ℕ → Type 0) (z : Size) (holds new : List Hold) (l s : ℕ) (m : Mode) (p : Place) → FollowsAttempt l m s p → AllStand lawful z holds p → AllStand lawful z new (on_grant s p)
granted_stands lawful z holds new l s m [] follows h = tt
granted_stands lawful z holds new l s m (Unqueued k n w slept ∷ p) follows h = back_stands lawful z new s p (subst (AllStand lawful z new) (sym follows.3) tt)
granted_stands lawful z holds new l s m (Queued k n w ∷ p) follows h = (h.0, (h.0, (tt, subst (AllStand lawful z new) (sym follows.3) tt)))
granted_stands lawful z holds new l s m p follows h = absurd follows

module _ (lawful : ℕ → List ℕ → Type 0) (z : Size) (s : LwState) (r : Rule lawful z s) (id : ℕ) (v : View) (at : get_elem? s.views id ≡ maybe.some v)
    (below : (l : ℕ) → l < z.locks → has_flag locked (get_or s.words (state_at l) 0) ≡ 0 → AllBelow z.procs (home_list s.homes l)) where
  fits : PlaceFits v.holds v.surplus v.place
  fits = (places.mine lawful z s r id v at).place

  h : AllStand lawful z v.holds v.place
  h = r.frames id v at

  abbrev Standing : View → Type 0
  Standing w = AllStand lawful z w.holds w.place

  by_kind : (k : LwStep) → IsInRange z k → Allowed lawful k v → Standing (next k v (get_or s.words (word_of z (number_of v.own) k) 0) (home_list s.homes (lock_number k)))
  by_kind (kind.Load l None) inside ok = loaded_stands lawful z v.holds (get_or s.words (state_at l) 0) v.place h
  by_kind (kind.Load l (Some c)) inside ok = begun_stands lawful z v.holds (Some c) l (get_or s.words (state_at l) 0) v inside.0 ok h
  by_kind (kind.Grant l m w) inside ok = let n : ℕ = get_or s.words (state_at l) 0 in let k : LwStep = kind.Grant l m w in
      on_exchange n w (λ (b : Bool). Standing (cond b (gripped v k l n (on_grant v.surplus (outer v.place)) (held m) (v.grants + 1)) (moved v k n (Trying l m n ∷ outer v.place))))
      (λ _. granted_stands lawful z v.holds (set v.holds l (held m)) l v.surplus m (outer v.place) (places.tries lawful z s r id v at l w m ok.0).2 (outer_stands lawful z v.holds v.place h))
      (λ _. (inside.0, outer_stands lawful z v.holds v.place h))
  by_kind (kind.Refuse l m w) inside ok = let n : ℕ = get_or s.words (state_at l) 0 in let behind = outer_stands lawful z v.holds v.place h in
      either_stands lawful z v.holds (eqb n w) (on_refusal (outer v.place)) (Trying l m n ∷ outer v.place) (refused_stands lawful z v.holds (outer v.place) behind) (inside.0, behind)
  by_kind (kind.Sub l m b) inside ok = let q : Place = releasing b v.place in let word : ℕ = get_or s.words (state_at l) 0 - grant_of m in let new : List Hold = set v.holds l not_held in
      let none = subst (AllStand lawful z new) (sym (begun_release b l v fits ok.0)) tt in either_stands lawful z new (calls_for_wake word) (TakingList l ∷ Waking l (after_store b) ∷ q) q (inside.0, (inside.0, none)) none
  by_kind (kind.Peek l None) inside ok = peeked_stands lawful z v.holds v.surplus (get_or s.words (state_at l) 0) v.place h
  by_kind (kind.Peek l (Some (call.WaitForVar k old))) inside ok = let here = subst (λ (i : ℕ). i < z.locks) (sym ok.0) inside.0 in
      either_stands lawful z v.holds (is_free Shared (get_or s.words (state_at l) 0)) v.place (TakingList k ∷ Comparing k old ∷ VarUnqueued k old ∷ v.place) h (here, (here, (here, h)))
  by_kind (kind.Peek l (Some c)) inside ok = absurd ok
  by_kind (kind.Guard l j o) inside ok = subst (AllStand lawful z (set v.holds l (guard_hold o (hold_in l v) j (get_or s.words (word_of z (number_of v.own) (kind.Guard l j o)) 0)))) (sym ok.1) tt
  by_kind (kind.Lock l b) inside ok = let q : Place = outer (taking b v.place) in let found : List Waiter = home_list s.homes l in let behind = outer_stands lawful z v.holds (taking b v.place) (taking_stands lawful z v.holds b l v refl inside.0 ok h) in
      on_exchange (has_flag locked (get_or s.words (state_at l) 0)) 0 (λ (c : Bool). AllStand lawful z v.holds (cond c (in_hand found q) (Spinning l ∷ q)))
      (λ clear. hand_stands lawful z v.holds found q (below l inside.0 clear) behind) (λ _. (inside.0, behind))
  by_kind (kind.VarLoad l) inside ok = compared_stands lawful z v.holds (get_or s.words (word_of z (number_of v.own) (kind.VarLoad l)) 0) v.place h
  by_kind (kind.VarStore l x) inside ok = published_stands lawful z v.holds v.place h
  by_kind (kind.Unlock l c) inside ok = sent_stands lawful z v.holds v.surplus v.place fits h
  by_kind (kind.Flag l) inside ok = flagged_stands lawful z v.holds v.place h
  by_kind (kind.WaitStore q x) inside ok = stored_stands lawful z v.holds v.surplus v.place h
  by_kind kind.WaitLoad inside ok = reread_stands lawful z v.holds v.surplus (get_or s.words (waiting_at z (number_of v.own)) 0) v.place h
  by_kind (kind.Wake l w to) inside ok = let n : ℕ = get_or s.words (state_at l) 0 in detached_stands lawful z v.holds (eqb n w) n v.place h
  by_kind (kind.Post q b) inside ok = subst (λ (x : List Hold × Place). AllStand lawful z x.0 x.1) (sym (poked_keeps (λ (u : View). (u.holds, u.place)) (λ _ _. refl) b _)) (posted_stands lawful z v.holds (surplus_posted v.place v.surplus) v.place h)
  by_kind (kind.Look b) inside ok = looked_stands lawful z v.holds (eqb (get_or s.words (sem_at z (number_of v.own)) 0) 0) v.place h
  by_kind kind.Down inside ok = outer_stands lawful z v.holds v.place h
  by_kind (kind.SetReleaseOk l) inside ok = answered_stands lawful z v.holds v.place h

  pub frames_step : (k : LwStep) → IsInRange z k → Allowed lawful k v → FramesStand lawful z (after z s id v k)
  frames_step k inside ok = each_set Standing s.views id _ r.frames (by_kind k inside ok)

module _ (lawful : ℕ → List ℕ → Type 0) (z : Size) (s : LwState) (r : Rule lawful z s) (id : ℕ) (v : View) (at : get_elem? s.views id ≡ maybe.some v) where
  abbrev Stands : View → Type 0
  Stands w = AllStand lawful z w.holds w.place

  pub frames_draw : FramesStand lawful z (drawn s id v)
  frames_draw = each_set Stands s.views id (drew_one v) r.frames (r.frames id v at)

  pub frames_split : FramesStand lawful z (split s id v)
  frames_split = each_more Stands (set s.views id (stays v)) (comes v) (each_set Stands s.views id (stays v) r.frames (r.frames id v at)) tt

  pub frames_join : (other : ℕ) (w : View) → FramesStand lawful z (joined s id v other w)
  frames_join other w = each_set Stands (set s.views id (both v w)) other spent (each_set Stands s.views id (both v w) r.frames (r.frames id v at)) tt
