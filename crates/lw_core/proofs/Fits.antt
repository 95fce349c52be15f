-- The place of a seat fits after each kind of step.
use Rattle.std.proofs.Common.{◌≡◌, ℕ, ◌+◌, ◌-◌, ◌^◌, ◌<◌, eqb, Bool, true, false, cond, List, [], ◌∷◌, length, get_or, set, Option, None, Some, is_some, sym, refl, ap, ◌∙◌, subst, arith, append_assoc, get_or-set_same, eq-eqb, ne_eqb}
use mathlib.Core.Logic.{dite}
use native.Mathlib.Decide.{ℕ_discrete}
use Rattle.proc_table.specs.declared.Mode.{Mode}
use Rattle.lw_core.specs.declared.step.Call.{Call}
use Rattle.lw_core.specs.declared.step.Call.TheVariants as call
use Rattle.lw_core.specs.declared.view.Frame.{Frame}
use Rattle.lw_core.specs.declared.view.Frame.TheVariants.{Attempting, Unqueued, Queued, TakingList, Spinning, Queueing, Flagging, Announcing, Appending, Dequeueing, Checking, Removing, Withdrawing, Answering, Looking, Asleep, Sleeping, Woken, GivingBack, Waking, Marking, Detaching, Clearing, Posting, Peeking, Comparing, Reading, Returning, VarUnqueued, Allowing, VarQueued, VarLeaving, Storing, Publishing, Calling, Unhanding}
use Rattle.lw_core.specs.declared.view.Hold.{Hold}
use Rattle.lw_core.specs.declared.view.View.{View}
use Rattle.lw_core.specs.declared.view.Want.{Want}
use Rattle.lw_core.specs.declared.view.Want.TheVariants.{Shared, Exclusive, UntilFree}
use Rattle.lw_core.specs.declared.view.Waiter.{Waiter}
use Rattle.lw_core.specs.Words.{is_free, locked, has_flag}
use Rattle.lw_core.specs.WaitLists.{taken_from}
use Rattle.lw_core.specs.Machine.{Place, not_held, held, want_of, resumed, on_grant, on_refusal, loaded, peeked, on_outcome, on_conflict, taking, compared, published, let_go, after_store, calls_for_wake, in_hand, flagged, sent_home, stored, reread, telling, detached, posted, looked, answered, surplus_found, surplus_posted, MayLoad, MayPeek, MayTake, BeginsTaking, MayReadVar, MayStoreVar, MaySendHome, MayFlag, MayStore, MayReread, MayDetach, Owes, MayLook, MayAnswer}
use Rattle.lw_core.specs.SeatFits.{IsFreeOf, HoldsAlone, FollowsLook, QueuesFor, FollowsAttempt, FollowsQueueing, FollowsLeaving, FollowsSleep, FollowsDown, FollowsTaking, HoldsAs, PlaceFits}

-- in no call nothing is to be given back, and any holds fit
pub idle_fits : (holds : List Hold) (s : ℕ) (p : Place) → p ≡ [] → s ≡ 0 → PlaceFits holds s p
idle_fits holds s p e none = subst (PlaceFits holds s) (sym e) none

pub idle_clear : (holds : List Hold) (s : ℕ) (p : Place) → p ≡ [] → PlaceFits holds s p → s ≡ 0
idle_clear holds s p e fits = subst (PlaceFits holds s) e fits

-- what is too much is given back
pub given_fits : (holds : List Hold) (s : ℕ) (p : Place) → p ≡ [] → PlaceFits holds s (resumed s (GivingBack ∷ p))
given_fits holds s p e = dite (ℕ_discrete s 0)
    (λ none. subst (λ (b : Bool). PlaceFits holds s (cond b p (GivingBack ∷ p))) (sym (eq-eqb s 0 none)) (idle_fits holds s p e none))
    (λ some. subst (λ (b : Bool). PlaceFits holds s (cond b p (GivingBack ∷ p))) (sym (ne_eqb s 0 some)) (omega arith, e))

-- behind a list that was left, whatever the seat queued for
pub left_fits : (holds : List Hold) (s : ℕ) (w : Want) (p : Place) → FollowsLeaving w p → PlaceFits holds s (resumed s p)
left_fits holds s w (GivingBack ∷ p) e = given_fits holds s p e
left_fits holds s w (VarLeaving old c ∷ p) e = given_fits holds s p e.1
left_fits holds s w p e = absurd e

left_any : (w : Want) (p : Place) → FollowsLeaving w p → FollowsLeaving UntilFree p
left_any w (GivingBack ∷ p) e = e
left_any w (VarLeaving old c ∷ p) e = (refl, e.1)
left_any w p e = absurd e

-- behind a queue that was joined
queued_fits : (holds : List Hold) (s l : ℕ) (w : Want) (p : Place) → IsFreeOf holds l → FollowsQueueing l w p → PlaceFits holds s p
queued_fits holds s l w (Attempting k m ∷ Queued j n v ∷ p) free e = (subst (IsFreeOf holds) (sym e.0) free, (e.1 ∙ sym e.0, e.2, subst (λ (u : Want). QueuesFor u m) (sym e.3) e.4, e.5))
queued_fits holds s l w (Allowing k ∷ Peeking j old ∷ VarQueued i older ∷ p) free e = (subst (IsFreeOf holds) (sym e.0) free, e.1 ∙ sym e.0, e.2 ∙ sym e.0, e.3, e.5)
queued_fits holds s l w p free e = absurd e

-- behind the semaphore
pub down_fits : (holds : List Hold) (s : ℕ) (p : Place) → FollowsDown holds s p → PlaceFits holds s p
down_fits holds s [] e = e
down_fits holds s (Sleeping l w a ∷ p) e = e
down_fits holds s p e = absurd e

told_fits : (holds : List Hold) (s : ℕ) (us : List Waiter) (p : Place) → s ≡ 0 → p ≡ [] → PlaceFits holds s (telling us p)
told_fits holds s [] p none e = idle_fits holds s p e none
told_fits holds s (u ∷ us) p none e = (none, e)

-- a load in a program that is under way
pub loaded_fits : (holds : List Hold) (s l n : ℕ) (p : Place) → n < 2 ^ 32 → MayLoad l p → PlaceFits holds s p → PlaceFits holds s (loaded None n p)
loaded_fits holds s l n (Attempting k m ∷ []) small ok fits = absurd fits
loaded_fits holds s l n (Attempting k m ∷ f ∷ p) small ok fits = (fits.0, small, fits.1)
loaded_fits holds s l n (Spinning k ∷ p) small ok fits = spun (eqb (has_flag locked n) 0)
  where
    spun : (b : Bool) → PlaceFits holds s (cond b (TakingList k ∷ p) (Spinning k ∷ p))
    spun true = fits
    spun false = fits
loaded_fits holds s l n (Marking k updated found marked [] ∷ p) small ok fits = (small, fits.1, fits.2)
loaded_fits holds s l n p small ok fits = absurd ok

-- the lock that was granted is held
held_here : (holds : List Hold) (l k : ℕ) (m : Mode) → l < length holds → k ≡ l → is_some (get_or (set holds l (held m)) k not_held).mode ≡ true
held_here holds l k m inside is = ap (λ (j : ℕ). is_some (get_or (set holds l (held m)) j not_held).mode) is ∙ ap (λ (h : Hold). is_some h.mode) (get_or-set_same holds l (held m) not_held inside)

pub granted_fits : (holds : List Hold) (s l : ℕ) (m : Mode) (p : Place) → l < length holds → FollowsAttempt l m s p → PlaceFits (set holds l (held m)) s (on_grant s p)
granted_fits holds s l m [] inside e = e
granted_fits holds s l m (Unqueued k n w b ∷ p) inside e = given_fits (set holds l (held m)) s p e.3
granted_fits holds s l m (Queued k n w ∷ p) inside e = (refl, (λ _. held_here holds l k m inside e.0), e.3)
granted_fits holds s l m p inside e = absurd e

pub refused_fits : (holds : List Hold) (s l : ℕ) (m : Mode) (p : Place) → IsFreeOf holds l → FollowsAttempt l m s p → PlaceFits holds s (on_refusal p)
refused_fits holds s l m [] free e = e
refused_fits holds s l m (Unqueued k n w b ∷ p) free e = (refl, subst (IsFreeOf holds) (sym e.0) free, (refl, refl, refl, refl, subst (QueuesFor w) (sym e.1) e.2, e.3))
refused_fits holds s l m (Queued k n UntilFree ∷ p) free e = (refl, e.3)
refused_fits holds s l m (Queued k n Shared ∷ p) free e = (refl, e.2 refl ∙ ap want_of (sym e.1), subst (IsFreeOf holds) (sym e.0) free, e.3)
refused_fits holds s l m (Queued k n Exclusive ∷ p) free e = (refl, e.2 refl ∙ ap want_of (sym e.1), subst (IsFreeOf holds) (sym e.0) free, e.3)
refused_fits holds s l m p free e = absurd e

pub let_go_fits : (o : Option Call) (holds : List Hold) (s l w : ℕ) (p : Place) → p ≡ [] → s ≡ 0 → PlaceFits holds s (let_go o l w p)
let_go_fits o holds s l w p e none = by_call (calls_for_wake w)
  where
    by_call : (b : Bool) → PlaceFits holds s (cond b (TakingList l ∷ Waking l (after_store o) ∷ p) p)
    by_call true = (refl, none, e)
    by_call false = idle_fits holds s p e none

-- the list is taken in hand, or isn't
pub taken_fits : (holds : List Hold) (s l : ℕ) (f : Frame) (found : List Waiter) (p : Place) → MayTake l (f ∷ p) → PlaceFits holds s (f ∷ p) → (b : Bool) → PlaceFits holds s (cond b (in_hand found p) (Spinning l ∷ p))
taken_fits holds s l (TakingList k) found (Queueing j w ∷ p) ok fits true = (subst (IsFreeOf holds) (sym fits.0) fits.1, subst (λ (x : ℕ). FollowsQueueing x w p) (sym fits.0) fits.2)
taken_fits holds s l (TakingList k) found (Dequeueing j w ∷ p) ok fits true = (subst (λ (x : ℕ). HoldsAs holds x w) (sym fits.0) fits.1, fits.2)
taken_fits holds s l (TakingList k) found (Waking j updated ∷ p) ok fits true = (refl, fits.1, fits.2)
taken_fits holds s l (TakingList k) found (Comparing j old ∷ p) ok fits true = (subst (IsFreeOf holds) (sym fits.0) fits.1, subst (λ (x : ℕ). FollowsLook x old p) (sym fits.0) fits.2)
taken_fits holds s l (TakingList k) found (Storing j x b ∷ p) ok fits true = (subst (HoldsAlone holds) (sym fits.0) fits.2, fits.1, fits.3)
taken_fits holds s l (TakingList k) found p ok fits false = subst (λ (x : ℕ). FollowsTaking holds x s p) ok_lock fits
  where
    ok_lock : k ≡ l
    ok_lock = same p ok
      where
        same : (q : Place) → MayTake l (TakingList k ∷ q) → k ≡ l
        same (Queueing j w ∷ q) e = e
        same (Dequeueing j w ∷ q) e = e
        same (Waking j updated ∷ q) e = e
        same (Comparing j old ∷ q) e = e
        same (Storing j x b ∷ q) e = e
        same q e = absurd e
taken_fits holds s l (TakingList k) found p ok fits true = absurd ok
taken_fits holds s l f found p ok fits b = absurd ok

-- a call that begins by taking the list, and one that goes on with it
pub taking_fits : (lawful : List ℕ → Type 0) (b : Option Call) (l : ℕ) (v : View) → PlaceFits v.holds v.surplus v.place → BeginsTaking lawful l b v → MayTake l (taking b v.place) × PlaceFits v.holds v.surplus (taking b v.place)
taking_fits lawful (Some (call.UpdateVar k x)) l v fits ok = (ok.0, (refl, idle_clear v.holds v.surplus v.place ok.1 fits, subst (HoldsAlone v.holds) (sym ok.0) ok.2, ok.1))
taking_fits lawful (Some (call.ReleaseClearVar k x)) l v fits ok = (ok.0, (refl, idle_clear v.holds v.surplus v.place ok.1 fits, subst (HoldsAlone v.holds) (sym ok.0) ok.2, ok.1))
taking_fits lawful (Some c) l v fits ok = absurd ok
taking_fits lawful None l v fits ok = (ok, fits)

-- a look in a wait for the variable has an outcome, or has none yet
outcome_fits : (c : Bool) (holds : List Hold) (s l old : ℕ) (p : Place) → FollowsLook l old p → PlaceFits holds s (on_outcome c s p)
outcome_fits c holds s l old (VarUnqueued k older ∷ p) e = given_fits holds s p e.2
outcome_fits c holds s l old (VarQueued k older ∷ p) e = (refl, (λ no. absurd (cc)), (refl, e.2))
outcome_fits c holds s l old p e = absurd e

conflict_fits : (holds : List Hold) (s l old : ℕ) (p : Place) → IsFreeOf holds l → FollowsLook l old p → PlaceFits holds s (on_conflict p)
conflict_fits holds s l old (VarUnqueued k older ∷ p) free e = (refl, subst (IsFreeOf holds) (sym e.0) free, (refl, refl, refl, refl, refl, e.2))
conflict_fits holds s l old (VarQueued k older ∷ p) free e = (refl, refl, refl, refl, subst (IsFreeOf holds) (sym e.0) free, e.2)
conflict_fits holds s l old p free e = absurd e

pub compared_fits : (holds : List Hold) (s l n : ℕ) (p : Place) → MayReadVar l p → PlaceFits holds s p → PlaceFits holds s (compared n p)
compared_fits holds s l n (Reading k old found ∷ p) ok fits = fits
compared_fits holds s l n p ok fits = absurd ok

pub published_fits : (holds : List Hold) (s l x : ℕ) (p : Place) → MayStoreVar l x p → PlaceFits holds s p → PlaceFits holds s (published p)
published_fits holds s l x (Publishing k y found true ∷ p) ok fits = fits
published_fits holds s l x (Publishing k y found false ∷ p) ok fits = (refl, fits.0, fits.1, fits.2)
published_fits holds s l x p ok fits = absurd ok

pub sent_fits : (holds : List Hold) (s l own : ℕ) (clears : Bool) (p : Place) → MaySendHome l clears own p → PlaceFits holds s p → PlaceFits holds s (sent_home s p)
sent_fits holds s l own clears (Appending k w found ∷ p) ok fits = queued_fits holds s k w p fits.0 fits.1
sent_fits holds s l own clears (Removing k w found true ∷ p) ok fits = left_any w p fits.1
sent_fits holds s l own clears (Removing k w found false ∷ p) ok fits = (refl, refl, fits.0, fits.1)
sent_fits holds s l own clears (Returning k old found n ∷ p) ok fits = by_value (eqb n old)
  where
    by_value : (b : Bool) → PlaceFits holds s (cond b (on_conflict p) (on_outcome true s p))
    by_value true = conflict_fits holds s k old p fits.0 fits.1
    by_value false = outcome_fits true holds s k old p fits.1
sent_fits holds s l own clears (Calling k found marked [] ∷ p) ok fits = told_fits holds s marked p fits.2 fits.3
sent_fits holds s l own clears (Unhanding k found ∷ p) ok fits = fits
sent_fits holds s l own clears p ok fits = absurd ok

pub flagged_fits : (holds : List Hold) (s l : ℕ) (p : Place) → MayFlag l p → PlaceFits holds s p → PlaceFits holds s (flagged p)
flagged_fits holds s l (Flagging k w found ∷ p) ok fits = fits
flagged_fits holds s l p ok fits = absurd ok

pub stored_fits : (holds : List Hold) (s q x : ℕ) (own : Option ℕ) (p : Place) → MayStore q x own p → PlaceFits holds s p → PlaceFits holds s (stored s p)
stored_fits holds s q x own (Announcing l w found ∷ p) ok fits = fits
stored_fits holds s q x own (Withdrawing ∷ p) ok fits = left_fits holds s UntilFree p fits
stored_fits holds s q x own (Marking l updated found marked (u ∷ us) ∷ p) ok fits = (append_assoc marked (u ∷ []) us ∙ fits.0, fits.1, fits.2)
stored_fits holds s q x own (Calling l found marked (u ∷ us) ∷ p) ok fits = (append_assoc marked (u ∷ []) us ∙ fits.0, fits.1, fits.2, fits.3)
stored_fits holds s q x own (Clearing (u ∷ us) ∷ p) ok fits = fits
stored_fits holds s q x own p ok fits = absurd ok

pub reread_fits : (holds : List Hold) (s n : ℕ) (p : Place) → MayReread p → PlaceFits holds s p → PlaceFits holds (surplus_found n p s) (reread s n p)
reread_fits holds s n (Checking l w found ∷ p) ok fits = fits
reread_fits holds s n (Sleeping l w a ∷ p) ok fits = by_field (eqb n 0)
  where
    slept : (a : Bool) (q : Place) → FollowsSleep holds l w a q → PlaceFits holds s (resumed s q)
    slept false (Woken k m ∷ q) e = (subst (IsFreeOf holds) (sym e.0) e.2, e.3)
    slept false (GivingBack ∷ q) e = given_fits holds s q e.1
    slept false (Peeking k old ∷ VarUnqueued j older ∷ q) e = (subst (IsFreeOf holds) (sym e.0) e.4, (e.1 ∙ sym e.0, e.2, e.5))
    slept true (GivingBack ∷ q) e = given_fits holds s q e
    slept true (VarLeaving old c ∷ q) e = given_fits holds s q e.1
    slept a q e = absurd e

    by_field : (b : Bool) → PlaceFits holds (cond b s (s + 1)) (cond b (resumed s p) (Looking ∷ Sleeping l w a ∷ p))
    by_field true = slept a p fits
    by_field false = fits
reread_fits holds s n p ok fits = absurd ok

pub detached_fits : (holds : List Hold) (s l w to n : ℕ) (p : Place) → n < 2 ^ 32 → MayDetach l w to p → PlaceFits holds s p → (hit : Bool) → PlaceFits holds s (detached hit n p)
detached_fits holds s l w to n (Detaching k updated found word ∷ p) small ok fits true = told_fits holds s (taken_from found) p fits.1 fits.2
detached_fits holds s l w to n (Detaching k updated found word ∷ p) small ok fits false = (small, fits.1, fits.2)
detached_fits holds s l w to n p small ok fits hit = absurd ok

pub posted_fits : (holds : List Hold) (s q : ℕ) (own : Option ℕ) (p : Place) → Owes q own p → PlaceFits holds s p → PlaceFits holds (surplus_posted p s) (posted (surplus_posted p s) p)
posted_fits holds s q own (GivingBack ∷ p) ok fits = given_fits holds (s - 1) p fits.1
posted_fits holds s q own (Posting (u ∷ us) ∷ p) ok fits = told_fits holds s us p fits.0 fits.1
posted_fits holds s q own p ok fits = absurd ok

pub looked_fits : (holds : List Hold) (s : ℕ) (b : Option Call) (p : Place) → MayLook b p → PlaceFits holds s p → (is_zero : Bool) → PlaceFits holds s (looked is_zero p)
looked_fits holds s None (Looking ∷ p) ok fits true = fits
looked_fits holds s None (Looking ∷ p) ok fits false = fits
looked_fits holds s None (Asleep ∷ p) ok fits true = fits
looked_fits holds s None (Asleep ∷ p) ok fits false = fits
looked_fits holds s (Some c) [] ok fits true = fits
looked_fits holds s (Some c) [] ok fits false = fits
looked_fits holds s b p ok fits is_zero = absurd ok

pub answered_fits : (holds : List Hold) (s l : ℕ) (p : Place) → MayAnswer l p → PlaceFits holds s p → PlaceFits holds s (answered p)
answered_fits holds s l (Answering k w ∷ Looking ∷ Sleeping j u true ∷ p) ok fits = returned p fits.3
  where
    returned : (q : Place) → FollowsLeaving w q → FollowsSleep holds j u true q
    returned (GivingBack ∷ q) e = e
    returned (VarLeaving old c ∷ q) e = (fits.1 ∙ e.0, e.1)
    returned q e = absurd e
answered_fits holds s l (Woken k m ∷ p) ok fits = (fits.0, (refl, refl, (λ _. refl), fits.1))
answered_fits holds s l (Allowing i ∷ Peeking k old ∷ VarQueued j older ∷ p) ok fits = (subst (IsFreeOf holds) (sym fits.1) fits.0, (fits.2 ∙ sym fits.1, fits.3, fits.4))
answered_fits holds s l (Answering k w ∷ p) ok fits = absurd fits
answered_fits holds s l (Allowing k ∷ p) ok fits = absurd fits
answered_fits holds s l p ok fits = absurd ok

-- a look at a lock in a wait for its variable, which begins with it or goes on
pub peeked_fits : (holds : List Hold) (s l old n : ℕ) (p : Place) → IsFreeOf holds l → p ≡ [] → s ≡ 0 → PlaceFits holds s (peeked (Some (call.WaitForVar l old)) s n p)
peeked_fits holds s l old n p free e none = by_word (is_free Rattle.proc_table.specs.declared.Mode.TheVariants.Shared n)
  where
    by_word : (b : Bool) → PlaceFits holds s (cond b p (TakingList l ∷ Comparing l old ∷ VarUnqueued l old ∷ p))
    by_word true = idle_fits holds s p e none
    by_word false = (refl, free, (refl, refl, e))

pub looked_on_fits : (holds : List Hold) (s l n : ℕ) (p : Place) → MayPeek l p → PlaceFits holds s p → PlaceFits holds s (peeked None s n p)
looked_on_fits holds s l n (Peeking k old ∷ p) ok fits = by_word (is_free Rattle.proc_table.specs.declared.Mode.TheVariants.Shared n)
  where
    by_word : (b : Bool) → PlaceFits holds s (cond b (on_outcome false s p) (TakingList k ∷ Comparing k old ∷ p))
    by_word true = outcome_fits false holds s k old p fits.1
    by_word false = (refl, fits.0, fits.1)
looked_on_fits holds s l n p ok fits = absurd ok
