-- Each kind of step, as what it does to lists, waiting fields and semaphores.
use Rattle.std.proofs.Common.{◌≡◌, ℕ, ◌+◌, ◌-◌, ◌/◌, ◌%◌, ◌<◌, ◌≤◌, eqb, Bool, true, false, cond, List, [], ◌∷◌, ◌++◌, get_or, set, Option, None, Some, sym, refl, ap, ◌∙◌, subst, arith, eq-eqb, ne_eqb}
use Rattle.std.proofs.lemmas.List.{append-nil}
use Rattle.std.proofs.lemmas.Bool.{eqb-true}
use mathlib.Core.Logic.{dite}
use mathlib.Core.Option as maybe
use native.Mathlib.Decide.{ℕ_discrete}
use lib.ListN.{get_elem?}
use Rattle.atomic_table.specs.Table.{keeps, takes as takes_out, gives, homes_after}
use Rattle.proc_table.specs.declared.Mode.{Mode}
use Rattle.proc_table.specs.declared.Mode.TheVariants as mode
use Rattle.lw_core.specs.declared.step.Call.{Call}
use Rattle.lw_core.specs.declared.step.Call.TheVariants as call
use Rattle.lw_core.specs.declared.step.LwStep.{LwStep}
use Rattle.lw_core.specs.declared.step.LwStep.TheVariants as kind
use Rattle.lw_core.specs.declared.view.Frame.{Frame}
use Rattle.lw_core.specs.declared.view.Frame.TheVariants.{Attempting, Trying, Unqueued, Queued, TakingList, Spinning, Queueing, Flagging, Announcing, Appending, Dequeueing, Checking, Removing, Withdrawing, Answering, Looking, Asleep, Downing, Sleeping, Woken, GivingBack, Waking, Marking, Detaching, Clearing, Posting, Peeking, Comparing, Reading, Returning, VarUnqueued, Allowing, VarQueued, VarLeaving, Storing, Publishing, Calling, Unhanding, Releasing}
use Rattle.lw_core.specs.declared.view.Hold.{Hold}
use Rattle.lw_core.specs.declared.view.Size.{Size}
use Rattle.lw_core.specs.declared.view.Want.{Want}
use Rattle.lw_core.specs.declared.view.Want.TheVariants as want
use Rattle.lw_core.specs.declared.view.Waiter.{Waiter}
use Rattle.lw_core.specs.Words.{Waiters, state_at, var_at, waiting_at, sem_at, grant_of, is_free, lock_part, locked, release_ok, has_waiters, has_flag, set_flag, clear_flag}
use Rattle.lw_core.specs.WaitLists.{waiter, times_on, joined_by, without, taken_from, kept_from, lockers_from, home_of, home_list}
use Rattle.lw_core.specs.declared.view.View.{View}
use Rattle.lw_core.specs.Machine.{Place, fresh, top, outer, number_of, lock_number, word_of, becomes, next, IsInRange, act_of, carried, downed_at, moved, gripped, held, mode_in, Allowed, want_of, resumed, on_grant, on_refusal, loaded, peeked, on_outcome, on_conflict, taking, releasing, compared, published, let_go, after_store, calls_for_wake, in_hand, flagged, sent_home, stored, reread, telling, detached, posted, looked, answered, surplus_found, surplus_posted, left_at, as_waiters, woken_word, MayLoad, MayTake, MaySendHome, MayFlag, MayStore, MayReread, MayDetach, Owes, MayLook, MayAnswer, MayPeek, BeginsTaking, MayReadVar, MayStoreVar, BeginsRelease}
use Rattle.lw_core.specs.SeatFits.{FollowsAttempt, FollowsLook, FollowsLeaving, FollowsSleep, FollowsDown, FollowsTaking, PlaceFits}
use Rattle.lw_core.specs.Stances.{Stance, hand_of, entry_of, due_of, hand_at, stance_of}
use Rattle.lw_core.specs.Told.{lock_in_hand, HandFollows}
use Rattle.lw_core.proofs.Lists.{times_parted, times_headed}
use Rattle.lw_core.proofs.Touches.{on_exchange, top_is, begun_release}
use Rattle.lw_core.proofs.Fits.{taking_fits}
use Rattle.lw_core.proofs.Turns.{Homes, IsStill, reads, grants, guards, varies, Turn, stays, takes, flags, announces, queues, checks, leaves, was_taken, withdraws, marks, detaches, summons, returns, unmarks, posts, sees, sleeps_down, calls_down, wakes, oversleeps, gives_back, answers, allows, pokes}

-- the stance of a seat at this place
abbrev pub stance : Option ℕ → Place → ℕ → List ℕ → List ℕ → Stance
stance own p surplus poked downed = stance_of record (fresh own) { place = p; surplus = surplus; poked = poked; downed = downed }

-- who queued in a mode owes the lock's RELEASE_OK
due_of_mode : (l : ℕ) (m : Mode) → due_of (entry_of l (want_of m)) ≡ Some l
due_of_mode l mode.Shared = refl
due_of_mode l mode.Exclusive = refl

due_of_sleep : (l : ℕ) (w : Want) (m : Mode) (k : ℕ) → k ≡ l → w ≡ want_of m → due_of (entry_of l w) ≡ Some k
due_of_sleep l w m k at is = ap (λ (u : Want). due_of (entry_of l u)) is ∙ (due_of_mode l m ∙ ap Some (sym at))

due_is : (k l : ℕ) (w : Want) → due_of (entry_of k w) ≡ Some l → k ≡ l
due_is k l want.Shared e = ap number_of e
due_is k l want.Exclusive e = ap number_of e
due_is k l want.UntilFree e = absurd (cc)

-- a grant in the lock part, or its end, changes no flag
granted_flag : (m : Mode) (n : ℕ) → is_free m n ≡ true → (has_flag locked (n + grant_of m) ≡ has_flag locked n) × (has_flag release_ok (n + grant_of m) ≡ has_flag release_ok n) × (has_flag has_waiters (n + grant_of m) ≡ has_flag has_waiters n)
granted_flag mode.Shared n free = let low : (n / 16777216) % 2 ≡ 0 = eqb-true _ _ free in (omega arith, omega arith, omega arith)
granted_flag mode.Exclusive n free = let low : n % 33554432 ≡ 0 = eqb-true _ _ free in (omega arith, omega arith, omega arith)

let_go_flag : (g n : ℕ) → g ≤ lock_part n → (has_flag locked (n - g) ≡ has_flag locked n) × (has_flag release_ok (n - g) ≡ has_flag release_ok n) × (has_flag has_waiters (n - g) ≡ has_flag has_waiters n)
let_go_flag g n enough = (omega arith, omega arith, omega arith)

module _ (own : Option ℕ) (s : ℕ) (poked downed : List ℕ) where
  abbrev at_place : Place → Stance
  at_place p = stance own p s poked downed

  -- what is given back says nothing of lists
  resumed_idle : (p : Place) → p ≡ [] → at_place (resumed s (GivingBack ∷ p)) ≡ at_place []
  resumed_idle p e = by_surplus (eqb s 0)
    where
      by_surplus : (b : Bool) → at_place (cond b p (GivingBack ∷ p)) ≡ at_place []
      by_surplus true = ap at_place e
      by_surplus false = refl

  left_idle : (w : Want) (p : Place) → FollowsLeaving w p → at_place (resumed s p) ≡ at_place []
  left_idle w (GivingBack ∷ p) e = resumed_idle p e
  left_idle w (VarLeaving old c ∷ p) e = resumed_idle p e.1
  left_idle w p e = absurd e

  loaded_same : (holds : List Hold) (l n : ℕ) (p : Place) → MayLoad l p → PlaceFits holds s p → at_place (loaded None n p) ≡ at_place p
  loaded_same holds l n (Attempting k m ∷ []) ok fits = absurd fits
  loaded_same holds l n (Attempting k m ∷ Unqueued j i w b ∷ p) ok fits = refl
  loaded_same holds l n (Attempting k m ∷ Queued j i w ∷ p) ok fits = refl
  loaded_same holds l n (Attempting k m ∷ f ∷ p) ok fits = absurd fits.1
  loaded_same holds l n (Spinning k ∷ p) ok fits = by_word (eqb (has_flag locked n) 0) p fits
    where
      by_word : (b : Bool) (q : Place) → FollowsTaking holds k s q → at_place (cond b (TakingList k ∷ q) (Spinning k ∷ q)) ≡ at_place (Spinning k ∷ q)
      by_word false q fits = refl
      by_word true (Queueing j w ∷ q) fits = refl
      by_word true (Dequeueing j w ∷ q) fits = refl
      by_word true (Waking j updated ∷ q) fits = refl
      by_word true (Comparing j old ∷ VarUnqueued i older ∷ q) fits = refl
      by_word true (Comparing j old ∷ VarQueued i older ∷ q) fits = refl
      by_word true (Comparing j old ∷ q) fits = absurd fits.2
      by_word true (Storing j x b ∷ q) fits = refl
      by_word true q fits = absurd fits
  loaded_same holds l n (Marking k updated found marked [] ∷ p) ok fits = λ i. record (at_place (Marking k updated found marked [] ∷ p)) { marked = (sym fits.0 ∙ append-nil marked) i }
  loaded_same holds l n p ok fits = absurd ok

  begun_same : (p : Place) (f : Place → Place) → p ≡ [] → at_place (f []) ≡ at_place [] → at_place (f p) ≡ at_place p
  begun_same p f e same = ap (λ (q : Place). at_place (f q)) e ∙ (same ∙ ap at_place (sym e))

  granted_same : (l w : ℕ) (m : Mode) (p : Place) → FollowsAttempt l m s p → at_place (on_grant s p) ≡ at_place (Trying l m w ∷ p)
  granted_same l w m [] e = refl
  granted_same l w m (Unqueued k n u b ∷ p) e = resumed_idle p e.3
  granted_same l w m (Queued k n u ∷ p) e = refl
  granted_same l w m p e = absurd e

  refused_same : (l w : ℕ) (m : Mode) (p : Place) → FollowsAttempt l m s p → at_place (on_refusal p) ≡ at_place (Trying l m w ∷ p)
  refused_same l w m [] e = refl
  refused_same l w m (Unqueued k n u b ∷ p) e = refl
  refused_same l w m (Queued k n u ∷ p) e = refl
  refused_same l w m p e = absurd e

  retried_same : (l w n : ℕ) (m : Mode) (p : Place) → FollowsAttempt l m s p → at_place (Trying l m n ∷ p) ≡ at_place (Trying l m w ∷ p)
  retried_same l w n m [] e = refl
  retried_same l w n m (Unqueued k i u b ∷ p) e = refl
  retried_same l w n m (Queued k i u ∷ p) e = refl
  retried_same l w n m p e = absurd e

  let_go_same : (o : Option Call) (l w : ℕ) (p : Place) → p ≡ [] → at_place (let_go o l w p) ≡ at_place p
  let_go_same o l w p e = by_call (calls_for_wake w)
    where
      by_call : (b : Bool) → at_place (cond b (TakingList l ∷ Waking l (after_store o) ∷ p) p) ≡ at_place p
      by_call true = begun_same p (λ (q : Place). TakingList l ∷ Waking l (after_store o) ∷ q) e refl
      by_call false = refl

  -- a release that is part of another call
  released_same : (b : Option Call) (l : ℕ) (v : View) → releasing b v.place ≡ [] → BeginsRelease l b v → at_place (releasing b v.place) ≡ at_place v.place
  released_same (Some c) l v none ok = refl
  released_same None l v none ok = ap at_place none ∙ ap at_place (sym (top_is v.place (Releasing l) ok))

  peeked_same : (l old n : ℕ) (p : Place) → p ≡ [] → at_place (peeked (Some (call.WaitForVar l old)) s n p) ≡ at_place p
  peeked_same l old n p e = by_word (is_free mode.Shared n)
    where
      by_word : (b : Bool) → at_place (cond b p (TakingList l ∷ Comparing l old ∷ VarUnqueued l old ∷ p)) ≡ at_place p
      by_word true = refl
      by_word false = begun_same p (λ (q : Place). TakingList l ∷ Comparing l old ∷ VarUnqueued l old ∷ q) e refl

  looked_on_same : (holds : List Hold) (l n : ℕ) (p : Place) → MayPeek l p → PlaceFits holds s p → at_place (peeked None s n p) ≡ at_place p
  looked_on_same holds l n (Peeking k old ∷ VarUnqueued j older ∷ q) ok fits = by_word (is_free mode.Shared n)
    where
      by_word : (b : Bool) → at_place (cond b (resumed s (GivingBack ∷ q)) (TakingList k ∷ Comparing k old ∷ VarUnqueued j older ∷ q)) ≡ at_place (Peeking k old ∷ VarUnqueued j older ∷ q)
      by_word true = resumed_idle q fits.1.2
      by_word false = refl
  looked_on_same holds l n (Peeking k old ∷ VarQueued j older ∷ q) ok fits = by_word (is_free mode.Shared n)
    where
      by_word : (b : Bool) → at_place (cond b (TakingList j ∷ Dequeueing j want.UntilFree ∷ VarLeaving older false ∷ q) (TakingList k ∷ Comparing k old ∷ VarQueued j older ∷ q)) ≡ at_place (Peeking k old ∷ VarQueued j older ∷ q)
      by_word true = refl
      by_word false = refl
  looked_on_same holds l n (Peeking k old ∷ q) ok fits = absurd fits.1
  looked_on_same holds l n p ok fits = absurd ok

  compared_same : (holds : List Hold) (l n : ℕ) (p : Place) → MayReadVar l p → PlaceFits holds s p → at_place (compared n p) ≡ at_place p
  compared_same holds l n (Reading k old found ∷ VarUnqueued j older ∷ q) ok fits = refl
  compared_same holds l n (Reading k old found ∷ VarQueued j older ∷ q) ok fits = refl
  compared_same holds l n (Reading k old found ∷ q) ok fits = absurd fits.1
  compared_same holds l n p ok fits = absurd ok

  published_same : (l x : ℕ) (p : Place) → MayStoreVar l x p → at_place (published p) ≡ at_place p
  published_same l x (Publishing k y found true ∷ p) ok = refl
  published_same l x (Publishing k y found false ∷ p) ok = refl
  published_same l x p ok = absurd ok

  taking_same : (lawful : List ℕ → Type 0) (b : Option Call) (l : ℕ) (v : View) (p : Place) → v.place ≡ p → BeginsTaking lawful l b v → at_place (taking b p) ≡ at_place p
  taking_same lawful (Some (call.UpdateVar k x)) l v p e ok = begun_same p (λ (q : Place). TakingList k ∷ Storing k x false ∷ q) (sym e ∙ ok.1) refl
  taking_same lawful (Some (call.ReleaseClearVar k x)) l v p e ok = begun_same p (λ (q : Place). TakingList k ∷ Storing k x true ∷ q) (sym e ∙ ok.1) refl
  taking_same lawful (Some c) l v p e ok = absurd ok
  taking_same lawful None l v p e ok = refl

  -- the list is in hand, or somebody else has it
  taken_hand : (holds : List Hold) (l : ℕ) (f : Frame) (found : List Waiter) (p : Place) → MayTake l (f ∷ p) → PlaceFits holds s (f ∷ p) → at_place (in_hand found p) ≡ record (at_place (f ∷ p)) { hand = hand_of l found }
  taken_hand holds l (TakingList k) found (Queueing j w ∷ p) ok fits = λ i. record (at_place (TakingList k ∷ Queueing j w ∷ p)) { hand = hand_of ((fits.0 ∙ ok) i) found }
  taken_hand holds l (TakingList k) found (Dequeueing j w ∷ p) ok fits = λ i. record (at_place (TakingList k ∷ Dequeueing j w ∷ p)) { hand = hand_of ((fits.0 ∙ ok) i) found }
  taken_hand holds l (TakingList k) found (Waking j updated ∷ p) ok fits = λ i. record (at_place (TakingList k ∷ Waking j updated ∷ p)) { hand = hand_of ((fits.0 ∙ ok) i) found }
  taken_hand holds l (TakingList k) found (Comparing j old ∷ VarUnqueued i older ∷ p) ok fits = λ x. record (at_place (TakingList k ∷ Comparing j old ∷ VarUnqueued i older ∷ p)) { hand = hand_of ((fits.0 ∙ ok) x) found }
  taken_hand holds l (TakingList k) found (Comparing j old ∷ VarQueued i older ∷ p) ok fits = λ x. record (at_place (TakingList k ∷ Comparing j old ∷ VarQueued i older ∷ p)) { hand = hand_of ((fits.0 ∙ ok) x) found }
  taken_hand holds l (TakingList k) found (Comparing j old ∷ p) ok fits = absurd fits.2
  taken_hand holds l (TakingList k) found (Storing j y b ∷ p) ok fits = λ x. record (at_place (TakingList k ∷ Storing j y b ∷ p)) { hand = hand_of ((fits.0 ∙ ok) x) found }
  taken_hand holds l f found p ok fits = absurd ok

  taking_empty : (l : ℕ) (f : Frame) (p : Place) → MayTake l (f ∷ p) → hand_at (f ∷ p) ≡ None
  taking_empty l (TakingList k) p ok = refl
  taking_empty l f p ok = absurd ok

  spun_same : (holds : List Hold) (l : ℕ) (f : Frame) (p : Place) → MayTake l (f ∷ p) → PlaceFits holds s (f ∷ p) → at_place (Spinning l ∷ p) ≡ at_place (f ∷ p)
  spun_same holds l (TakingList k) (Queueing j w ∷ p) ok fits = refl
  spun_same holds l (TakingList k) (Dequeueing j w ∷ p) ok fits = refl
  spun_same holds l (TakingList k) (Waking j updated ∷ p) ok fits = refl
  spun_same holds l (TakingList k) (Comparing j old ∷ VarUnqueued i older ∷ p) ok fits = refl
  spun_same holds l (TakingList k) (Comparing j old ∷ VarQueued i older ∷ p) ok fits = refl
  spun_same holds l (TakingList k) (Comparing j old ∷ p) ok fits = absurd fits.2
  spun_same holds l (TakingList k) (Storing j x b ∷ p) ok fits = refl
  spun_same holds l f p ok fits = absurd ok

  -- those whom it tells are still marked, and it owes them a post
  told : (us : List Waiter) (p : Place) → p ≡ [] → at_place (telling us p) ≡ record (at_place []) { unlisted = us; owed = us }
  told [] p e = ap at_place e
  told (u ∷ us) p e = refl

-- a slot whose list isn't empty-handed: what is found at home
pub home_is : (homes : Homes) (l : ℕ) (list : Waiters) → get_elem? homes l ≡ maybe.some (maybe.some list) → home_list homes l ≡ list.items
home_is homes l list e = ap home_of e

module _ (z : Size) (words : List ℕ) (homes : Homes) (own : Option ℕ) (s : ℕ) (poked downed : List ℕ) (p : ℕ) (mine : own ≡ Some p) (below : p < z.procs) where
  abbrev at : Place → Stance
  at q = stance own q s poked downed

  abbrev found_at : ℕ → ℕ
  found_at i = get_or words i 0

  -- HAS_WAITERS is set
  pub flag_turned : (l : ℕ) (q : Place) → MayFlag l q → l < z.locks → Turn z words homes homes (state_at l) (set_flag has_waiters (found_at (state_at l))) (at q) (at (flagged q))
  flag_turned l (Flagging k w found ∷ q) ok inside = flags l found inside refl refl refl (ap (λ (j : ℕ). hand_of j found) ok) refl
      (λ i. record (at (Announcing k w found ∷ q)) { flagged = Some (ok i) })
  flag_turned l q ok inside = absurd ok

  -- LOCKED is set
  pub lock_turned : (holds : List Hold) (l : ℕ) (q : Place) → MayTake l q → PlaceFits holds s q → l < z.locks → (list : Waiters) → get_elem? homes l ≡ maybe.some (maybe.some list) → has_flag locked (found_at (state_at l)) ≡ 0
      → Turn z words homes (set homes l maybe.none) (state_at l) (set_flag locked (found_at (state_at l))) (at q) (at (in_hand (home_list homes l) (outer q)))
  lock_turned holds l [] ok fits inside list home clear = absurd ok
  lock_turned holds l (f ∷ q) ok fits inside list home clear = takes l list inside refl clear refl home refl (taking_empty own s poked downed l f q ok)
      (taken_hand own s poked downed holds l f (home_list homes l) q ok fits ∙ ap (λ (ws : List Waiter). record (at (f ∷ q)) { hand = hand_of l ws }) (home_is homes l list home))

  pub spin_turned : (holds : List Hold) (l : ℕ) (q : Place) → MayTake l q → PlaceFits holds s q → l < z.locks → has_flag locked (found_at (state_at l)) ≡ 1
      → Turn z words homes homes (state_at l) (set_flag locked (found_at (state_at l))) (at q) (at (Spinning l ∷ outer q))
  spin_turned holds l [] ok fits inside set_there = absurd ok
  spin_turned holds l (f ∷ q) ok fits inside set_there = stays (reads (omega arith)) refl (spun_same own s poked downed holds l f q ok fits)

  -- LOCKED is cleared
  pub unlock_turned : (holds : List Hold) (l : ℕ) (c : Bool) (q : Place) → MaySendHome l c p q → PlaceFits holds s q → l < z.locks
      → Turn z words homes (set homes l (maybe.some (as_waiters (left_at q p)))) (state_at l) (cond c (clear_flag has_waiters (clear_flag locked (found_at (state_at l)))) (clear_flag locked (found_at (state_at l)))) (at q) (at (sent_home s q))
  unlock_turned holds l c (Appending k w found ∷ Attempting a m ∷ Queued b n u ∷ q) ok fits inside =
      queues l p w found (as_waiters (joined_by (waiter p w) found)) inside below mine refl (ap (λ (x : Bool). cond x (clear_flag has_waiters (clear_flag locked (found_at (state_at l)))) (clear_flag locked (found_at (state_at l)))) ok.1) refl refl
      (ap (λ (j : ℕ). hand_of j found) ok.0) (ap Some ok.0) refl refl refl
      (let lock = fits.1.1 ∙ ok.0 in let same = fits.1.3 in
      λ i. record (at (Attempting a m ∷ Queued b n u ∷ q)) { queued = entry_of (lock i) (same i); due = due_of (entry_of (lock i) (same i)) })
  unlock_turned holds l c (Removing k w found true ∷ q) ok fits inside =
      leaves l p w found (as_waiters (without p found)) inside below mine refl (ap (λ (x : Bool). cond x (clear_flag has_waiters (clear_flag locked (found_at (state_at l)))) (clear_flag locked (found_at (state_at l)))) ok.1) refl refl
      (ap (λ (j : ℕ). hand_of j found) ok.0) refl (ap (λ (j : ℕ). entry_of j w) ok.0) refl refl refl refl
  unlock_turned holds l c (Removing k w found false ∷ q) ok fits inside =
      was_taken l p w found (as_waiters found) inside below mine refl (ap (λ (x : Bool). cond x (clear_flag has_waiters (clear_flag locked (found_at (state_at l)))) (clear_flag locked (found_at (state_at l)))) ok.1) refl refl
      (ap (λ (j : ℕ). hand_of j found) ok.0) refl (ap (λ (j : ℕ). entry_of j w) ok.0) refl refl refl
  unlock_turned holds l c (Appending k w found ∷ Allowing a ∷ Peeking b old ∷ VarQueued i older ∷ q) ok fits inside =
      queues l p w found (as_waiters (joined_by (waiter p w) found)) inside below mine refl (ap (λ (x : Bool). cond x (clear_flag has_waiters (clear_flag locked (found_at (state_at l)))) (clear_flag locked (found_at (state_at l)))) ok.1) refl refl
      (ap (λ (j : ℕ). hand_of j found) ok.0) (ap Some ok.0) refl refl refl
      (let lock = fits.1.0 ∙ ok.0 in let same = sym fits.1.4 in
      λ j. record (at (Allowing a ∷ Peeking b old ∷ VarQueued i older ∷ q)) { queued = entry_of (lock j) (same j); due = due_of (entry_of (lock j) (same j)) })
  unlock_turned holds l c (Appending k w found ∷ q) ok fits inside = absurd fits.1
  unlock_turned holds l c (Returning k old found n ∷ q) ok fits inside = returns l found (as_waiters found) inside refl (ap (λ (x : Bool). cond x (clear_flag has_waiters (clear_flag locked (found_at (state_at l)))) (clear_flag locked (found_at (state_at l)))) ok.1) refl refl (ap (λ (j : ℕ). hand_of j found) ok.0) refl refl refl (returned (eqb n old) q fits.1)
    where
      returned : (b : Bool) (q : Place) → FollowsLook k old q → at (cond b (on_conflict q) (on_outcome true s q)) ≡ record (at (Returning k old found n ∷ q)) { hand = None }
      returned true (VarUnqueued j older ∷ r) e = refl
      returned true (VarQueued j older ∷ r) e = refl
      returned false (VarUnqueued j older ∷ r) e = resumed_idle own s poked downed r e.2
      returned false (VarQueued j older ∷ r) e = refl
      returned b r e = absurd e
  unlock_turned holds l c (Calling k found marked [] ∷ q) ok fits inside = let all = sym (append-nil marked) ∙ fits.0 in
      summons l found (as_waiters (lockers_from found)) inside refl (ap (λ (x : Bool). cond x (clear_flag has_waiters (clear_flag locked (found_at (state_at l)))) (clear_flag locked (found_at (state_at l)))) ok.1) refl refl (ap (λ (j : ℕ). hand_of j found) ok.0) refl all refl refl refl
      (told own s poked downed marked q fits.3 ∙ ap (λ (us : List Waiter). record (at []) { unlisted = us; owed = us }) all)
  unlock_turned holds l c (Unhanding k found ∷ q) ok fits inside = returns l found (as_waiters found) inside refl (ap (λ (x : Bool). cond x (clear_flag has_waiters (clear_flag locked (found_at (state_at l)))) (clear_flag locked (found_at (state_at l)))) ok.1) refl refl (ap (λ (j : ℕ). hand_of j found) ok.0) refl refl refl refl
  unlock_turned holds l c q ok fits inside = absurd ok

  -- a waiting field is stored
  pub store_turned : (holds : List Hold) (q x : ℕ) (place : Place) → MayStore q x own place → PlaceFits holds s place → q < z.procs → Turn z words homes homes (waiting_at z q) x (at place) (at (stored s place))
  store_turned holds q x (Announcing l w found ∷ r) ok fits inside = announces q inside ok.0 refl ok.1 refl refl refl refl
  store_turned holds q x (Withdrawing ∷ r) ok fits inside = withdraws q inside ok.0 refl ok.1 refl refl refl (left_idle own s poked downed want.UntilFree r fits)
  store_turned holds q x (Marking l updated found marked (u ∷ us) ∷ r) ok fits inside = marks l u found marked us (subst (λ (n : ℕ). n < z.procs) (sym ok.0) inside) (ap (waiting_at z) (sym ok.0)) ok.1 refl refl refl
      (λ n. let all = ap (times_on n) fits.0 in let parts = times_parted n found in omega arith) refl refl
  store_turned holds q x (Calling l found marked (u ∷ us) ∷ r) ok fits inside = marks l u found marked us (subst (λ (n : ℕ). n < z.procs) (sym ok.0) inside) (ap (waiting_at z) (sym ok.0)) ok.1 refl refl refl
      (λ n. let all = ap (times_on n) fits.0 in let parts = times_headed n found in omega arith) refl refl
  store_turned holds q x (Clearing (u ∷ us) ∷ r) ok fits inside = unmarks u us (subst (λ (n : ℕ). n < z.procs) (sym ok.0) inside) (ap (waiting_at z) (sym ok.0)) ok.1 refl refl refl
  store_turned holds q x place ok fits inside = absurd ok

  -- the own waiting field is read
  pub reread_turned : (holds : List Hold) (place : Place) → MayReread place → PlaceFits holds s place
      → Turn z words homes homes (waiting_at z p) (found_at (waiting_at z p)) (at place) (stance own (reread s (found_at (waiting_at z p)) place) (surplus_found (found_at (waiting_at z p)) place s) poked downed)
  reread_turned holds (Checking l w found ∷ r) ok fits = checks l p w found below mine refl refl refl refl refl refl refl refl
  reread_turned holds (Sleeping l w a ∷ r) ok fits = let n : ℕ = found_at (waiting_at z p) in dite (ℕ_discrete n 0)
      (λ none. subst (λ (b : Bool). Turn z words homes homes (waiting_at z p) n (at (Sleeping l w a ∷ r)) (stance own (cond b (resumed s r) (Looking ∷ Sleeping l w a ∷ r)) (cond b s (s + 1)) poked downed)) (sym (eq-eqb n 0 none))
      (wakes p below mine refl refl none refl refl refl refl refl (slept a r fits)))
      (λ some. subst (λ (b : Bool). Turn z words homes homes (waiting_at z p) n (at (Sleeping l w a ∷ r)) (stance own (cond b (resumed s r) (Looking ∷ Sleeping l w a ∷ r)) (cond b s (s + 1)) poked downed)) (sym (ne_eqb n 0 some))
      (oversleeps p below mine refl refl some refl refl (overslept a)))
    where
      slept : (b : Bool) (q : Place) → FollowsSleep holds l w b q → at (resumed s q) ≡ record (at (Sleeping l w b ∷ q)) { between = false; round = false; queued = None }
      slept false (Woken k m ∷ q) e = λ i. record (at (Woken k m ∷ q)) { due = sym (due_of_sleep l w m k e.0 e.1) i }
      slept false (GivingBack ∷ q) e = resumed_idle own s poked downed q e.1 ∙ (λ i. record (at (Sleeping l w true ∷ GivingBack ∷ q)) { between = false; round = false; queued = None; due = ap (λ (u : Want). due_of (entry_of l u)) (sym e.0) i })
      slept false (Peeking k old ∷ VarUnqueued j older ∷ q) e = λ i. record (at (Sleeping l w true ∷ Peeking k old ∷ VarUnqueued j older ∷ q)) { between = false; round = false; queued = None; due = ap (λ (u : Want). due_of (entry_of l u)) (sym e.3) i }
      slept true (GivingBack ∷ q) e = resumed_idle own s poked downed q e
      slept true (VarLeaving old c ∷ q) e = resumed_idle own s poked downed q e.1
      slept b q e = absurd e

      overslept : (b : Bool) → stance own (Looking ∷ Sleeping l w b ∷ r) (s + 1) poked downed ≡ record (at (Sleeping l w b ∷ r)) { between = false; surplus = s + 1 }
      overslept true = refl
      overslept false = refl
  reread_turned holds place ok fits = absurd ok

  -- the exchange of a wake
  pub wake_turned : (holds : List Hold) (l w to : ℕ) (place : Place) → MayDetach l w to place → PlaceFits holds s place → l < z.locks → found_at (state_at l) ≡ w
      → Turn z words homes (set homes l (maybe.some (as_waiters (left_at place p)))) (state_at l) to (at place) (at (detached true (found_at (state_at l)) place))
  wake_turned holds l w to (Detaching k updated found word ∷ r) ok fits inside hit = detaches l found (as_waiters (kept_from found)) inside refl (ok.2 ∙ ap (woken_word (taken_from found) (kept_from found)) (sym hit)) refl refl
      (ap (λ (j : ℕ). hand_of j found) ok.0) refl refl refl refl refl (told own s poked downed (taken_from found) r fits.2)
  wake_turned holds l w to place ok fits inside hit = absurd ok

  pub wake_retried : (l w to n : ℕ) (place : Place) → MayDetach l w to place → at (detached false n place) ≡ at place
  wake_retried l w to n (Detaching k updated found word ∷ r) ok = refl
  wake_retried l w to n place ok = absurd ok

  -- a semaphore is posted
  pub post_turned : (holds : List Hold) (q : ℕ) (place : Place) → Owes q own place → PlaceFits holds s place → q < z.procs
      → Turn z words homes homes (sem_at z q) (found_at (sem_at z q) + 1) (at place) (stance own (posted (surplus_posted place s) place) (surplus_posted place s) poked downed)
  post_turned holds q (GivingBack ∷ r) ok fits inside = gives_back q inside ok refl refl refl fits.0 (resumed_idle own (s - 1) poked downed r fits.1)
  post_turned holds q (Posting (u ∷ us) ∷ r) ok fits inside = posts u us (subst (λ (n : ℕ). n < z.procs) (sym ok) inside) (ap (sem_at z) (sym ok)) refl refl refl refl (told own s poked downed us r fits.1)
  post_turned holds q place ok fits inside = absurd ok

  -- the own semaphore is looked at
  pub look_turned : (b : Option Call) (place : Place) → MayLook b place → Turn z words homes homes (sem_at z p) (found_at (sem_at z p)) (at place) (at (looked (eqb (found_at (sem_at z p)) 0) place))
  look_turned b place ok = let n : ℕ = found_at (sem_at z p) in dite (ℕ_discrete n 0)
      (λ none. subst (λ (c : Bool). Turn z words homes homes (sem_at z p) n (at place) (at (looked c place))) (sym (eq-eqb n 0 none)) (stays (reads refl) refl (slept b place ok)))
      (λ some. subst (λ (c : Bool). Turn z words homes homes (sem_at z p) n (at place) (at (looked c place))) (sym (ne_eqb n 0 some)) (sees p below mine refl refl some refl (awake b place ok).0 (awake b place ok).1))
    where
      slept : (b : Option Call) (q : Place) → MayLook b q → at (looked true q) ≡ at q
      slept (Some c) [] e = refl
      slept None (Looking ∷ q) e = refl
      slept None (Asleep ∷ q) e = refl
      slept b q e = absurd e

      awake : (b : Option Call) (q : Place) → MayLook b q → ((at q).downing ≡ false) × (at (looked false q) ≡ record (at q) { downing = true })
      awake (Some c) [] e = (refl, refl)
      awake None (Looking ∷ q) e = (refl, refl)
      awake None (Asleep ∷ q) e = (refl, refl)
      awake b q e = absurd e

  -- it is taken down
  pub down_turned : (holds : List Hold) (q : Place) → FollowsDown holds s q
      → Turn z words homes homes (sem_at z p) (found_at (sem_at z p) - 1) (at (Downing ∷ q)) (stance own q s poked (downed_at q (Some p) downed))
  down_turned holds [] fits = calls_down p below mine refl refl refl refl refl refl
  down_turned holds (Sleeping l w true ∷ q) fits = sleeps_down p below mine refl refl refl refl refl refl
  down_turned holds (Sleeping l w false ∷ q) fits = sleeps_down p below mine refl refl refl refl refl refl
  down_turned holds q fits = absurd fits

  -- RELEASE_OK is set
  pub answer_turned : (holds : List Hold) (l : ℕ) (place : Place) → MayAnswer l place → PlaceFits holds s place → l < z.locks
      → Turn z words homes homes (state_at l) (set_flag release_ok (found_at (state_at l))) (at place) (at (answered place))
  answer_turned holds l (Answering k w ∷ Looking ∷ Sleeping j u true ∷ q) ok fits inside = answers l inside refl refl refl refl (λ i e. sym (due_is k i w e) ∙ ok) refl
  answer_turned holds l (Woken k m ∷ q) ok fits inside = answers l inside refl refl refl refl (λ i e. ap number_of (sym e) ∙ ok) refl
  answer_turned holds l (Allowing k ∷ Peeking j old ∷ VarQueued i older ∷ q) ok fits inside = allows l inside refl refl refl (ap (λ (x : ℕ). entry_of x want.UntilFree) ok) (λ x. record (at (Peeking j old ∷ VarQueued i older ∷ q)) { queued = entry_of (fits.2 x) want.UntilFree })
  answer_turned holds l (Answering k w ∷ q) ok fits inside = absurd fits
  answer_turned holds l (Allowing k ∷ q) ok fits inside = absurd fits
  answer_turned holds l place ok fits inside = absurd ok

-- what an attempt rests on
attempt : (v : View) → PlaceFits v.holds v.surplus v.place → (l w : ℕ) (m : Mode) → top v.place ≡ Some (Trying l m w) → FollowsAttempt l m v.surplus (outer v.place)
attempt v fits l w m is = (subst (PlaceFits v.holds v.surplus) (top_is v.place (Trying l m w) is) fits).2

-- WHAT A STEP DOES. Of a seat whose place fits, in a state whose lists are at home where LOCKED is clear
module _ (lawful : ℕ → List ℕ → Type 0) (z : Size) (words : List ℕ) (homes : Homes) (v : View) (fits : PlaceFits v.holds v.surplus v.place) (p : ℕ) (mine : v.own ≡ Some p) (below : p < z.procs)
    (home : (l : ℕ) → l < z.locks → has_flag locked (get_or words (state_at l) 0) ≡ 0 → (list : Waiters) × (get_elem? homes l ≡ maybe.some (maybe.some list)))
    (enough : (l : ℕ) (m : Mode) → l < z.locks → mode_in l v ≡ Some m → grant_of m ≤ lock_part (get_or words (state_at l) 0)) where
  -- after the step k of the backend o
  abbrev Turned : ℕ → LwStep → Type 0
  Turned o k = let i = word_of z o k in let n = get_or words i 0 in let found = home_list homes (lock_number k) in
      Turn z words homes (homes_after homes (carried k v) (act_of k n found)) i (becomes k n) (stance_of v) (stance_of (next k v n found))

  pub by_kind : (k : LwStep) → IsInRange z k → Allowed lawful k v → Turned p k
  by_kind (kind.Load l None) inside ok = stays (reads refl) refl (loaded_same v.own v.surplus v.poked v.downed v.holds l (get_or words (state_at l) 0) v.place ok fits)
  by_kind (kind.Load l (Some (call.Try k m))) inside ok = stays (reads refl) refl (begun_same v.own v.surplus v.poked v.downed v.place (λ (q : Place). Trying k m (get_or words (state_at l) 0) ∷ q) ok.1 refl)
  by_kind (kind.Load l (Some (call.Acquire k m))) inside ok = stays (reads refl) refl (begun_same v.own v.surplus v.poked v.downed v.place (λ (q : Place). Trying k m (get_or words (state_at l) 0) ∷ Unqueued k m (want_of m) false ∷ q) ok.1 refl)
  by_kind (kind.Load l (Some (call.AcquireOrWait k m))) inside ok = stays (reads refl) refl (begun_same v.own v.surplus v.poked v.downed v.place (λ (q : Place). Trying k m (get_or words (state_at l) 0) ∷ Unqueued k m want.UntilFree false ∷ q) ok.1 refl)
  by_kind (kind.Load l (Some c)) inside ok = absurd ok
  by_kind (kind.Grant l m w) inside ok = let i : ℕ = state_at l in let n : ℕ = get_or words i 0 in let k : LwStep = kind.Grant l m w in let at_top = top_is v.place (Trying l m w) ok.0 in
      on_exchange n w (λ (b : Bool). Turn z words homes homes i (cond b (w + grant_of m) n) (stance_of v) (stance_of (cond b (gripped v k l n (on_grant v.surplus (outer v.place)) (held m) (v.grants + 1)) (moved v k n (Trying l m n ∷ outer v.place)))))
      (λ hit. let same = granted_flag m n (subst (λ (x : ℕ). is_free m x ≡ true) (sym hit) ok.1) in let sum = ap (λ (x : ℕ). x + grant_of m) (sym hit) in
      stays (grants l inside.0 refl (ap (has_flag locked) sum ∙ same.0) (ap (has_flag release_ok) sum ∙ same.1) (ap (has_flag has_waiters) sum ∙ same.2)) refl
      (granted_same v.own v.surplus v.poked v.downed l w m (outer v.place) (attempt v fits l w m ok.0) ∙ ap (λ (q : Place). stance v.own q v.surplus v.poked v.downed) (sym at_top)))
      (λ miss. stays (reads refl) refl (retried_same v.own v.surplus v.poked v.downed l w n m (outer v.place) (attempt v fits l w m ok.0) ∙ ap (λ (q : Place). stance v.own q v.surplus v.poked v.downed) (sym at_top)))
  by_kind (kind.Refuse l m w) inside ok = let i : ℕ = state_at l in let n : ℕ = get_or words i 0 in let k : LwStep = kind.Refuse l m w in let at_top = top_is v.place (Trying l m w) ok.0 in
      on_exchange n w (λ (b : Bool). Turn z words homes homes i n (stance_of v) (stance_of (moved v k n (cond b (on_refusal (outer v.place)) (Trying l m n ∷ outer v.place)))))
      (λ hit. stays (reads refl) refl (refused_same v.own v.surplus v.poked v.downed l w m (outer v.place) (attempt v fits l w m ok.0) ∙ ap (λ (q : Place). stance v.own q v.surplus v.poked v.downed) (sym at_top)))
      (λ miss. stays (reads refl) refl (retried_same v.own v.surplus v.poked v.downed l w n m (outer v.place) (attempt v fits l w m ok.0) ∙ ap (λ (q : Place). stance v.own q v.surplus v.poked v.downed) (sym at_top)))
  by_kind (kind.Sub l m b) inside ok = let n : ℕ = get_or words (state_at l) 0 in let same = let_go_flag (grant_of m) n (enough l m inside.0 ok.1) in
      stays (grants l inside.0 refl same.0 same.1 same.2) refl (let_go_same v.own v.surplus v.poked v.downed b l (n - grant_of m) (releasing b v.place) (begun_release b l v fits ok.0) ∙ released_same v.own v.surplus v.poked v.downed b l v (begun_release b l v fits ok.0) ok.0)
  by_kind (kind.Peek l (Some (call.WaitForVar k old))) inside ok = stays (reads refl) refl (peeked_same v.own v.surplus v.poked v.downed k old (get_or words (state_at l) 0) v.place ok.1)
  by_kind (kind.Peek l None) inside ok = stays (reads refl) refl (looked_on_same v.own v.surplus v.poked v.downed v.holds l (get_or words (state_at l) 0) v.place ok fits)
  by_kind (kind.Peek l (Some c)) inside ok = absurd ok
  by_kind (kind.Guard l k o) inside ok = stays (guards l k inside.0 ok.0 refl) refl refl
  by_kind (kind.Lock l b) inside ok = let now = taking_fits (lawful l) b l v fits ok in let same = taking_same v.own v.surplus v.poked v.downed (lawful l) b l v v.place refl ok in let q : Place = taking b v.place in let i : ℕ = state_at l in let n : ℕ = get_or words i 0 in let found : List Waiter = home_list homes l in
      dite (ℕ_discrete (has_flag locked n) 0)
      (λ clear. let there = home l inside.0 clear in
      subst (λ (c : Bool). Turn z words homes (homes_after homes (carried (kind.Lock l b) v) (cond c (takes_out l (as_waiters found)) keeps)) i (set_flag locked n) (stance_of v) (stance_of (moved v (kind.Lock l b) n (cond c (in_hand found (outer q)) (Spinning l ∷ outer q))))) (sym (eq-eqb (has_flag locked n) 0 clear))
      (subst (λ (u : Stance). Turn z words homes (set homes l maybe.none) i (set_flag locked n) u (stance v.own (in_hand found (outer q)) v.surplus v.poked v.downed)) same (lock_turned z words homes v.own v.surplus v.poked v.downed p mine below v.holds l q now.0 now.1 inside.0 there.0 there.1 clear)))
      (λ there. subst (λ (c : Bool). Turn z words homes (homes_after homes (carried (kind.Lock l b) v) (cond c (takes_out l (as_waiters found)) keeps)) i (set_flag locked n) (stance_of v) (stance_of (moved v (kind.Lock l b) n (cond c (in_hand found (outer q)) (Spinning l ∷ outer q))))) (sym (ne_eqb (has_flag locked n) 0 there))
      (subst (λ (u : Stance). Turn z words homes homes i (set_flag locked n) u (stance v.own (Spinning l ∷ outer q) v.surplus v.poked v.downed)) same (spin_turned z words homes v.own v.surplus v.poked v.downed p mine below v.holds l q now.0 now.1 inside.0 (omega arith))))
  by_kind (kind.VarLoad l) inside ok = stays (reads refl) refl (compared_same v.own v.surplus v.poked v.downed v.holds l (get_or words (var_at l) 0) v.place ok fits)
  by_kind (kind.VarStore l x) inside ok = stays (varies l inside.0 refl) refl (published_same v.own v.surplus v.poked v.downed l x v.place ok)
  by_kind (kind.Unlock l c) inside ok = let num = ap number_of mine in
      subst (λ (o : ℕ). Turn z words homes (set homes l (maybe.some (as_waiters (left_at v.place o)))) (state_at l) (becomes (kind.Unlock l c) (get_or words (state_at l) 0)) (stance_of v) (stance_of (next (kind.Unlock l c) v (get_or words (state_at l) 0) (home_list homes l)))) (sym num)
      (unlock_turned z words homes v.own v.surplus v.poked v.downed p mine below v.holds l c v.place (subst (λ (o : ℕ). MaySendHome l c o v.place) num ok) fits inside.0)
  by_kind (kind.Flag l) inside ok = flag_turned z words homes v.own v.surplus v.poked v.downed p mine below l v.place ok inside.0
  by_kind (kind.WaitStore q x) inside ok = store_turned z words homes v.own v.surplus v.poked v.downed p mine below v.holds q x v.place ok fits inside.1
  by_kind kind.WaitLoad inside ok = reread_turned z words homes v.own v.surplus v.poked v.downed p mine below v.holds v.place ok fits
  by_kind (kind.Wake l w to) inside ok = let i : ℕ = state_at l in let n : ℕ = get_or words i 0 in
      on_exchange n w (λ (b : Bool). Turn z words homes (homes_after homes (carried (kind.Wake l w to) v) (cond b gives keeps)) i (cond b to n) (stance_of v) (stance_of (moved v (kind.Wake l w to) n (detached b n v.place))))
      (λ hit. subst (λ (o : ℕ). Turn z words homes (set homes l (maybe.some (as_waiters (left_at v.place o)))) i to (stance_of v) (stance_of (moved v (kind.Wake l w to) n (detached true n v.place)))) (sym (ap number_of mine))
      (wake_turned z words homes v.own v.surplus v.poked v.downed p mine below v.holds l w to v.place ok fits inside.0 hit))
      (λ miss. stays (reads refl) refl (wake_retried z words homes v.own v.surplus v.poked v.downed p mine below l w to n v.place ok))
  by_kind (kind.Post q None) inside ok = post_turned z words homes v.own v.surplus v.poked v.downed p mine below v.holds q v.place ok fits inside.1
  by_kind (kind.Post q (Some (call.Poke i))) inside ok = Rattle.lw_core.proofs.Turns.pokes q inside.1 refl refl refl (poked_same ok.0 ok.1)
    where
      poked_same : i ≡ q → v.place ≡ [] → stance v.own (posted (surplus_posted v.place v.surplus) v.place) (surplus_posted v.place v.surplus) (v.poked ++ i ∷ []) v.downed ≡ record (stance_of v) { poked = v.poked ++ q ∷ [] }
      poked_same is e = ap (λ (r : Place). stance v.own (posted (surplus_posted r v.surplus) r) (surplus_posted r v.surplus) (v.poked ++ i ∷ []) v.downed) e
          ∙ ((λ j. stance v.own (sym e j) v.surplus (v.poked ++ is j ∷ []) v.downed))
  by_kind (kind.Post q (Some c)) inside ok = absurd ok
  by_kind (kind.Look b) inside ok = look_turned z words homes v.own v.surplus v.poked v.downed p mine below b v.place ok
  by_kind kind.Down inside ok = let at_top = top_is v.place Downing ok in let behind = subst (PlaceFits v.holds v.surplus) at_top fits in
      subst (λ (o : Option ℕ). Turn z words homes homes (sem_at z p) (get_or words (sem_at z p) 0 - 1) (stance_of v) (stance v.own (outer v.place) v.surplus v.poked (downed_at (outer v.place) o v.downed))) (sym mine)
      (subst (λ (q : Place). Turn z words homes homes (sem_at z p) (get_or words (sem_at z p) 0 - 1) (stance v.own q v.surplus v.poked v.downed) (stance v.own (outer v.place) v.surplus v.poked (downed_at (outer v.place) (Some p) v.downed))) (sym at_top)
      (down_turned z words homes v.own v.surplus v.poked v.downed p mine below v.holds (outer v.place) behind))
  by_kind (kind.SetReleaseOk l) inside ok = answer_turned z words homes v.own v.surplus v.poked v.downed p mine below v.holds l v.place ok fits inside.0

-- THE LIST IN HAND. The lock of a stance's list in hand
abbrev lock_held : Stance → Option ℕ
lock_held u = lock_in_hand u.hand

-- who may take a list has none in hand
pub takes_none : (l : ℕ) (p : Place) → MayTake l p → lock_in_hand (hand_at p) ≡ None
takes_none l (TakingList k ∷ Queueing j w ∷ p) ok = refl
takes_none l (TakingList k ∷ Dequeueing j w ∷ p) ok = refl
takes_none l (TakingList k ∷ Waking j updated ∷ p) ok = refl
takes_none l (TakingList k ∷ Comparing j old ∷ p) ok = refl
takes_none l (TakingList k ∷ Storing j x b ∷ p) ok = refl
takes_none l p ok = absurd ok

-- who sends a list home has it in hand
pub sending_at : (l j own : ℕ) (clears : Bool) (p : Place) → j ≡ l → MaySendHome j clears own p → lock_in_hand (hand_at p) ≡ Some l
sending_at l j own clears (Appending k w found ∷ p) same ok = ap Some (ok.0 ∙ same)
sending_at l j own clears (Removing k w found here ∷ p) same ok = ap Some (ok.0 ∙ same)
sending_at l j own clears (Returning k old found n ∷ p) same ok = ap Some (ok.0 ∙ same)
sending_at l j own clears (Calling k found marked [] ∷ p) same ok = ap Some (ok.0 ∙ same)
sending_at l j own clears (Unhanding k found ∷ p) same ok = ap Some (ok.0 ∙ same)
sending_at l j own clears p same ok = absurd ok

pub detaching_at : (l j w to : ℕ) (p : Place) → j ≡ l → MayDetach j w to p → lock_in_hand (hand_at p) ≡ Some l
detaching_at l j w to (Detaching k updated found word ∷ p) same ok = ap Some (ok.0 ∙ same)
detaching_at l j w to p same ok = absurd ok

module _ (own : Option ℕ) (s : ℕ) (poked downed : List ℕ) where
  hand_unlocked : (holds : List Hold) (l o : ℕ) (c : Bool) (p : Place) → MaySendHome l c o p → PlaceFits holds s p → lock_in_hand (hand_at (sent_home s p)) ≡ None
  hand_unlocked holds l o c (Appending k w found ∷ Attempting a m ∷ Queued b n u ∷ q) ok fits = refl
  hand_unlocked holds l o c (Removing k w found true ∷ q) ok fits = refl
  hand_unlocked holds l o c (Removing k w found false ∷ q) ok fits = refl
  hand_unlocked holds l o c (Appending k w found ∷ Allowing a ∷ Peeking b old ∷ VarQueued i older ∷ q) ok fits = refl
  hand_unlocked holds l o c (Appending k w found ∷ q) ok fits = absurd fits.1
  hand_unlocked holds l o c (Returning k old found n ∷ q) ok fits = returned (eqb n old) q fits.1
    where
      returned : (b : Bool) (q : Place) → FollowsLook k old q → lock_in_hand (hand_at (cond b (on_conflict q) (on_outcome true s q))) ≡ None
      returned true (VarUnqueued j older ∷ r) e = refl
      returned true (VarQueued j older ∷ r) e = refl
      returned false (VarUnqueued j older ∷ r) e = ap lock_held (resumed_idle own s poked downed r e.2)
      returned false (VarQueued j older ∷ r) e = refl
      returned b r e = absurd e
  hand_unlocked holds l o c (Calling k found marked [] ∷ q) ok fits = ap lock_held (told own s poked downed marked q fits.3)
  hand_unlocked holds l o c (Unhanding k found ∷ q) ok fits = refl
  hand_unlocked holds l o c p ok fits = absurd ok

  hand_flagged : (l : ℕ) (p : Place) → MayFlag l p → lock_in_hand (hand_at (flagged p)) ≡ lock_in_hand (hand_at p)
  hand_flagged l (Flagging k w found ∷ q) ok = refl
  hand_flagged l p ok = absurd ok

  hand_stored : (holds : List Hold) (q x : ℕ) (p : Place) → MayStore q x own p → PlaceFits holds s p → lock_in_hand (hand_at (stored s p)) ≡ lock_in_hand (hand_at p)
  hand_stored holds q x (Announcing l w found ∷ r) ok fits = refl
  hand_stored holds q x (Withdrawing ∷ r) ok fits = ap lock_held (left_idle own s poked downed want.UntilFree r fits)
  hand_stored holds q x (Marking l updated found marked (u ∷ us) ∷ r) ok fits = refl
  hand_stored holds q x (Calling l found marked (u ∷ us) ∷ r) ok fits = refl
  hand_stored holds q x (Clearing (u ∷ us) ∷ r) ok fits = refl
  hand_stored holds q x p ok fits = absurd ok

  hand_reread : (holds : List Hold) (n : ℕ) (p : Place) → MayReread p → PlaceFits holds s p → lock_in_hand (hand_at (reread s n p)) ≡ lock_in_hand (hand_at p)
  hand_reread holds n (Checking l w found ∷ r) ok fits = refl
  hand_reread holds n (Sleeping l w a ∷ r) ok fits = by_field (eqb n 0)
    where
      slept : (b : Bool) (q : Place) → FollowsSleep holds l w b q → lock_in_hand (hand_at (resumed s q)) ≡ None
      slept false (Woken k m ∷ q) e = refl
      slept false (GivingBack ∷ q) e = ap lock_held (resumed_idle own s poked downed q e.1)
      slept false (Peeking k old ∷ VarUnqueued j older ∷ q) e = refl
      slept true (GivingBack ∷ q) e = ap lock_held (resumed_idle own s poked downed q e)
      slept true (VarLeaving old c ∷ q) e = ap lock_held (resumed_idle own s poked downed q e.1)
      slept b q e = absurd e

      by_field : (b : Bool) → lock_in_hand (hand_at (cond b (resumed s r) (Looking ∷ Sleeping l w a ∷ r))) ≡ None
      by_field true = slept a r fits
      by_field false = refl
  hand_reread holds n p ok fits = absurd ok

  hand_detached : (holds : List Hold) (l w to n : ℕ) (p : Place) → MayDetach l w to p → PlaceFits holds s p → (hit : Bool) → lock_in_hand (hand_at (detached hit n p)) ≡ cond hit None (lock_in_hand (hand_at p))
  hand_detached holds l w to n (Detaching k updated found word ∷ r) ok fits true = ap lock_held (told own s poked downed (taken_from found) r fits.2)
  hand_detached holds l w to n (Detaching k updated found word ∷ r) ok fits false = refl
  hand_detached holds l w to n p ok fits hit = absurd ok

  hand_posted : (holds : List Hold) (q : ℕ) (p : Place) → Owes q own p → PlaceFits holds s p → lock_in_hand (hand_at (posted (surplus_posted p s) p)) ≡ lock_in_hand (hand_at p)
  hand_posted holds q (GivingBack ∷ r) ok fits = ap lock_held (resumed_idle own (s - 1) poked downed r fits.1)
  hand_posted holds q (Posting (u ∷ us) ∷ r) ok fits = ap lock_held (told own s poked downed us r fits.1)
  hand_posted holds q p ok fits = absurd ok

  hand_looked : (b : Option Call) (p : Place) → MayLook b p → (is_zero : Bool) → lock_in_hand (hand_at (looked is_zero p)) ≡ lock_in_hand (hand_at p)
  hand_looked (Some c) [] ok true = refl
  hand_looked (Some c) [] ok false = refl
  hand_looked None (Looking ∷ q) ok true = refl
  hand_looked None (Looking ∷ q) ok false = refl
  hand_looked None (Asleep ∷ q) ok true = refl
  hand_looked None (Asleep ∷ q) ok false = refl
  hand_looked b p ok is_zero = absurd ok

  hand_down : (holds : List Hold) (q : Place) → FollowsDown holds s q → lock_in_hand (hand_at q) ≡ None
  hand_down holds [] fits = refl
  hand_down holds (Sleeping l w a ∷ q) fits = refl
  hand_down holds q fits = absurd fits

  hand_answered : (holds : List Hold) (l : ℕ) (p : Place) → MayAnswer l p → PlaceFits holds s p → lock_in_hand (hand_at (answered p)) ≡ lock_in_hand (hand_at p)
  hand_answered holds l (Answering k w ∷ Looking ∷ Sleeping j u true ∷ q) ok fits = refl
  hand_answered holds l (Woken k m ∷ q) ok fits = refl
  hand_answered holds l (Allowing k ∷ Peeking j old ∷ VarQueued i older ∷ q) ok fits = refl
  hand_answered holds l (Answering k w ∷ q) ok fits = absurd fits
  hand_answered holds l (Allowing k ∷ q) ok fits = absurd fits
  hand_answered holds l p ok fits = absurd ok

module _ (lawful : ℕ → List ℕ → Type 0) (z : Size) (v : View) (fits : PlaceFits v.holds v.surplus v.place) where
  abbrev standing : Place → Stance
  standing q = stance v.own q v.surplus v.poked v.downed

  -- a step takes the list of its lock in hand, sends the list in hand home, or leaves in hand what was
  pub hand_follows : (k : LwStep) (n : ℕ) (found : List Waiter) → Allowed lawful k v → HandFollows k v n found
  hand_follows (kind.Load l None) n found ok = ap lock_held (loaded_same v.own v.surplus v.poked v.downed v.holds l n v.place ok fits)
  hand_follows (kind.Load l (Some (call.Try k m))) n found ok = ap lock_held (begun_same v.own v.surplus v.poked v.downed v.place (λ (q : Place). Trying k m n ∷ q) ok.1 refl)
  hand_follows (kind.Load l (Some (call.Acquire k m))) n found ok = ap lock_held (begun_same v.own v.surplus v.poked v.downed v.place (λ (q : Place). Trying k m n ∷ Unqueued k m (want_of m) false ∷ q) ok.1 refl)
  hand_follows (kind.Load l (Some (call.AcquireOrWait k m))) n found ok = ap lock_held (begun_same v.own v.surplus v.poked v.downed v.place (λ (q : Place). Trying k m n ∷ Unqueued k m want.UntilFree false ∷ q) ok.1 refl)
  hand_follows (kind.Load l (Some c)) n found ok = absurd ok
  hand_follows (kind.Grant l m w) n found ok = let k : LwStep = kind.Grant l m w in let at_top = ap (λ (q : Place). lock_held (standing q)) (sym (top_is v.place (Trying l m w) ok.0)) in
      on_exchange n w (λ (b : Bool). lock_in_hand (hand_at (cond b (gripped v k l n (on_grant v.surplus (outer v.place)) (held m) (v.grants + 1)) (moved v k n (Trying l m n ∷ outer v.place))).place) ≡ lock_in_hand (hand_at v.place))
      (λ _. ap lock_held (granted_same v.own v.surplus v.poked v.downed l w m (outer v.place) (attempt v fits l w m ok.0)) ∙ at_top)
      (λ _. ap lock_held (retried_same v.own v.surplus v.poked v.downed l w n m (outer v.place) (attempt v fits l w m ok.0)) ∙ at_top)
  hand_follows (kind.Refuse l m w) n found ok = let at_top = ap (λ (q : Place). lock_held (standing q)) (sym (top_is v.place (Trying l m w) ok.0)) in
      on_exchange n w (λ (b : Bool). lock_in_hand (hand_at (cond b (on_refusal (outer v.place)) (Trying l m n ∷ outer v.place))) ≡ lock_in_hand (hand_at v.place))
      (λ _. ap lock_held (refused_same v.own v.surplus v.poked v.downed l w m (outer v.place) (attempt v fits l w m ok.0)) ∙ at_top)
      (λ _. ap lock_held (retried_same v.own v.surplus v.poked v.downed l w n m (outer v.place) (attempt v fits l w m ok.0)) ∙ at_top)
  hand_follows (kind.Sub l m b) n found ok = ap lock_held (let_go_same v.own v.surplus v.poked v.downed b l (n - grant_of m) (releasing b v.place) (begun_release b l v fits ok.0) ∙ released_same v.own v.surplus v.poked v.downed b l v (begun_release b l v fits ok.0) ok.0)
  hand_follows (kind.Peek l (Some (call.WaitForVar k old))) n found ok = ap lock_held (peeked_same v.own v.surplus v.poked v.downed k old n v.place ok.1)
  hand_follows (kind.Peek l None) n found ok = ap lock_held (looked_on_same v.own v.surplus v.poked v.downed v.holds l n v.place ok fits)
  hand_follows (kind.Peek l (Some c)) n found ok = absurd ok
  hand_follows (kind.Guard l k o) n found ok = refl
  hand_follows (kind.Lock l b) n found ok = let now = taking_fits (lawful l) b l v fits ok in let same = ap lock_held (taking_same v.own v.surplus v.poked v.downed (lawful l) b l v v.place refl ok) in
      subst (λ (o : Option ℕ). lock_in_hand (hand_at (cond (eqb (has_flag locked n) 0) (in_hand found (outer (taking b v.place))) (Spinning l ∷ outer (taking b v.place)))) ≡ cond (eqb (has_flag locked n) 0) (Some l) o) same (by_place (taking b v.place) now.0 now.1 (eqb (has_flag locked n) 0))
    where
      by_place : (q : Place) → MayTake l q → PlaceFits v.holds v.surplus q → (b : Bool) → lock_in_hand (hand_at (cond b (in_hand found (outer q)) (Spinning l ∷ outer q))) ≡ cond b (Some l) (lock_in_hand (hand_at q))
      by_place (f ∷ q) may at_home true = ap lock_held (taken_hand v.own v.surplus v.poked v.downed v.holds l f found q may at_home)
      by_place (f ∷ q) may at_home false = ap lock_held (spun_same v.own v.surplus v.poked v.downed v.holds l f q may at_home)
      by_place [] may at_home b = absurd may
  hand_follows (kind.VarLoad l) n found ok = ap lock_held (compared_same v.own v.surplus v.poked v.downed v.holds l n v.place ok fits)
  hand_follows (kind.VarStore l x) n found ok = ap lock_held (published_same v.own v.surplus v.poked v.downed l x v.place ok)
  hand_follows (kind.Unlock l c) n found ok = hand_unlocked v.own v.surplus v.poked v.downed v.holds l (number_of v.own) c v.place ok fits
  hand_follows (kind.Flag l) n found ok = hand_flagged v.own v.surplus v.poked v.downed l v.place ok
  hand_follows (kind.WaitStore q x) n found ok = hand_stored v.own v.surplus v.poked v.downed v.holds q x v.place ok fits
  hand_follows kind.WaitLoad n found ok = hand_reread v.own v.surplus v.poked v.downed v.holds n v.place ok fits
  hand_follows (kind.Wake l w to) n found ok = hand_detached v.own v.surplus v.poked v.downed v.holds l w to n v.place ok fits (eqb n w)
  hand_follows (kind.Post q None) n found ok = hand_posted v.own v.surplus v.poked v.downed v.holds q v.place ok fits
  hand_follows (kind.Post q (Some (call.Poke i))) n found ok = ap (λ (r : Place). lock_in_hand (hand_at (posted (surplus_posted r v.surplus) r))) ok.1 ∙ ap (λ (r : Place). lock_in_hand (hand_at r)) (sym ok.1)
  hand_follows (kind.Post q (Some c)) n found ok = absurd ok
  hand_follows (kind.Look b) n found ok = hand_looked v.own v.surplus v.poked v.downed b v.place ok (eqb n 0)
  hand_follows kind.Down n found ok = let at_top = top_is v.place Downing ok in hand_down v.own v.surplus v.poked v.downed v.holds (outer v.place) (subst (PlaceFits v.holds v.surplus) at_top fits) ∙ ap (λ (q : Place). lock_in_hand (hand_at q)) (sym at_top)
  hand_follows (kind.SetReleaseOk l) n found ok = hand_answered v.own v.surplus v.poked v.downed v.holds l v.place ok fits
