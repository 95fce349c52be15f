-- The machine allows the step that a place of a script names.
use Rattle.std.proofs.Common.{◌≡◌, ◌∙◌, ℕ, ◌-◌, ◌<◌, nat_lt, eqb, Bool, true, false, cond, is_none, is_some, List, [], ◌∷◌, ◌++◌, Option, None, Some, refl, sym, ap, subst, arith}
use Rattle.std.specs.Prelude.{IsSome, ⊤}
use Rattle.std.proofs.lemmas.Bool.Decides.{nat_tests}
use Rattle.proc_table.specs.declared.Mode.{Mode}
use Rattle.proc_table.specs.declared.Mode.TheVariants.{Shared, Exclusive}
use Rattle.lw_core.specs.declared.step.Call.TheVariants as call
use Rattle.lw_core.specs.declared.step.LwStep.{LwStep}
use Rattle.lw_core.specs.declared.step.LwStep.TheVariants as kind
use Rattle.lw_core.specs.declared.view.Frame.TheVariants.{Attempting, Trying, Unqueued, Queued, TakingList, Spinning, Queueing, Flagging, Announcing, Appending, Dequeueing, Checking, Removing, Withdrawing, Answering, Looking, Asleep, Downing, Sleeping, Woken, GivingBack, Waking, Marking, Detaching, Clearing, Posting, Peeking, Comparing, Reading, Returning, VarUnqueued, Allowing, VarQueued, VarLeaving, Storing, Publishing, Calling, Unhanding, Releasing}
use Rattle.lw_core.specs.declared.view.Size.{Size}
use Rattle.lw_core.specs.declared.view.View.{View}
use Rattle.lw_core.specs.declared.view.Waiter.{Waiter}
use Rattle.lw_core.specs.declared.view.Want.{Want}
use Rattle.lw_core.specs.Words.{grant_of, has_flag, is_free, locked}
use Rattle.lw_core.specs.WaitLists.{AllBelow, is_empty, taken_from, until_free_from}
use Rattle.lw_core.specs.Machine.{Allowed, IsInRange, Place, calls_for_wake, in_hand, left_at, mode_in, next, number_of, on_conflict, on_grant, on_outcome, on_refusal, resumed, telling}
use Rattle.lw_core.specs.SeatFits.{FollowsAttempt, FollowsDown, FollowsLeaving, FollowsLook, FollowsQueueing, FollowsSleep, FollowsTaking, PlaceFits}
use Rattle.lw_core.specs.FramesStand.{AllStand}
use Rattle.lw_core.proofs.Below.{behind_below, taken_below, until_free_below}
use Rattle.lock_script.specs.declared.locks.Ask.{Ask}
use Rattle.lock_script.specs.declared.locks.Ask.TheVariants.{Begin, Read, Write}
use Rattle.lock_script.specs.Locks.{ask_lock, first_step, is_exclusive, may_begin, mode_held, poke_limit, step_at, still}
use Rattle.lock_script.specs.LockSketch.{AskFits}
use Rattle.lock_script.specs.Passed.{anything}

-- A CALL that is begun is on a lock of the table, and its condition holds. Who will let go of a lock after a store lets go of that of the call
abbrev pub CallSuits : Size → Ask → View → Type 0
CallSuits z a v = AskFits z a × (may_begin a (mode_in (ask_lock a) v) v.pokes ≡ true)

abbrev pub StoresAt : ℕ → Place → Type 0
StoresAt l (Storing k x releases ∷ q) = k ≡ l
StoresAt l q = ⊤

abbrev pub LetsGoOf : ℕ → Place → Type 0
LetsGoOf l (TakingList k ∷ q) = StoresAt l q
LetsGoOf l (Spinning k ∷ q) = StoresAt l q
LetsGoOf l (Publishing k x found releases ∷ q) = k ≡ l
LetsGoOf l (Unhanding k found ∷ q) = k ≡ l
LetsGoOf l (Releasing k ∷ q) = k ≡ l
LetsGoOf l q = ⊤

-- who is in no call has nothing to do
abbrev pub AskSuits : Size → Option Ask → View → Place → Type 0
AskSuits z None v [] = ⊤
AskSuits z None v (f ∷ q) = ⊥
AskSuits z (Some a) v [] = CallSuits z a v
AskSuits z (Some a) v (f ∷ q) = LetsGoOf (ask_lock a) (f ∷ q)

-- MODES by the tests of them
no_mode : (o : Option Mode) → is_none o ≡ true → o ≡ None
no_mode None e = refl
no_mode (Some m) e = absurd cc

some_mode : (o : Option Mode) → is_some o ≡ true → o ≡ Some (mode_held o)
some_mode None e = absurd cc
some_mode (Some m) e = refl

has_mode : (o : Option Mode) → is_some o ≡ true → IsSome o
has_mode None e = absurd cc
has_mode (Some m) e = cc

alone_mode : (o : Option Mode) → is_exclusive o ≡ true → o ≡ Some Exclusive
alone_mode None e = absurd cc
alone_mode (Some Shared) e = absurd cc
alone_mode (Some Exclusive) e = refl

module _ (z : Size) (p : ℕ) (below : p < z.procs) (v : View) (own : v.own ≡ Some p) where
  -- the step is one of the table's, and allowed at the place q
  abbrev May : LwStep → Place → Type 0
  May k q = IsInRange z k × Allowed anything k record v { place = q }

  abbrev mode_of : Ask → Mode
  mode_of a = mode_held (mode_in (ask_lock a) v)

  -- the first step of a call that suits
  begins : (a : Ask) → CallSuits z a v → May (first_step a (mode_of a)) []
  begins (Begin (call.Try l m)) h = ((h.0.0, tt), (refl, refl, no_mode (mode_in l v) h.1))
  begins (Begin (call.Acquire l m)) h = ((h.0.0, tt), (refl, refl, no_mode (mode_in l v) h.1))
  begins (Begin (call.AcquireOrWait l m)) h = ((h.0.0, tt), (refl, refl, no_mode (mode_in l v) h.1))
  begins (Begin (call.Release l)) h = ((h.0.0, tt), ((refl, refl), some_mode (mode_in l v) h.1, λ _ _ _. tt))
  begins (Begin (call.WaitForVar l old)) h = ((h.0.0, tt), (refl, refl, no_mode (mode_in l v) h.1))
  begins (Begin (call.UpdateVar l x)) h = ((h.0.0, tt), (refl, refl, alone_mode (mode_in l v) h.1))
  begins (Begin (call.ReleaseClearVar l x)) h = ((h.0.0, tt), (refl, refl, alone_mode (mode_in l v) h.1, λ _ _ _. tt))
  begins (Begin call.Down) h = ((tt, tt), refl)
  begins (Begin (call.Poke q)) h = ((tt, h.0.1), (refl, refl, few))
    where
      few : v.pokes < 1048576
      few = let e : nat_lt v.pokes poke_limit ≡ true = h.1 in grind (arith, nat_tests, e)
  begins (Read l k) h = ((h.0.0, tt), (h.0.1, refl, has_mode (mode_in l v) h.1))
  begins (Write l k x) h = ((h.0.0, tt), (h.0.1, refl, alone_mode (mode_in l v) h.1))

  -- who is marked next is on the list in hand
  next_below : (marked us ws : List Waiter) (u : Waiter) → marked ++ u ∷ us ≡ ws → AllBelow z.procs ws → u.proc < z.procs
  next_below marked us ws u is all = (behind_below z.procs marked (u ∷ us) (subst (AllBelow z.procs) (sym is) all)).0

  -- a list is taken for what follows
  takes : (l : ℕ) (q : Place) → FollowsTaking v.holds l v.surplus q → l < z.locks → May (kind.Lock l None) (TakingList l ∷ q)
  takes l (Queueing j w ∷ q) fits inside = ((inside, tt), refl)
  takes l (Dequeueing j w ∷ q) fits inside = ((inside, tt), refl)
  takes l (Waking j updated ∷ q) fits inside = ((inside, tt), refl)
  takes l (Comparing j old ∷ q) fits inside = ((inside, tt), refl)
  takes l (Storing j x releases ∷ q) fits inside = ((inside, tt), refl)
  takes l q fits inside = absurd fits

  -- the step at any place
  pub permits : (a : Ask) (q : Place) → PlaceFits v.holds v.surplus q → AllStand anything z v.holds q → AskSuits z (Some a) v q → May (step_at p a (mode_of a) q) q
  permits a [] fits h suits = begins a suits
  permits a (Attempting l m ∷ []) fits h suits = absurd fits
  permits a (Attempting l m ∷ f ∷ q) fits h suits = ((h.0, tt), refl)
  permits a (Trying l m w ∷ q) fits h suits = by_word (is_free m w) refl
    where
      by_word : (b : Bool) → is_free m w ≡ b → May (cond b (kind.Grant l m w) (kind.Refuse l m w)) (Trying l m w ∷ q)
      by_word true free = ((h.0, tt), (refl, free))
      by_word false free = ((h.0, tt), (refl, free))
  permits a (TakingList l ∷ q) fits h suits = takes l q fits h.0
  permits a (Spinning l ∷ q) fits h suits = ((h.0, tt), refl)
  permits a (Flagging l w found ∷ q) fits h suits = ((h.0, tt), refl)
  permits a (Announcing l w found ∷ q) fits h suits = ((tt, below), (own, refl))
  permits a (Appending l w found ∷ q) fits h suits = ((h.0, tt), (refl, refl))
  permits a (Checking l w found ∷ q) fits h suits = ((tt, tt), tt)
  permits a (Removing l w found true ∷ q) fits h suits = ((h.0, tt), (refl, ap (λ (o : Option ℕ). is_empty (left_at (Removing l w found true ∷ q) (number_of o))) (sym own)))
  permits a (Removing l w found false ∷ q) fits h suits = ((h.0, tt), (refl, refl))
  permits a (Withdrawing ∷ q) fits h suits = ((tt, below), (own, refl))
  permits a (Answering l w ∷ q) fits h suits = ((h.0, tt), refl)
  permits a (Looking ∷ q) fits h suits = ((tt, tt), tt)
  permits a (Asleep ∷ q) fits h suits = ((tt, tt), tt)
  permits a (Downing ∷ q) fits h suits = ((tt, tt), refl)
  permits a (Sleeping l w answered ∷ q) fits h suits = ((tt, tt), tt)
  permits a (Woken l m ∷ q) fits h suits = ((h.0, tt), refl)
  permits a (GivingBack ∷ q) fits h suits = ((tt, below), own)
  permits a (Marking l updated found marked [] ∷ q) fits h suits = ((h.0.0, tt), refl)
  permits a (Marking l updated found marked (u ∷ us) ∷ q) fits h suits = ((tt, next_below marked us (taken_from found) u fits.0 (taken_below z.procs false found h.0.1)), (refl, refl))
  permits a (Detaching l updated found w ∷ q) fits h suits = ((h.0.0, tt), (refl, refl, refl))
  permits a (Clearing (u ∷ us) ∷ q) fits h suits = ((tt, h.0.0), (refl, refl))
  permits a (Posting (u ∷ us) ∷ q) fits h suits = ((tt, h.0.0), refl)
  permits a (Peeking l old ∷ q) fits h suits = ((h.0, tt), refl)
  permits a (Reading l old found ∷ q) fits h suits = ((h.0, tt), refl)
  permits a (Returning l old found n ∷ q) fits h suits = ((h.0, tt), (refl, refl))
  permits a (Allowing l ∷ q) fits h suits = ((h.0, tt), refl)
  permits a (Publishing l x found releases ∷ q) fits h suits = ((h.0.0, tt), (refl, refl))
  permits a (Calling l found marked [] ∷ q) fits h suits = ((h.0.0, tt), (refl, refl))
  permits a (Calling l found marked (u ∷ us) ∷ q) fits h suits = ((tt, next_below marked us (until_free_from found) u fits.0 (until_free_below z.procs found h.0.1)), (refl, refl))
  permits a (Unhanding l found ∷ q) fits h suits = ((h.0.0, tt), (refl, refl))
  permits a (Releasing l ∷ q) fits h suits =
      let same : mode_of a ≡ Exclusive = ap (λ (j : ℕ). mode_held (mode_in j v)) (sym suits) ∙ ap mode_held fits.0 in
      ((h.0.0, tt), (refl, fits.0 ∙ ap Some (sym same), λ _ _ _. tt))
  permits a q fits h suits = absurd fits

-- THE NEXT PLACE lets go of the call's lock, too: what stands behind a frame never lets go of one
module _ (i : ℕ) where
  go_cond : (b : Bool) (q r : Place) → LetsGoOf i q → LetsGoOf i r → LetsGoOf i (cond b q r)
  go_cond true q r h k = h
  go_cond false q r h k = k

  view_cond : (b : Bool) (u w : View) → LetsGoOf i u.place → LetsGoOf i w.place → LetsGoOf i (cond b u w).place
  view_cond true u w h k = h
  view_cond false u w h k = k

  nothing : (q : Place) → q ≡ [] → LetsGoOf i q
  nothing q e = subst (LetsGoOf i) (sym e) tt

  back : (s : ℕ) (q : Place) → q ≡ [] → LetsGoOf i (resumed s (GivingBack ∷ q))
  back s q e = go_cond (eqb s 0) q (GivingBack ∷ q) (nothing q e) tt

  -- behind an attempt that was granted, and one that was refused
  granted : (l s r : ℕ) (m : Mode) (q : Place) → FollowsAttempt l m s q → LetsGoOf i (on_grant r q)
  granted l s r m [] f = tt
  granted l s r m (Unqueued k n w slept ∷ q) f = back r q f.3
  granted l s r m (Queued k n w ∷ q) f = tt
  granted l s r m q f = absurd f

  refused : (l s : ℕ) (m : Mode) (q : Place) → FollowsAttempt l m s q → LetsGoOf i (on_refusal q)
  refused l s m [] f = tt
  refused l s m (Unqueued k n w slept ∷ q) f = tt
  refused l s m (Queued k n w ∷ q) f = tt
  refused l s m q f = absurd f

  -- behind queueing, and behind leaving the list
  queued : (l : ℕ) (w : Want) (q : Place) → FollowsQueueing l w q → LetsGoOf i q
  queued l w (Attempting k m ∷ q) f = tt
  queued l w (Allowing k ∷ q) f = tt
  queued l w q f = absurd f

  left : (s : ℕ) (w : Want) (q : Place) → FollowsLeaving w q → LetsGoOf i (resumed s q)
  left s w (GivingBack ∷ q) f = back s q f
  left s w (VarLeaving old conflicted ∷ q) f = back s q f.1
  left s w q f = absurd f

  -- behind those who are to be told
  told : (us : List Waiter) (q : Place) → q ≡ [] → LetsGoOf i (telling us q)
  told [] q e = nothing q e
  told (u ∷ us) q e = tt

  -- behind a look with an outcome, and one without
  outcome : (conflicted : Bool) (l old s : ℕ) (q : Place) → FollowsLook l old q → LetsGoOf i (on_outcome conflicted s q)
  outcome conflicted l old s (VarUnqueued k older ∷ q) f = back s q f.2
  outcome conflicted l old s (VarQueued k older ∷ q) f = tt
  outcome conflicted l old s q f = absurd f

  conflict : (l old : ℕ) (q : Place) → FollowsLook l old q → LetsGoOf i (on_conflict q)
  conflict l old (VarUnqueued k older ∷ q) f = tt
  conflict l old (VarQueued k older ∷ q) f = tt
  conflict l old q f = absurd f

  module _ (v : View) where
    -- the list is in hand
    handed : (l : ℕ) (found : List Waiter) (q : Place) → FollowsTaking v.holds l v.surplus q → StoresAt i q → LetsGoOf i (in_hand found q)
    handed l found (Queueing j w ∷ q) f h = tt
    handed l found (Dequeueing j w ∷ q) f h = tt
    handed l found (Waking j updated ∷ q) f h = tt
    handed l found (Comparing j old ∷ q) f h = tt
    handed l found (Storing j x releases ∷ q) f h = h
    handed l found q f h = absurd f

    -- behind the semaphore, and behind a sleep
    downed : (s : ℕ) (q : Place) → FollowsDown v.holds s q → LetsGoOf i q
    downed s [] f = tt
    downed s (Sleeping l w answered ∷ q) f = tt
    downed s q f = absurd f

    slept : (l s : ℕ) (w : Want) (answered : Bool) (q : Place) → FollowsSleep v.holds l w answered q → LetsGoOf i (resumed s q)
    slept l s w false (Woken k m ∷ q) f = tt
    slept l s w false (GivingBack ∷ q) f = back s q f.1
    slept l s w false (Peeking k old ∷ q) f = tt
    slept l s w true (GivingBack ∷ q) f = back s q f
    slept l s w true (VarLeaving old conflicted ∷ q) f = back s q f.1
    slept l s w answered q f = absurd f

module _ (p n : ℕ) (home : List Waiter) (v : View) (mode : Mode) where
  abbrev goes : LwStep → Place → Place
  goes k q = (next k record v { place = q } n home).place

  -- the place after the first step of a call
  begun : (a : Ask) → LetsGoOf (ask_lock a) (goes (first_step a mode) [])
  begun (Begin (call.Try l m)) = tt
  begun (Begin (call.Acquire l m)) = tt
  begun (Begin (call.AcquireOrWait l m)) = tt
  begun (Begin (call.Release l)) = go_cond l (calls_for_wake (n - grant_of mode)) (TakingList l ∷ Waking l false ∷ []) [] tt tt
  begun (Begin (call.WaitForVar l old)) = go_cond l (is_free Shared n) [] (TakingList l ∷ Comparing l old ∷ VarUnqueued l old ∷ []) tt tt
  begun (Begin (call.UpdateVar l x)) = go_cond l (eqb (has_flag locked n) 0) (Publishing l x home false ∷ []) (Spinning l ∷ Storing l x false ∷ []) refl refl
  begun (Begin (call.ReleaseClearVar l x)) = go_cond l (eqb (has_flag locked n) 0) (Publishing l x home true ∷ []) (Spinning l ∷ Storing l x true ∷ []) refl refl
  begun (Begin call.Down) = go_cond 0 (eqb n 0) (Asleep ∷ []) (Downing ∷ []) tt tt
  begun (Begin (call.Poke q)) = tt
  begun (Read l k) = tt
  begun (Write l k x) = tt

  -- and after a step at any place
  pub lets_go : (a : Ask) (q : Place) → PlaceFits v.holds v.surplus q → LetsGoOf (ask_lock a) q → LetsGoOf (ask_lock a) (goes (step_at p a mode q) q)
  lets_go a [] fits h = begun a
  lets_go a (Attempting l m ∷ q) fits h = tt
  lets_go a (Trying l m w ∷ q) fits h = by_word (is_free m w)
    where
      by_word : (b : Bool) → LetsGoOf (ask_lock a) (goes (cond b (kind.Grant l m w) (kind.Refuse l m w)) (Trying l m w ∷ q))
      by_word true = view_cond (ask_lock a) (eqb n w) _ _ (granted (ask_lock a) l v.surplus v.surplus m q fits.2) tt
      by_word false = go_cond (ask_lock a) (eqb n w) (on_refusal q) (Trying l m n ∷ q) (refused (ask_lock a) l v.surplus m q fits.2) tt
  lets_go a (TakingList l ∷ q) fits h = go_cond (ask_lock a) (eqb (has_flag locked n) 0) (in_hand home q) (Spinning l ∷ q) (handed (ask_lock a) v l home q fits h) h
  lets_go a (Spinning l ∷ q) fits h = go_cond (ask_lock a) (eqb (has_flag locked n) 0) (TakingList l ∷ q) (Spinning l ∷ q) h h
  lets_go a (Flagging l w found ∷ q) fits h = tt
  lets_go a (Announcing l w found ∷ q) fits h = tt
  lets_go a (Appending l w found ∷ q) fits h = queued (ask_lock a) l w q fits.1
  lets_go a (Checking l w found ∷ q) fits h = tt
  lets_go a (Removing l w found true ∷ q) fits h = tt
  lets_go a (Removing l w found false ∷ q) fits h = tt
  lets_go a (Withdrawing ∷ q) fits h = left (ask_lock a) v.surplus _ q fits
  lets_go a (Answering l w ∷ Looking ∷ q) fits h = tt
  lets_go a (Looking ∷ q) fits h = go_cond (ask_lock a) (eqb n 0) (Asleep ∷ q) (Downing ∷ q) tt tt
  lets_go a (Asleep ∷ q) fits h = go_cond (ask_lock a) (eqb n 0) (Asleep ∷ q) (Downing ∷ q) tt tt
  lets_go a (Downing ∷ q) fits h = downed (ask_lock a) v v.surplus q fits
  lets_go a (Sleeping l w answered ∷ q) fits h = go_cond (ask_lock a) (eqb n 0) (resumed v.surplus q) (Looking ∷ Sleeping l w answered ∷ q) (slept (ask_lock a) v l v.surplus w answered q fits) tt
  lets_go a (Woken l m ∷ q) fits h = tt
  lets_go a (GivingBack ∷ q) fits h = back (ask_lock a) (v.surplus - 1) q fits.1
  lets_go a (Marking l updated found marked [] ∷ q) fits h = tt
  lets_go a (Marking l updated found marked (u ∷ us) ∷ q) fits h = tt
  lets_go a (Detaching l updated found w ∷ q) fits h = go_cond (ask_lock a) (eqb n w) (telling (taken_from found) q) (Detaching l updated found n ∷ q) (told (ask_lock a) (taken_from found) q fits.2) tt
  lets_go a (Clearing (u ∷ us) ∷ q) fits h = tt
  lets_go a (Posting (u ∷ us) ∷ q) fits h = told (ask_lock a) us q fits.1
  lets_go a (Peeking l old ∷ q) fits h = go_cond (ask_lock a) (is_free Shared n) (on_outcome false v.surplus q) (TakingList l ∷ Comparing l old ∷ q) (outcome (ask_lock a) false l old v.surplus q fits.1) tt
  lets_go a (Reading l old found ∷ q) fits h = tt
  lets_go a (Returning l old found m ∷ q) fits h = go_cond (ask_lock a) (eqb m old) (on_conflict q) (on_outcome true v.surplus q) (conflict (ask_lock a) l old q fits.1) (outcome (ask_lock a) true l old v.surplus q fits.1)
  lets_go a (Allowing l ∷ Peeking k old ∷ q) fits h = tt
  lets_go a (Publishing l x found false ∷ q) fits h = tt
  lets_go a (Publishing l x found true ∷ q) fits h = h
  lets_go a (Calling l found marked [] ∷ q) fits h = told (ask_lock a) marked q fits.3
  lets_go a (Calling l found marked (u ∷ us) ∷ q) fits h = tt
  lets_go a (Unhanding l found ∷ q) fits h = h
  lets_go a (Releasing l ∷ q) fits h = go_cond (ask_lock a) (calls_for_wake (n - grant_of mode)) (TakingList l ∷ Waking l true ∷ q) q tt (nothing (ask_lock a) q fits.2)
  lets_go a q fits h = absurd fits

-- So a call that a step ends leaves its backend in none, and one that goes on suits its place
pub still_suits : (z : Size) (a : Ask) (v : View) (q : Place) → LetsGoOf (ask_lock a) q → AskSuits z (still q (Some a)) v q
still_suits z a v [] h = tt
still_suits z a v (f ∷ q) h = h

pub goes_of : (z : Size) (a : Ask) (v : View) (q : Place) → AskSuits z (Some a) v q → LetsGoOf (ask_lock a) q
goes_of z a v [] h = tt
goes_of z a v (f ∷ q) h = h

-- who is in no call may begin one
pub asked_suits : (z : Size) (a : Ask) (v : View) (q : Place) → AskSuits z None v q → CallSuits z a v → AskSuits z (Some a) v q
asked_suits z a v [] h suits = suits
asked_suits z a v (f ∷ q) h suits = absurd h
