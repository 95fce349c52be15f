-- Nobody sleeps for a change of a variable that was made already, unless somebody updates its lock: this holds at the opening, and after each kind of step and each move.
use Rattle.std.proofs.Common.{◌≡◌, ◌≢◌, ◌⊎◌, ℕ, zero, suc, ◌+◌, ◌-◌, ◌<◌, ◌≤◌, eqb, Bool, false, cond, List, [], ◌∷◌, ◌++◌, length, map, get_or, set, Option, None, Some, sym, refl, ap, ◌∙◌, subst, ⊎_elim, inl, inr, arith, get_or-set_same, get_or-set_other}
use mathlib.Core.Logic.{dite}
use mathlib.Core.Option as maybe
use native.Mathlib.Decide.{ℕ_discrete}
use lib.ListN.{get_elem?}
use Rattle.atomic_table.specs.Table.{opening, homes_after}
use Rattle.atomic_table.specs.Table as table
use Rattle.atomic_table.proofs.Lists.{at_set, at_snoc, at_longer, set_here, set_else}
use Rattle.proc_table.specs.declared.Mode.{Mode}
use Rattle.proc_table.specs.declared.Mode.TheVariants.{Exclusive}
use Rattle.seat_roster.proofs.Totals.{set_there, total_at, total_two}
use Rattle.seat_roster.specs.Roster.{Numbers}
use Rattle.seat_roster.proofs.Stretches.{seen, at_seen}
use Rattle.lw_core.specs.declared.step.Call.TheVariants as call
use Rattle.lw_core.specs.declared.step.LwStep.{LwStep}
use Rattle.lw_core.specs.declared.step.LwStep.TheVariants as kind
use Rattle.lw_core.specs.declared.view.Frame.TheVariants.{Trying, Spinning, Downing, Detaching}
use Rattle.lw_core.specs.declared.view.Size.{Size}
use Rattle.lw_core.specs.declared.view.View.{View}
use Rattle.lw_core.specs.declared.view.Waiter.{Waiter}
use Rattle.lw_core.specs.declared.view.Want.TheVariants.{UntilFree}
use Rattle.lw_core.specs.Words.{Waiters, state_at, var_at, grant_of, locked, release_ok, has_waiters, has_flag, set_flag, word_count}
use Rattle.lw_core.specs.WaitLists.{times_with, HasNoUntilFree, IsUntilFreeFirst, taken_from, kept_from, home_of, home_list}
use Rattle.lw_core.specs.Machine.{LwState, Place, outer, held, mode_in, fresh, number_of, lock_number, IsInRange, word_of, becomes, moved, gripped, on_grant, on_refusal, calls_for_wake, in_hand, detached, posted, surplus_posted, left_at, next, carried, act_of, as_waiters, MayTake, MayDetach, Allowed, after, HoldsNothing, taking}
use Rattle.lw_core.specs.Stances.{Stance, Hand, hand_list, hand_at, has_list, on_lists, entry_of, queued_at, announced_at, stance_of}
use Rattle.lw_core.specs.CountsHolders.{is_exclusive}
use Rattle.lw_core.specs.SeatFits.{PlaceFits}
use Rattle.lw_core.specs.FreeLockIsAnswered.{lock_in}
use Rattle.lw_core.specs.VariableIsAnnounced.{watch_of, sleeps_for_at, watches_at, reads_at, updates_at, Updates, VariableIsAnnounced}
use Rattle.lw_core.specs.Rule.{EachVariableIsAnnounced, Rule, seating_of}
use Rattle.lw_core.specs.Runs.{drew_one, stays as stays_with, both, spent, drawn, split, joined}
use Rattle.lw_core.proofs.Lists.{until_free_all, kept_locks, no_until_free}
use Rattle.lw_core.proofs.Flags.{flag_set, set_keeps, clear_keeps, woken_unlocked}
use Rattle.lw_core.proofs.Storing.{KeepsFlag, flag_kept, still_keeps, word_read}
use Rattle.lw_core.proofs.Listing.{listed_stands, listed_comes}
use Rattle.lw_core.proofs.Touches.{on_exchange, top_is, numbers_kept, begun_release}
use Rattle.lw_core.proofs.Places as places
use Rattle.lw_core.proofs.Fits.{taking_fits}
use Rattle.lw_core.proofs.Turns.{Homes, Turn, stays, takes, flags, announces, queues, checks, leaves, was_taken, withdraws, marks, detaches, summons, returns, unmarks, posts, sees, sleeps_down, calls_down, wakes, oversleeps, gives_back, answers, allows, pokes}
use Rattle.lw_core.proofs.Answered.{sent_ok}
use Rattle.lw_core.proofs.Hands.{home_unlocked}
use Rattle.lw_core.proofs.Beside.{Beside, two_numbers, listed_there, none_there}
use Rattle.lw_core.proofs.StillAnswered.{listed_fewer}
use Rattle.lw_core.proofs.FreeLock.{own_of, no_call}
use Rattle.lw_core.proofs.Watching.{Goes, begun_goes, idle_goes, loaded_goes, granted_goes, refused_goes, retried_goes, let_go_goes, peeked_goes, looked_on_goes, compared_goes, published_goes, taken_goes, taking_goes, sent_goes, flagged_goes, stored_goes, reread_goes, detached_goes, missed_goes, posted_goes, looked_goes, down_goes, answered_goes, watches_queued, sleeper_watches, watcher_quiet, reader_has, storer_has}
use Rattle.lw_core.proofs.Seats.{alone, out, one_hand, step_turn}

-- WORDS
-- nobody on the list of l at home waits until l is free, and nobody has it in hand
abbrev AllCalled : ℕ → ℕ → Homes → Type 0
AllCalled l word homes = ((p : ℕ) → times_with p UntilFree (home_list homes l) ≡ 0) × (has_flag locked word ≡ 0)

-- where RELEASE_OK of l is set it stays set in a turn, but in a wake that takes all who wait until l is free
module _ (z : Size) (words : List ℕ) (homes after : Homes) (i x : ℕ) (v w : Stance) (long : length words ≡ word_count z) (slots : length homes ≡ z.locks) (first : IsUntilFreeFirst (hand_list v.hand)) (l : ℕ) (below : l < z.locks) where
  abbrev word_after : ℕ
  word_after = get_or (set words i x) (state_at l) 0

  abbrev StaysOrAllCalled : Type 0
  StaysOrAllCalled = (has_flag release_ok (get_or words (state_at l) 0) ≡ 1 → has_flag release_ok word_after ≡ 1) ⊎ AllCalled l word_after after

  kept : KeepsFlag release_ok z words i x → StaysOrAllCalled
  kept keeps = inl (λ was. flag_kept release_ok z words i x long keeps l below ∙ was)

  past : ((k : ℕ) → k < z.locks → i ≢ state_at k) → StaysOrAllCalled
  past ne = kept (λ k inside e. absurd (ne k inside e))

  -- the state word of k becomes x
  word_is : (k : ℕ) → i ≡ state_at k → (l ≡ k → word_after ≡ x)
  word_is k is same = ap (λ (j : ℕ). get_or (set words i x) j 0) (let e : state_at l ≡ i = omega arith in e) ∙ get_or-set_same words i x 0 (omega arith)

  sets : (k : ℕ) → i ≡ state_at k → x ≡ set_flag release_ok (get_or words i 0) → StaysOrAllCalled
  sets k is to = dite (ℕ_discrete l k)
      (λ same. inl (λ was. ap (has_flag release_ok) (word_is k is same ∙ to) ∙ flag_set 29 (get_or words i 0)))
      (λ ne. inl (λ was. ap (has_flag release_ok) (get_or-set_other words i (state_at l) x 0 (λ e. ne (omega arith))) ∙ was))

  ok_turn : Turn z words homes after i x v w → StaysOrAllCalled
  ok_turn (stays still there is) = kept (still_keeps z words i x still).1
  ok_turn (takes k list inside at_k clear to home goes free is) = kept (λ j below e. ap (has_flag release_ok) to ∙ set_keeps 28 29 (get_or words i 0) refl)
  ok_turn (flags k found inside at_k to there mine none is) = kept (λ j below e. ap (has_flag release_ok) to ∙ set_keeps 30 29 (get_or words i 0) refl)
  ok_turn (announces p few own at_p to there round none is) = past (λ k inside e. omega arith)
  ok_turn (queues k p want found list inside few own at_k to items goes mine flagged announced round none is) = kept (λ j below e. ap (has_flag release_ok) to ∙ clear_keeps 28 29 (get_or words i 0) refl)
  ok_turn (checks k p want found few own at_p to there mine queued round none is) = kept (λ j below e. ap (has_flag release_ok) to)
  ok_turn (leaves k p want found list inside few own at_k to items goes mine flagged queued round leaving none is) = kept (λ j below e. ap (has_flag release_ok) to ∙ sent_ok _ (get_or words i 0))
  ok_turn (was_taken k p want found list inside few own at_k to items goes mine flagged queued round leaving is) = kept (λ j below e. ap (has_flag release_ok) to ∙ sent_ok _ (get_or words i 0))
  ok_turn (withdraws p few own at_p to there round announced is) = past (λ k inside e. omega arith)
  ok_turn (marks k u found done rest few at_p to there mine marked on_list none is) = past (λ k inside e. omega arith)
  ok_turn (detaches k found list inside at_k to items goes mine flagged marked unlisted owed leaving is) = dite (ℕ_discrete l k)
      (λ same. inr (
        (λ p. let home : home_list after l ≡ kept_from found = ap (home_list after) same ∙ (ap home_of (ap (λ (a : Homes). get_elem? a k) goes ∙ set_here homes k (maybe.some list) (omega arith)) ∙ items) in
            ap (times_with p UntilFree) home ∙ no_until_free p (kept_from found) (kept_locks found (subst (λ (o : Option Hand). IsUntilFreeFirst (hand_list o)) mine first))),
        ap (has_flag locked) (word_is k at_k same ∙ to) ∙ woken_unlocked (taken_from found) (kept_from found) (get_or words i 0),
      ))
      (λ ne. inl (λ was. ap (has_flag release_ok) (get_or-set_other words i (state_at l) x 0 (λ e. ne (omega arith))) ∙ was))
  ok_turn (summons k found list inside at_k to items goes mine flagged marked unlisted owed leaving is) = kept (λ j below e. ap (has_flag release_ok) to ∙ clear_keeps 28 29 (get_or words i 0) refl)
  ok_turn (returns k found list inside at_k to items goes mine flagged marked leaving is) = kept (λ j below e. ap (has_flag release_ok) to ∙ clear_keeps 28 29 (get_or words i 0) refl)
  ok_turn (unmarks u us few at_p to there unlisted is) = past (λ k inside e. omega arith)
  ok_turn (posts u us few at_p to there owed cleared is) = past (λ k inside e. omega arith)
  ok_turn (sees p few own at_p to some there none is) = past (λ k inside e. omega arith)
  ok_turn (sleeps_down p few own at_p to there downing between is) = past (λ k inside e. omega arith)
  ok_turn (calls_down p few own at_p to there downing apart is) = past (λ k inside e. omega arith)
  ok_turn (wakes p few own at_p to zero_is there none leaving round between is) = past (λ k inside e. omega arith)
  ok_turn (oversleeps p few own at_p to some there between is) = past (λ k inside e. omega arith)
  ok_turn (gives_back p few own at_p to there some is) = past (λ k inside e. omega arith)
  ok_turn (answers k inside at_k to there queued due is) = sets k at_k to
  ok_turn (allows k inside at_k to there queued is) = sets k at_k to
  ok_turn (pokes q few at_p to there is) = past (λ k inside e. omega arith)

-- A STEP. What shows that nobody who watches the variable of l is listed afterwards: all who could be were called, or RELEASE_OK or HAS_WAITERS is clear
data IsDone (l word : ℕ) (homes : Homes) : Type 0 where
  all_called : AllCalled l word homes → IsDone l word homes
  ok_is_clear : has_flag release_ok word ≡ 0 → IsDone l word homes
  none_waits : has_flag has_waiters word ≡ 0 → IsDone l word homes

module _ (lawful : ℕ → List ℕ → Type 0) (z : Size) (s : LwState) (r : Rule lawful z s) (id : ℕ) (v : View) (at : get_elem? s.views id ≡ maybe.some v) (l : ℕ) (below : l < z.locks) where
  abbrev found_by : LwStep → ℕ
  found_by k = get_or s.words (word_of z (number_of v.own) k) 0

  abbrev view_by : LwStep → View
  view_by k = next k v (found_by k) (home_list s.homes (lock_number k))

  abbrev words_by : LwStep → List ℕ
  words_by k = set s.words (word_of z (number_of v.own) k) (becomes k (found_by k))

  abbrev homes_by : LwStep → Homes
  homes_by k = homes_after s.homes (carried k v) (act_of k (found_by k) (home_list s.homes (lock_number k)))

  abbrev variable : ℕ
  variable = get_or s.words (var_at l) 0

  fits : PlaceFits v.holds v.surplus v.place
  fits = (places.mine lawful z s r id v at).place

  first : IsUntilFreeFirst (hand_list (hand_at v.place))
  first = r.listed.ordered_hand id (stance_of v) (at_seen stance_of s.views id v (stance_of v) at refl)

  -- the word of the step is that of l
  stored_here : (i x : ℕ) → i ≡ l → get_or (set s.words (state_at i) x) (state_at l) 0 ≡ x
  stored_here i x is = let long = r.sized.long in ap (λ (j : ℕ). get_or (set s.words (state_at j) x) (state_at l) 0) is ∙ get_or-set_same s.words (state_at l) x 0 (omega arith)

  -- the list that goes home is that of l, and nobody on it waits until l is free
  called : (i word : ℕ) → i ≡ l → (ws : List Waiter) → HasNoUntilFree ws → has_flag locked word ≡ 0 → AllCalled l word (set s.homes i (maybe.some (as_waiters ws)))
  called i word is ws none clear = let slots = r.sized.slots in
      let home : home_list (set s.homes i (maybe.some (as_waiters ws))) l ≡ ws = ap (λ (j : ℕ). home_list (set s.homes j (maybe.some (as_waiters ws))) l) is ∙ ap home_of (set_here s.homes l (maybe.some (as_waiters ws)) (omega arith)) in
      ((λ p. ap (times_with p UntilFree) home ∙ no_until_free p ws none), clear)

  -- the exchange of a wake takes them all
  woken : (i w to word : ℕ) → MayDetach i w to v.place → i ≡ l → word ≡ to → AllCalled l word (set s.homes i (maybe.some (as_waiters (left_at v.place (number_of v.own)))))
  woken i w to word ok is word_is = by_place v.place ok first
    where
      by_place : (p : Place) → MayDetach i w to p → IsUntilFreeFirst (hand_list (hand_at p)) → AllCalled l word (set s.homes i (maybe.some (as_waiters (left_at p (number_of v.own)))))
      by_place (Detaching j updated found n ∷ p) may ordered = called i word is (kept_from found) (kept_locks found ordered) (ap (has_flag locked) (word_is ∙ may.2) ∙ woken_unlocked (taken_from found) (kept_from found) w)
      by_place p may ordered = absurd may

  -- a release that calls for no wake left nobody on the list, or RELEASE_OK is clear
  released : (i : ℕ) (m : Mode) → i ≡ l → mode_in i v ≡ Some m → mode_in i v ≡ Some Exclusive → let x = get_or s.words (state_at i) 0 - grant_of m in calls_for_wake x ≡ false → (word : ℕ) → word ≡ x → IsDone l word s.homes
  released i m is holds alone none word word_is =
      let n : ℕ = get_or s.words (state_at i) 0 in let x : ℕ = n - grant_of m in let counts = r.counts i (omega arith) in
      let there = total_at is_exclusive (map (mode_in i) s.views) id (mode_in i v) (at_seen (mode_in i) s.views id v (mode_in i v) at refl) in let mine : is_exclusive (mode_in i v) ≡ 1 = ap is_exclusive alone in
      let only : m ≡ Exclusive = cc in let grant : grant_of m ≡ 0x0100_0000 = ap grant_of only in let counted = counts.counted in let one = counts.alone (omega arith) in
      ⊎_elim (λ clear. none_waits (ap (has_flag has_waiters) word_is ∙ clear)) (λ clear. ok_is_clear (ap (has_flag release_ok) word_is ∙ clear)) (no_call x (omega arith) none)

  -- what the step k by_kind for l where the place p becomes q
  abbrev Takes : LwStep → Place → Place → Type 0
  Takes k p q = Goes l (get_or (words_by k) (var_at l) 0) (has_flag release_ok (get_or (words_by k) (state_at l) 0) ≡ 1) (IsDone l (get_or (words_by k) (state_at l) 0) (homes_by k)) p q

  by_kind : (k : LwStep) → IsInRange z k → Allowed lawful k v → Takes k v.place (view_by k).place
  by_kind (kind.Load i None) inside ok = loaded_goes l _ _ _ i (get_or s.words (state_at i) 0) v.place ok
  by_kind (kind.Load i (Some (call.Try j m))) inside ok = begun_goes l _ _ _ v.place _ ok.1 refl
  by_kind (kind.Load i (Some (call.Acquire j m))) inside ok = begun_goes l _ _ _ v.place _ ok.1 refl
  by_kind (kind.Load i (Some (call.AcquireOrWait j m))) inside ok = begun_goes l _ _ _ v.place _ ok.1 refl
  by_kind (kind.Load i (Some c)) inside ok = absurd ok
  by_kind (kind.Grant i m w) inside ok = let n : ℕ = get_or s.words (state_at i) 0 in let k : LwStep = kind.Grant i m w in let at_top = top_is v.place (Trying i m w) ok.0 in
      on_exchange n w (λ (b : Bool). Takes k v.place (cond b (gripped v k i n (on_grant v.surplus (outer v.place)) (held m) (v.grants + 1)) (moved v k n (Trying i m n ∷ outer v.place))).place)
      (λ hit. subst (λ (p : Place). Takes k p (on_grant v.surplus (outer v.place))) (sym at_top) (granted_goes l _ _ _ i w v.surplus m (outer v.place) (places.tries lawful z s r id v at i w m ok.0).2))
      (λ miss. subst (λ (p : Place). Takes k p (Trying i m n ∷ outer v.place)) (sym at_top) (retried_goes l _ _ _ i w n m (outer v.place)))
  by_kind (kind.Refuse i m w) inside ok = let n : ℕ = get_or s.words (state_at i) 0 in let k : LwStep = kind.Refuse i m w in let at_top = top_is v.place (Trying i m w) ok.0 in
      on_exchange n w (λ (b : Bool). Takes k v.place (cond b (on_refusal (outer v.place)) (Trying i m n ∷ outer v.place)))
      (λ hit. subst (λ (p : Place). Takes k p (on_refusal (outer v.place))) (sym at_top) (refused_goes l _ _ _ i w v.surplus m (outer v.place) (places.tries lawful z s r id v at i w m ok.0).2))
      (λ miss. subst (λ (p : Place). Takes k p (Trying i m n ∷ outer v.place)) (sym at_top) (retried_goes l _ _ _ i w n m (outer v.place)))
  by_kind (kind.Sub i m b) inside ok = let x : ℕ = get_or s.words (state_at i) 0 - grant_of m in
      let_go_goes l _ _ _ b i x v fits (begun_release b i v fits ok.0) ok.0 (λ is alone none. released i m is ok.1 alone none _ (stored_here i x is))
  by_kind (kind.Peek i (Some (call.WaitForVar j old))) inside ok = peeked_goes l _ _ _ v.surplus j old (get_or s.words (state_at i) 0) v.place ok.1
  by_kind (kind.Peek i None) inside ok = looked_on_goes l _ _ _ v.holds v.surplus i (get_or s.words (state_at i) 0) v.place ok fits
  by_kind (kind.Peek i (Some c)) inside ok = absurd ok
  by_kind (kind.Guard i k o) inside ok = idle_goes l _ _ _ v.place v.place ok.1 refl
  by_kind (kind.Lock i b) inside ok = let now = taking_fits (lawful i) b i v fits ok in taking_goes l _ _ _ (lawful i) b i v _ ok (by_place (taking b v.place) now.0 now.1)
    where
      by_place : (p : Place) → MayTake i p → PlaceFits v.holds v.surplus p → let clear = eqb (has_flag locked (get_or s.words (state_at i) 0)) 0 in Takes (kind.Lock i b) p (cond clear (in_hand (home_list s.homes i) (outer p)) (Spinning i ∷ outer p))
      by_place (f ∷ p) may at_place = taken_goes l _ _ _ v.holds v.surplus i (home_list s.homes i) f p may at_place _
      by_place [] may at_place = absurd may
  by_kind (kind.VarLoad i) inside ok = compared_goes l _ _ _ v.holds v.surplus i (get_or s.words (var_at i) 0) v.place ok fits (λ is. word_read s.words (var_at i) (get_or s.words (var_at i) 0) (var_at l) refl ∙ ap (λ (j : ℕ). get_or s.words (var_at j) 0) (sym is))
  by_kind (kind.VarStore i x) inside ok = published_goes l _ _ _ i x v.place ok
  by_kind (kind.Unlock i c) inside ok = sent_goes l _ _ _ v.holds v.surplus i (number_of v.own) c v.place ok fits (λ found marked is there. all_called
      (called i _ is (left_at v.place (number_of v.own))
      (subst (λ (p : Place). HasNoUntilFree (left_at p (number_of v.own))) (sym there) (until_free_all found (subst (λ (p : Place). IsUntilFreeFirst (hand_list (hand_at p))) there first)))
      (ap (has_flag locked) (stored_here i _ is) ∙ home_unlocked c (get_or s.words (state_at i) 0))))
  by_kind (kind.Flag i) inside ok = flagged_goes l _ _ _ i v.place ok
  by_kind (kind.WaitStore q x) inside ok = stored_goes l _ _ _ v.holds v.surplus q x v.own v.place ok fits
  by_kind kind.WaitLoad inside ok = reread_goes l _ _ _ v.holds v.surplus _ v.place ok fits
  by_kind (kind.Wake i w to) inside ok = let n : ℕ = get_or s.words (state_at i) 0 in
      on_exchange n w (λ (b : Bool). let words : List ℕ = set s.words (state_at i) (cond b to n) in
      Goes l (get_or words (var_at l) 0) (has_flag release_ok (get_or words (state_at l) 0) ≡ 1) (IsDone l (get_or words (state_at l) 0) (homes_after s.homes (carried (kind.Wake i w to) v) (cond b table.gives table.keeps))) v.place (detached b n v.place))
      (λ hit. detached_goes l _ _ _ v.holds v.surplus i w to n v.place ok fits (λ is. all_called (woken i w to _ ok is (stored_here i to is))))
      (λ miss. missed_goes l _ _ _ i w to n v.place ok)
  by_kind (kind.Post q None) inside ok = posted_goes l _ _ _ v.holds v.surplus q v.own v.place ok fits
  by_kind (kind.Post q (Some (call.Poke i))) inside ok = idle_goes l _ _ _ v.place _ ok.1 (ap (λ (p : Place). posted (surplus_posted p v.surplus) p) ok.1 ∙ sym ok.1)
  by_kind (kind.Post q (Some c)) inside ok = absurd ok
  by_kind (kind.Look b) inside ok = looked_goes l _ _ _ b v.place ok _
  by_kind kind.Down inside ok = let at_top = top_is v.place Downing ok in
      subst (λ (p : Place). Takes kind.Down p (outer v.place)) (sym at_top) (down_goes l _ _ _ v.holds v.surplus (outer v.place) (subst (PlaceFits v.holds v.surplus) at_top fits))
  by_kind (kind.SetReleaseOk i) inside ok = answered_goes l _ _ _ v.holds v.surplus i v.place ok fits (λ is. ap (has_flag release_ok) (stored_here i _ is) ∙ flag_set 29 (get_or s.words (state_at i) 0))

  -- a step leaves the variable of l as it was, or stores it with the list of l in hand and updates l
  stores : (k : LwStep) → Allowed lawful k v → (get_or (words_by k) (var_at l) 0 ≡ variable) ⊎ ((updates_at (view_by k).place ≡ Some l) × (has_list l (stance_of v) ≡ 1))
  stores (kind.VarStore i x) ok = let t = storer_has i x v.place ok in dite (ℕ_discrete i l)
      (λ is. inr (t.1 ∙ ap Some is, ap (λ (j : ℕ). has_list j (stance_of v)) (sym is) ∙ t.0))
      (λ ne. inl (get_or-set_other s.words (var_at i) (var_at l) x 0 (λ e. ne (omega arith))))
  stores (kind.VarLoad i) ok = inl (word_read s.words (var_at i) (get_or s.words (var_at i) 0) (var_at l) refl)
  stores k ok = inl (get_or-set_other s.words (word_of z (number_of v.own) k) (var_at l) _ 0 (λ e. omega arith))

  -- THE STEP
  module _ (k : LwStep) (inside : IsInRange z k) (numbered : v.own ≡ None → ⊥) (ok : Allowed lawful k v) (b : Beside z (after z s id v k)) where
    abbrev now : LwState
    now = after z s id v k

    abbrev word_now : ℕ
    word_now = get_or now.words (state_at l) 0

    abbrev before : VariableIsAnnounced l (get_or s.words (state_at l) 0) variable s.homes s.views
    before = r.variables l below

    there : get_elem? (map stance_of s.views) id ≡ maybe.some (stance_of v)
    there = at_seen stance_of s.views id v (stance_of v) at refl

    own_kept : (view_by k).own ≡ v.own
    own_kept = ap (λ (x : Numbers). x.own) (numbers_kept k v (found_by k) (home_list s.homes (lock_number k)))

    turn : Turn z s.words s.homes now.homes (word_of z (number_of v.own) k) (becomes k (found_by k)) (stance_of v) (stance_of (view_by k))
    turn = step_turn lawful z s r id v at k inside numbered ok

    takes_on : Takes k v.place (view_by k).place
    takes_on = by_kind k inside ok

    -- a seat of the state afterwards, which watches the variable and is listed
    module _ (j p old : ℕ) (u : View) (at_now : get_elem? now.views j ≡ maybe.some u) (own : u.own ≡ Some p) (some : 1 ≤ on_lists p now.homes (map stance_of now.views)) where
      -- it was listed before
      was_listed : (v.own ≡ Some p → announced_at v.place ≡ false) → 1 ≤ on_lists p s.homes (map stance_of s.views)
      was_listed quiet =
          let fewer = listed_fewer z s.words s.homes (map stance_of s.views) (out lawful z s r) id (stance_of v) there now.homes _ _ (stance_of (view_by k)) turn p quiet in
          let same = ap (on_lists p now.homes) (seen stance_of s.views id (view_by k) (stance_of (view_by k)) refl) in omega arith

      else_listed : j ≢ id → get_elem? s.views j ≡ maybe.some u → 1 ≤ on_lists p s.homes (map stance_of s.views)
      else_listed ne at_before = was_listed (λ mine. absurd (two_numbers (map stance_of s.views) (alone lawful z s r) id j p (stance_of v) (stance_of u) there (at_seen stance_of s.views j u (stance_of u) at_before refl) ne mine own))

      mine_listed : watches_at v.place ≡ watch_of l old → 1 ≤ on_lists p s.homes (map stance_of s.views)
      mine_listed was = was_listed (λ _. watcher_quiet record { lock = l; value = old } v.place was)

      module _ (watching : watches_at u.place ≡ watch_of l old) where
        queued : queued_at u.place ≡ entry_of l UntilFree
        queued = watches_queued u.holds l old u.surplus u.place (seat_fits u at_now) watching
          where
            seat_fits : (u : View) → get_elem? now.views j ≡ maybe.some u → PlaceFits u.holds u.surplus u.place
            seat_fits u e = (b.places j (seating_of u) (at_seen seating_of now.views j u (seating_of u) e refl)).place

        not_called : AllCalled l word_now now.homes → ⊥
        not_called all = none_there z now b l j p u below at_now own queued (all.0 p) all.1 some

        ok_stays : has_flag release_ok (get_or s.words (state_at l) 0) ≡ 1 → has_flag release_ok word_now ≡ 1
        ok_stays was = ⊎_elim (λ keeps. keeps was) (λ all. absurd (not_called all))
            (ok_turn z s.words s.homes now.homes _ _ (stance_of v) (stance_of (view_by k)) r.sized.long r.sized.slots first l below turn)

        allowed : has_flag release_ok word_now ≡ 1
        allowed = ⊎_elim
            (λ (t : (j ≡ id) × (view_by k ≡ u)). ⊎_elim (λ was. ok_stays (before.allowed id p old v at (sym own_kept ∙ (ap own_of t.1 ∙ own)) was (mine_listed was))) (λ set_now. set_now)
            (takes_on.watches old (ap (λ (o : View). watches_at o.place) t.1 ∙ watching)))
            (λ (t : (j ≢ id) × (get_elem? s.views j ≡ maybe.some u)). ok_stays (before.allowed j p old u t.1 own watching (else_listed t.0 t.1)))
            (at_set s.views id j (view_by k) u at_now)

        not_done : IsDone l word_now now.homes → ⊥
        not_done (all_called all) = not_called all
        not_done (ok_is_clear clear) = let set_now = allowed in omega arith
        not_done (none_waits clear) = let none = b.flags l below clear in let more = listed_there z now b l j p u at_now own (ap lock_in queued) some in omega arith

        -- who updates l goes on, since it would have called this one
        still : (variable ≡ old) ⊎ Updates l s.views → (get_or now.words (var_at l) 0 ≡ old) ⊎ Updates l now.views
        still was = ⊎_elim
            (λ same. ⊎_elim (λ is. inl (same ∙ is)) (λ a. inr (updating a)) was)
            (λ t. inr record { id = id; view = view_by k; at = set_there s.views id v (view_by k) at; updates = t.0 })
            (stores k ok)
          where
            updating : Updates l s.views → Updates l now.views
            updating a = dite (ℕ_discrete a.id id)
                (λ here. let mine : a.view ≡ v = maybe.some-injective a.view v (sym a.at ∙ (ap (get_elem? s.views) here ∙ at)) in
                ⊎_elim (λ goes. record { id = id; view = view_by k; at = set_there s.views id v (view_by k) at; updates = goes }) (λ done. absurd (not_done done))
                (takes_on.updates (ap (λ (o : View). updates_at o.place) (sym mine) ∙ a.updates)))
                (λ ne. record { id = a.id; view = a.view; at = set_else s.views id a.id (view_by k) ne ∙ a.at; updates = a.updates })

      announced : sleeps_for_at u.place ≡ watch_of l old → (get_or now.words (var_at l) 0 ≡ old) ⊎ Updates l now.views
      announced asleep = let watching = sleeper_watches record { lock = l; value = old } u.place asleep in still watching (⊎_elim
          (λ (t : (j ≡ id) × (view_by k ≡ u)). ⊎_elim
          (λ was. before.announced id p old v at (sym own_kept ∙ (ap own_of t.1 ∙ own)) was (mine_listed (sleeper_watches record { lock = l; value = old } v.place was)))
          (λ read. inl (before.read id old v at read))
          (takes_on.sleeps old (ap (λ (o : View). sleeps_for_at o.place) t.1 ∙ asleep)))
          (λ (t : (j ≢ id) × (get_elem? s.views j ≡ maybe.some u)). before.announced j p old u t.1 own asleep (else_listed t.0 t.1))
          (at_set s.views id j (view_by k) u at_now))

    -- who has read the variable has the list in hand, so that nobody else stores it
    read : (j n : ℕ) (u : View) → get_elem? now.views j ≡ maybe.some u → reads_at u.place ≡ watch_of l n → get_or now.words (var_at l) 0 ≡ n
    read j n u at_now reading = ⊎_elim
        (λ (t : (j ≡ id) × (view_by k ≡ u)). takes_on.reads n (ap (λ (o : View). reads_at o.place) t.1 ∙ reading))
        (λ (t : (j ≢ id) × (get_elem? s.views j ≡ maybe.some u)). ⊎_elim (λ same. same ∙ before.read j n u t.1 reading)
        (λ stored. absurd (let has = reader_has l n u.place reading in let mine = stored.1 in
        let two = total_two (has_list l) (map stance_of s.views) id j (stance_of v) (stance_of u) t.0 there (at_seen stance_of s.views j u (stance_of u) t.1 refl) in let one = one_hand lawful z s r l below in omega arith))
        (stores k ok))
        (at_set s.views id j (view_by k) u at_now)

    stepped_variable : VariableIsAnnounced l word_now (get_or now.words (var_at l) 0) now.homes now.views
    stepped_variable = record {
      allowed = λ j p old u e own watching some. allowed j p old u e own some watching;
      announced = λ j p old u e own asleep some. announced j p old u e own some asleep;
      read = read;
    }

-- A MOVE. A seat is where it was, and has its number if it watches a variable
stands : (homes : Homes) (views : List View) (id l word x : ℕ) (v w : View) → get_elem? views id ≡ maybe.some v → w.place ≡ v.place → ((old : ℕ) → watches_at v.place ≡ watch_of l old → w.own ≡ v.own)
    → VariableIsAnnounced l word x homes views → VariableIsAnnounced l word x homes (set views id w)
stands homes views id l word x v w at place own' was = record {
  allowed = λ j p old u e own watching some. let t = before j u e in let watched = ap watches_at t.3 ∙ watching in let same = listed_stands homes views id v w at place p in
      was.allowed t.0 p old t.1 t.2 (t.4 old watched ∙ own) watched (omega arith);
  announced = λ j p old u e own asleep some. let t = before j u e in let slept = ap sleeps_for_at t.3 ∙ asleep in let watched = sleeper_watches record { lock = l; value = old } t.1.place slept in
      let same = listed_stands homes views id v w at place p in ⊎_elim (λ is. inl is) (λ a. inr (updating a)) (was.announced t.0 p old t.1 t.2 (t.4 old watched ∙ own) slept (omega arith));
  read = λ j n u e reading. let t = before j u e in was.read t.0 n t.1 t.2 (ap reads_at t.3 ∙ reading);
}
  where
    before : (j : ℕ) (u : View) → get_elem? (set views id w) j ≡ maybe.some u
        → (i : ℕ) × (o : View) × (get_elem? views i ≡ maybe.some o) × (o.place ≡ u.place) × ((old : ℕ) → watches_at o.place ≡ watch_of l old → o.own ≡ u.own)
    before j u e = ⊎_elim
        (λ (t : (j ≡ id) × (w ≡ u)). (id, v, at, sym place ∙ ap (λ (o : View). o.place) t.1, λ old watching. sym (own' old watching) ∙ ap own_of t.1))
        (λ (t : (j ≢ id) × (get_elem? views j ≡ maybe.some u)). (j, u, t.1, refl, λ old watching. refl))
        (at_set views id j w u e)

    updating : Updates l views → Updates l (set views id w)
    updating a = dite (ℕ_discrete a.id id)
        (λ here. let mine : a.view ≡ v = maybe.some-injective a.view v (sym a.at ∙ (ap (get_elem? views) here ∙ at)) in
        record { id = id; view = w; at = set_there views id v w at; updates = ap updates_at place ∙ (ap (λ (o : View). updates_at o.place) (sym mine) ∙ a.updates) })
        (λ ne. record { id = a.id; view = a.view; at = set_else views id a.id w ne ∙ a.at; updates = a.updates })

-- a seat comes
comes : (homes : Homes) (views : List View) (l word x : ℕ) (own : Option ℕ) → VariableIsAnnounced l word x homes views → VariableIsAnnounced l word x homes (views ++ fresh own ∷ [])
comes homes views l word x own was = record {
  allowed = λ j p old u e number watching some. let same = listed_comes homes views own p in ⊎_elim
      (λ (before : get_elem? views j ≡ maybe.some u). was.allowed j p old u before number watching (omega arith))
      (λ (is : fresh own ≡ u). absurd (let none : None ≡ watch_of l old = ap (λ (o : View). watches_at o.place) is ∙ watching in cc))
      (at_snoc views (fresh own) u j e);
  announced = λ j p old u e number asleep some. let same = listed_comes homes views own p in ⊎_elim
      (λ (before : get_elem? views j ≡ maybe.some u). ⊎_elim (λ is. inl is) (λ a. inr record { id = a.id; view = a.view; at = at_longer views (fresh own ∷ []) a.id a.view a.at; updates = a.updates })
      (was.announced j p old u before number asleep (omega arith)))
      (λ (is : fresh own ≡ u). absurd (let none : None ≡ watch_of l old = ap (λ (o : View). sleeps_for_at o.place) is ∙ asleep in cc))
      (at_snoc views (fresh own) u j e);
  read = λ j n u e reading. ⊎_elim
      (λ (before : get_elem? views j ≡ maybe.some u). was.read j n u before reading)
      (λ (is : fresh own ≡ u). absurd (let none : None ≡ watch_of l n = ap (λ (o : View). reads_at o.place) is ∙ reading in cc))
      (at_snoc views (fresh own) u j e);
}

-- THE PART, after each kind of step and each move
module _ (lawful : ℕ → List ℕ → Type 0) (z : Size) (s : LwState) (r : Rule lawful z s) (id : ℕ) (v : View) (at : get_elem? s.views id ≡ maybe.some v) where
  pub var_step : (k : LwStep) → IsInRange z k → (v.own ≡ None → ⊥) → Allowed lawful k v → Beside z (after z s id v k) → EachVariableIsAnnounced z (after z s id v k)
  var_step k inside numbered ok b l below = stepped_variable lawful z s r id v at l below k inside numbered ok b

  pub var_draw : EachVariableIsAnnounced z (drawn s id v)
  var_draw l below = subst (λ (n : ℕ). VariableIsAnnounced l n (get_or (set s.words 0 first) (var_at l) 0) s.homes (set s.views id (drew_one v))) (sym (get_or-set_other s.words 0 (state_at l) first 0 (λ e. omega arith)))
      (subst (λ (x : ℕ). VariableIsAnnounced l (get_or s.words (state_at l) 0) x s.homes (set s.views id (drew_one v))) (sym (get_or-set_other s.words 0 (var_at l) first 0 (λ e. omega arith)))
      (stands s.homes s.views id l _ _ v (drew_one v) at refl (λ old watching. refl) (r.variables l below)))
    where
      first : ℕ
      first = get_or s.words 0 0 + 1

  pub var_split : EachVariableIsAnnounced z (split s id v)
  var_split l below = comes s.homes (set s.views id (stays_with v)) l _ _ v.pending (stands s.homes s.views id l _ _ v (stays_with v) at refl (λ old watching. refl) (r.variables l below))

  pub var_join : (other : ℕ) (w : View) → (other ≡ id → ⊥) → get_elem? s.views other ≡ maybe.some w → w.pending ≡ None → w.place ≡ [] → HoldsNothing w → EachVariableIsAnnounced z (joined s id v other w)
  var_join other w apart there settled idle_is empty l below = stands s.homes (set s.views id (both v w)) other l _ _ w spent (set_else s.views id other (both v w) apart ∙ there) (sym idle_is)
      (λ old watching. let none : None ≡ watch_of l old = ap watches_at (sym idle_is) ∙ watching in absurd (cc))
      (stands s.homes s.views id l _ _ v (both v w) at refl (λ old watching. refl) (r.variables l below))

-- at the opening nobody watches
pub var_opens : (z : Size) (words : List ℕ) (lists : List Waiters) (own : Option ℕ) → EachVariableIsAnnounced z (opening {S = Waiters} words lists (fresh own))
var_opens z words lists own l below = record {
  allowed = λ id p old u e number watching some. absurd (let none : None ≡ watch_of l old = ap watches_at (idle id u e) ∙ watching in cc);
  announced = λ id p old u e number asleep some. absurd (let none : None ≡ watch_of l old = ap sleeps_for_at (idle id u e) ∙ asleep in cc);
  read = λ id n u e reading. absurd (let none : None ≡ watch_of l n = ap reads_at (idle id u e) ∙ reading in cc);
}
  where
    idle : (id : ℕ) (u : View) → get_elem? (fresh own ∷ []) id ≡ maybe.some u → [] ≡ u.place
    idle zero u e = ap (λ (o : View). o.place) (maybe.some-injective (fresh own) u e)
    idle (suc id) u e = absurd (maybe.some-ne-none u (sym e))
