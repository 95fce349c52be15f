-- Nobody sleeps for a lock that nobody holds, unless somebody releases it or answers for it: this holds at the opening, and after each kind of step and each move.
use Rattle.std.proofs.Common.{◌≡◌, ◌≢◌, ◌⊎◌, ℕ, zero, suc, ◌+◌, ◌-◌, ◌*◌, ◌<◌, ◌≤◌, eqb, Bool, true, false, cond, List, [], ◌∷◌, ◌++◌, map, get_or, set, Option, None, Some, sym, refl, ap, ◌∙◌, subst, ⊎_elim, inl, inr, arith, eq-eqb, get_or-set_same, get_or-set_other}
use mathlib.Core.Logic.{dite}
use mathlib.Core.Option as maybe
use native.Mathlib.Decide.{ℕ_discrete}
use lib.ListN.{get_elem?}
use Rattle.atomic_table.specs.Table.{opening}
use Rattle.atomic_table.proofs.Lists.{at_set, at_snoc, at_longer, set_else}
use Rattle.proc_table.specs.declared.Mode.{Mode}
use Rattle.proc_table.specs.declared.Mode.TheVariants.{Shared, Exclusive}
use Rattle.seat_roster.specs.Totals.{total}
use Rattle.seat_roster.proofs.Totals.{set_there}
use Rattle.seat_roster.specs.Roster.{Numbers}
use Rattle.seat_roster.proofs.Stretches.{seen, seen_more, at_seen, unseen}
use Rattle.lw_core.specs.declared.step.Call.{Call}
use Rattle.lw_core.specs.declared.step.Call.TheVariants as call
use Rattle.lw_core.specs.declared.step.LwStep.{LwStep}
use Rattle.lw_core.specs.declared.step.LwStep.TheVariants as kind
use Rattle.lw_core.specs.declared.view.Frame.TheVariants.{Trying, TakingList, Spinning, Waking, Detaching, Downing}
use Rattle.lw_core.specs.declared.view.Hold.{Hold}
use Rattle.lw_core.specs.declared.view.Size.{Size}
use Rattle.lw_core.specs.declared.view.View.{View}
use Rattle.lw_core.specs.Words.{Waiters, state_at, guard_at, grant_of, is_free, lock_part, locked, release_ok, has_waiters, has_flag, var_at}
use Rattle.lw_core.specs.WaitLists.{times_on, taken_from, kept_from, has_locker, home_list}
use Rattle.lw_core.specs.Machine.{LwState, Place, outer, not_held, held, hold_in, mode_in, fresh, number_of, lock_number, IsInRange, word_of, becomes, moved, moved_list, gripped, on_grant, on_refusal, calls_for_wake, let_go, after_store, in_hand, detached, posted, surplus_posted, next, MayTake, MayDetach, Allowed, after, HoldsNothing, releasing, taking, guard_hold}
use Rattle.lw_core.specs.Stances.{Stance, hand_list, hand_at, on_lists, queued_at, announced_at, due_at, stance_of}
use Rattle.lw_core.specs.CountsHolders.{is_shared, is_exclusive}
use Rattle.lw_core.specs.SeatFits.{PlaceFits}
use Rattle.lw_core.specs.ReleaseOkIsOwed.{Answers}
use Rattle.lw_core.specs.FreeLockIsAnswered.{attends_at, committed_at, Attends, IsAnswered, FreeLockIsAnswered}
use Rattle.lw_core.specs.Seats.{mode_of_hold}
use Rattle.lw_core.specs.Rule.{EachFreeLockIsAnswered, Rule}
use Rattle.lw_core.specs.Runs.{drew_one, stays, both, spent, drawn, split, joined}
use Rattle.lw_core.proofs.Lists.{all_taken}
use Rattle.lw_core.proofs.Flags.{woken_cleared, woken_emptied}
use Rattle.lw_core.proofs.Listing.{listed_same, listed_stands, listed_comes}
use Rattle.lw_core.proofs.Holders.{none_holds}
use Rattle.lw_core.proofs.Beside.{Beside, two_numbers, listed_there}
use Rattle.lw_core.proofs.Touches.{on_exchange, top_is, numbers_kept, begun_release}
use Rattle.lw_core.proofs.Places as places
use Rattle.lw_core.proofs.Fits.{taking_fits}
use Rattle.lw_core.proofs.Counts.{inside_holds}
use Rattle.lw_core.proofs.Answered.{found_here, elsewhere, owed_added}
use Rattle.lw_core.proofs.StillAnswered.{listed_fewer, still_answers}
use Rattle.lw_core.proofs.Attending.{Goes, attends, passes, begun_goes, loaded_goes, granted_goes, refused_goes, retried_goes, let_go_goes, peeked_goes, taken_goes, sent_goes, flagged_goes, stored_goes, reread_goes, detached_goes, missed_goes, posted_goes, looked_goes, down_goes, answered_goes, committed_queued, committed_quiet, looked_on_goes, taking_goes, compared_goes, published_goes}
use Rattle.lw_core.proofs.Seats.{alone, sound, out, step_turn}

-- WORDS
-- a word with no holder is free; and it calls for a wake unless one of the two flags is clear
free_part : (m : Mode) (n : ℕ) → lock_part n ≡ 0 → is_free m n ≡ true
free_part Shared n e = eq-eqb _ _ (omega arith)
free_part Exclusive n e = eq-eqb _ _ e

pub no_call : (word : ℕ) → lock_part word ≡ 0 → calls_for_wake word ≡ false → (has_flag has_waiters word ≡ 0) ⊎ (has_flag release_ok word ≡ 0)
no_call word part none = dite (ℕ_discrete (has_flag has_waiters word) 1)
    (λ a. dite (ℕ_discrete (has_flag release_ok word) 1)
    (λ b. let called : calls_for_wake word ≡ true = (λ i. cond (eq-eqb _ _ a i) (cond (eq-eqb _ _ b i) (eq-eqb _ _ part i) false) false) in absurd (cc))
    (λ b. inr (omega arith)))
    (λ a. inl (omega arith))

abbrev pub own_of : View → Option ℕ
own_of v = v.own

-- A SEAT GOES ON. It sleeps for the lock only where it did, goes on to attend to it, and those who answered answer; those who sleep are listed no more than before
module _ (homes moved : List (maybe.Option Waiters)) (views : List View) (id : ℕ) (v w : View) (at : get_elem? views id ≡ maybe.some v) (l : ℕ) where
  carried_over : (word x : ℕ) → (lock_part x ≡ 0 → lock_part word ≡ 0) → (committed_at w.place ≡ Some l → (committed_at v.place ≡ Some l) × (w.own ≡ v.own)) → (attends_at v.place ≡ Some l → attends_at w.place ≡ Some l)
      → ((j p : ℕ) (u : View) → get_elem? (set views id w) j ≡ maybe.some u → u.own ≡ Some p → committed_at u.place ≡ Some l → on_lists p moved (map stance_of (set views id w)) ≤ on_lists p homes (map stance_of views))
      → (Answers l homes (map stance_of views) → Answers l moved (map stance_of (set views id w))) → FreeLockIsAnswered l word homes views → FreeLockIsAnswered l x moved (set views id w)
  carried_over word x part sleeps attending fewer answering was free j p u there own asleep some = let less = fewer j p u there own asleep in ⊎_elim
      (λ (t : (j ≡ id) × (w ≡ u)). let before = sleeps (ap (λ (o : View). committed_at o.place) t.1 ∙ asleep) in
      still (was (part free) id p v at (sym before.1 ∙ (ap own_of t.1 ∙ own)) before.0 (omega arith)))
      (λ (t : (j ≢ id) × (get_elem? views j ≡ maybe.some u)). still (was (part free) j p u t.1 own asleep (omega arith)))
      (at_set views id j w u there)
    where
      attended : Attends l views → Attends l (set views id w)
      attended a = dite (ℕ_discrete a.id id)
          (λ here. let mine : a.view ≡ v = maybe.some-injective a.view v (sym a.at ∙ (ap (get_elem? views) here ∙ at)) in
          record { id = id; view = w; at = set_there views id v w at; attends = attending (ap (λ (o : View). attends_at o.place) (sym mine) ∙ a.attends) })
          (λ ne. record { id = a.id; view = a.view; at = set_else views id a.id w ne ∙ a.at; attends = a.attends })

      still : IsAnswered l homes views → IsAnswered l moved (set views id w)
      still h = ⊎_elim (λ a. inl (answering a)) (λ a. inr (attended a)) h

-- A STEP. What it does for the lock l, which nobody holds afterwards and whose word is then this one
data Outcome (l word : ℕ) (v w : View) : Type 0 where
  goes : mode_in l w ≡ mode_in l v → Goes l v.place w.place → Outcome l word v w
  attending : attends_at w.place ≡ Some l → Outcome l word v w
  settles : has_flag release_ok word ≡ 0 → Outcome l word v w
  empties : has_flag has_waiters word ≡ 0 → Outcome l word v w

-- a release that leaves the word x
released : (o : Option Call) (l x word : ℕ) (v w : View) (p : Place) → w.place ≡ let_go o l x p → word ≡ x → lock_part x ≡ 0 → Outcome l word v w
released o l x word v w p place is part = by_call (calls_for_wake x) refl
  where
    by_call : (c : Bool) → calls_for_wake x ≡ c → Outcome l word v w
    by_call true e = attending (ap attends_at place ∙ ap (λ (b : Bool). attends_at (cond b (TakingList l ∷ Waking l (after_store o) ∷ p) p)) e)
    by_call false e = ⊎_elim (λ clear. empties (ap (has_flag has_waiters) is ∙ clear)) (λ clear. settles (ap (has_flag release_ok) is ∙ clear)) (no_call x part e)

-- the exchange of a wake: it took somebody who wants the lock, or leaves nobody on the list
woken : (l k old to word : ℕ) (v w : View) (p : Place) → MayDetach k old to p → word ≡ to → Outcome l word v w
woken l k old to word v w (Detaching j updated found n ∷ p) ok is = by_locker (has_locker (taken_from found)) refl
  where
    by_locker : (b : Bool) → has_locker (taken_from found) ≡ b → Outcome l word v w
    by_locker true e = settles (ap (has_flag release_ok) (is ∙ ok.2) ∙ woken_cleared (taken_from found) (kept_from found) old e)
    by_locker false e = empties (ap (has_flag has_waiters) (is ∙ ok.2) ∙ woken_emptied (taken_from found) (kept_from found) old (all_taken found e))
woken l k old to word v w p ok is = absurd ok

module _ (lawful : ℕ → List ℕ → Type 0) (z : Size) (s : LwState) (r : Rule lawful z s) (id : ℕ) (v : View) (at : get_elem? s.views id ≡ maybe.some v) (l : ℕ) (below : l < z.locks) where
  abbrev found_by : LwStep → ℕ
  found_by k = get_or s.words (word_of z (number_of v.own) k) 0

  abbrev view_by : LwStep → View
  view_by k = next k v (found_by k) (home_list s.homes (lock_number k))

  abbrev word_by : LwStep → ℕ
  word_by k = get_or (set s.words (word_of z (number_of v.own) k) (becomes k (found_by k))) (state_at l) 0

  fits : PlaceFits v.holds v.surplus v.place
  fits = (places.mine lawful z s r id v at).place

  -- what the step k does for l
  abbrev Does : LwStep → Type 0
  Does k = Outcome l (word_by k) v (view_by k)

  -- the word of the step is that of l
  stored_here : (i x : ℕ) → i ≡ l → get_or (set s.words (state_at i) x) (state_at l) 0 ≡ x
  stored_here i x is = let long = r.sized.long in ap (λ (j : ℕ). get_or (set s.words (state_at j) x) (state_at l) 0) is ∙ get_or-set_same s.words (state_at l) x 0 (omega arith)

  -- a hold of a lock changes
  held_else : (i : ℕ) (h : Hold) → i ≢ l → (get_or (set v.holds i h) l not_held).mode ≡ mode_in l v
  held_else i h ne = ap mode_of_hold (get_or-set_other v.holds i l h not_held (λ e. ne (sym e)))

  held_here : (i : ℕ) (h : Hold) → i ≡ l → (get_or (set v.holds i h) l not_held).mode ≡ h.mode
  held_here i h is = ap (λ (j : ℕ). (get_or (set v.holds j h) l not_held).mode) is ∙ ap mode_of_hold (get_or-set_same v.holds l h not_held (inside_holds lawful z s r id v at l below))

  by_kind : (k : LwStep) → IsInRange z k → Allowed lawful k v → lock_part (word_by k) ≡ 0 → mode_in l (view_by k) ≡ None → Does k
  by_kind (kind.Load i None) inside ok free none = goes refl (loaded_goes l v.holds v.surplus i (get_or s.words (state_at i) 0) v.place ok fits)
  by_kind (kind.Load i (Some (call.Try j m))) inside ok free none = goes refl (begun_goes l v.place _ ok.1 refl)
  by_kind (kind.Load i (Some (call.Acquire j m))) inside ok free none = goes refl (begun_goes l v.place _ ok.1 refl)
  by_kind (kind.Load i (Some (call.AcquireOrWait j m))) inside ok free none = goes refl (begun_goes l v.place _ ok.1 refl)
  by_kind (kind.Load i (Some c)) inside ok free none = absurd ok
  by_kind (kind.Grant i m w) inside ok free none = let n : ℕ = get_or s.words (state_at i) 0 in let k : LwStep = kind.Grant i m w in let at_top = top_is v.place (Trying i m w) ok.0 in let now = places.tries lawful z s r id v at i w m ok.0 in
      on_exchange n w (λ (b : Bool). let u = cond b (gripped v k i n (on_grant v.surplus (outer v.place)) (held m) (v.grants + 1)) (moved v k n (Trying i m n ∷ outer v.place)) in mode_in l u ≡ None → Outcome l (word_by k) v u)
      (λ hit unheld_now. dite (ℕ_discrete i l)
      (λ is. absurd (let has = held_here i (held m) is in cc))
      (λ ne. goes (held_else i (held m) ne) (subst (λ (p : Place). Goes l p (on_grant v.surplus (outer v.place))) (sym at_top) (granted_goes l i w v.surplus m (outer v.place) ne now.2))))
      (λ miss unheld_now. goes refl (subst (λ (p : Place). Goes l p (Trying i m n ∷ outer v.place)) (sym at_top) (retried_goes l i w n v.surplus m (outer v.place) now.2)))
      none
  by_kind (kind.Refuse i m w) inside ok free none = let n : ℕ = get_or s.words (state_at i) 0 in let k : LwStep = kind.Refuse i m w in let at_top = top_is v.place (Trying i m w) ok.0 in let now = places.tries lawful z s r id v at i w m ok.0 in
      on_exchange n w (λ (b : Bool). Outcome l (word_by k) v (moved v k n (cond b (on_refusal (outer v.place)) (Trying i m n ∷ outer v.place))))
      (λ hit. dite (ℕ_discrete i l)
      (λ is. let word = stored_here i n is in let clear = free_part m w (ap lock_part (sym hit ∙ sym word) ∙ free) in let blocked = ok.1 in absurd (cc))
      (λ ne. goes refl (subst (λ (p : Place). Goes l p (on_refusal (outer v.place))) (sym at_top) (refused_goes l i w v.surplus m (outer v.place) ne now.2))))
      (λ miss. goes refl (subst (λ (p : Place). Goes l p (Trying i m n ∷ outer v.place)) (sym at_top) (retried_goes l i w n v.surplus m (outer v.place) now.2)))
  by_kind (kind.Sub i m b) inside ok free none = let n : ℕ = get_or s.words (state_at i) 0 in let x : ℕ = n - grant_of m in dite (ℕ_discrete i l)
      (λ is. let word = stored_here i x is in released b l x (word_by (kind.Sub i m b)) v _ (releasing b v.place) (ap (λ (j : ℕ). let_go b j x (releasing b v.place)) is) word (ap lock_part (sym word) ∙ free))
      (λ ne. goes (held_else i not_held ne) (let_go_goes l b i x v (begun_release b i v fits ok.0) ok.0))
  by_kind (kind.Peek i (Some (call.WaitForVar j old))) inside ok free none = goes refl (peeked_goes l v.surplus j old (get_or s.words (state_at i) 0) v.place ok.1)
  by_kind (kind.Peek i None) inside ok free none = let n : ℕ = get_or s.words (state_at i) 0 in goes refl (looked_on_goes l v.holds v.surplus i n v.place ok fits
      (λ blocked is. let word = stored_here i n is in let clear = free_part Shared n (ap lock_part (sym word) ∙ free) in cc))
  by_kind (kind.Peek i (Some c)) inside ok free none = absurd ok
  by_kind (kind.Guard i k o) inside ok free none = let h : Hold = guard_hold o (hold_in i v) k (get_or s.words (guard_at i k) 0) in
      goes (dite (ℕ_discrete i l) (λ is. held_here i h is ∙ ap (λ (j : ℕ). mode_in j v) is) (λ ne. held_else i h ne)) (begun_goes l v.place v.place ok.1 (ap committed_at ok.1))
  by_kind (kind.Lock i b) inside ok free none = let now = taking_fits (lawful i) b i v fits ok in goes refl (taking_goes l (lawful i) b i v _ ok (by_place (taking b v.place) now.0 now.1))
    where
      by_place : (p : Place) → MayTake i p → PlaceFits v.holds v.surplus p → let clear = eqb (has_flag locked (get_or s.words (state_at i) 0)) 0 in Goes l p (cond clear (in_hand (home_list s.homes i) (outer p)) (Spinning i ∷ outer p))
      by_place (f ∷ p) may at_place = taken_goes l v.holds v.surplus i (home_list s.homes i) f p may at_place _
      by_place [] may at_place = absurd may
  by_kind (kind.VarLoad i) inside ok free none = goes refl (compared_goes l v.holds v.surplus i (get_or s.words (var_at i) 0) v.place ok fits)
  by_kind (kind.VarStore i x) inside ok free none = goes refl (published_goes l i x v.place ok)
  by_kind (kind.Unlock i c) inside ok free none = goes refl (sent_goes l v.holds v.surplus i (number_of v.own) c v.place ok fits)
  by_kind (kind.Flag i) inside ok free none = goes refl (flagged_goes l i v.place ok)
  by_kind (kind.WaitStore q x) inside ok free none = goes refl (stored_goes l v.holds v.surplus q x v.own v.place ok fits)
  by_kind kind.WaitLoad inside ok free none = goes refl (reread_goes l v.holds v.surplus _ v.place ok fits)
  by_kind (kind.Wake i w to) inside ok free none = let n : ℕ = get_or s.words (state_at i) 0 in let k : LwStep = kind.Wake i w to in
      on_exchange n w (λ (b : Bool). Outcome l (get_or (set s.words (state_at i) (cond b to n)) (state_at l) 0) v (moved_list v k n (home_list s.homes i) (detached b n v.place)))
      (λ hit. dite (ℕ_discrete i l) (λ is. woken l i w to _ v _ v.place ok (stored_here i to is)) (λ ne. goes refl (detached_goes l v.holds v.surplus i w to n v.place ne ok fits)))
      (λ miss. goes refl (missed_goes l i w to n v.place ok))
  by_kind (kind.Post q None) inside ok free none = goes refl (posted_goes l v.holds v.surplus q v.own v.place ok fits)
  by_kind (kind.Post q (Some (call.Poke i))) inside ok free none = goes refl (begun_goes l v.place _ ok.1 (ap (λ (p : Place). committed_at (posted (surplus_posted p v.surplus) p)) ok.1))
  by_kind (kind.Post q (Some c)) inside ok free none = absurd ok
  by_kind (kind.Look b) inside ok free none = goes refl (looked_goes l b v.place ok _)
  by_kind kind.Down inside ok free none = let at_top = top_is v.place Downing ok in
      goes refl (subst (λ (p : Place). Goes l p (outer v.place)) (sym at_top) (down_goes l v.holds v.surplus (outer v.place) (subst (PlaceFits v.holds v.surplus) at_top fits)))
  by_kind (kind.SetReleaseOk i) inside ok free none = goes refl (answered_goes l v.holds v.surplus i v.place ok fits none)

  -- THE STEP
  module _ (k : LwStep) (inside : IsInRange z k) (numbered : v.own ≡ None → ⊥) (ok : Allowed lawful k v) (b : Beside z (after z s id v k)) where
    abbrev now : LwState
    now = after z s id v k

    seat_there : get_elem? (map stance_of s.views) id ≡ maybe.some (stance_of v)
    seat_there = at_seen stance_of s.views id v (stance_of v) at refl

    view_there : get_elem? now.views id ≡ maybe.some (view_by k)
    view_there = set_there s.views id v (view_by k) at

    looks : map stance_of now.views ≡ set (map stance_of s.views) id (stance_of (view_by k))
    looks = seen stance_of s.views id (view_by k) (stance_of (view_by k)) refl

    own_kept : (view_by k).own ≡ v.own
    own_kept = ap (λ (x : Numbers). x.own) (numbers_kept k v (found_by k) (home_list s.homes (lock_number k)))

    -- where the mode of the seat stays, so does the lock part
    part_kept : mode_in l (view_by k) ≡ mode_in l v → lock_part (word_by k) ≡ lock_part (get_or s.words (state_at l) 0)
    part_kept mode = let a = (r.counts l below).counted in let c = (b.counts l below).counted in
        c ∙ (ap (λ (modes : List (Option Mode)). 0x0100_0000 * total is_exclusive modes + total is_shared modes) (unseen (mode_in l) s.views id v (view_by k) at mode) ∙ sym a)

    -- nobody who sleeps for the lock is listed more
    fewer : (committed_at (view_by k).place ≡ Some l → committed_at v.place ≡ Some l) → (j p : ℕ) (u : View) → get_elem? now.views j ≡ maybe.some u → u.own ≡ Some p → committed_at u.place ≡ Some l
        → on_lists p now.homes (map stance_of now.views) ≤ on_lists p s.homes (map stance_of s.views)
    fewer sleeps j p u there own asleep = subst (λ (xs : List Stance). on_lists p now.homes xs ≤ on_lists p s.homes (map stance_of s.views)) (sym looks)
        (listed_fewer z s.words s.homes (map stance_of s.views) (out lawful z s r) id (stance_of v) seat_there now.homes _ _ (stance_of (view_by k)) (step_turn lawful z s r id v at k inside numbered ok) p quiet)
      where
        quiet : v.own ≡ Some p → announced_at v.place ≡ false
        quiet mine = ⊎_elim
            (λ (t : (j ≡ id) × (view_by k ≡ u)). committed_quiet l v.place (sleeps (ap (λ (o : View). committed_at o.place) t.1 ∙ asleep)))
            (λ (t : (j ≢ id) × (get_elem? s.views j ≡ maybe.some u)). absurd (two_numbers (map stance_of s.views) (alone lawful z s r) id j p (stance_of v) (stance_of u) seat_there (at_seen stance_of s.views j u (stance_of u) t.1 refl) t.0 mine own))
            (at_set s.views id j (view_by k) u there)

    -- who answers still does
    answering : (queued_at v.place ≡ None → due_at v.place ≡ Some l → ⊥) → Answers l s.homes (map stance_of s.views) → Answers l now.homes (map stance_of now.views)
    answering undue a = subst (Answers l now.homes) (sym looks)
        (still_answers z s.words s.homes (map stance_of s.views) (out lawful z s r) id (stance_of v) seat_there now.homes _ _ (stance_of (view_by k)) own_kept (alone lawful z s r) (sound lawful z s r id (stance_of v) seat_there) r.listed
        (step_turn lawful z s r id v at k inside numbered ok) l undue a)

    attended : attends_at (view_by k).place ≡ Some l → Attends l now.views
    attended e = record { id = id; view = view_by k; at = view_there; attends = e }

    -- each by_kind keeps the part
    kept : Outcome l (word_by k) v (view_by k) → FreeLockIsAnswered l (word_by k) now.homes now.views
    kept (goes mode (attends e)) free j p u there own asleep some = inr (attended e)
    kept (goes mode (passes unattended sleeps undue)) free j p u there own asleep some = carried_over s.homes now.homes s.views id v (view_by k) at l (get_or s.words (state_at l) 0) (word_by k) (λ e. sym (part_kept mode) ∙ e)
        (λ e. (sleeps e, own_kept)) (λ e. absurd (unattended e)) (fewer sleeps) (answering undue) (r.free l below) free j p u there own asleep some
    kept (attending e) free j p u there own asleep some = inr (attended e)
    kept (settles clear) free j p u there own asleep some = inl (b.answers l below clear)
    kept (empties clear) free j p u there own asleep some = let none = b.flags l below clear in let more = listed_there z now b l j p u there own (committed_queued l u.place asleep) some in absurd (omega arith)

    stepped_free : FreeLockIsAnswered l (word_by k) now.homes now.views
    stepped_free free = kept (by_kind k inside ok free (none_holds (map (mode_in l) now.views) id (word_by k) (mode_in l (view_by k)) (at_seen (mode_in l) now.views id (view_by k) (mode_in l (view_by k)) view_there refl) (b.counts l below) free)) free

-- A MOVE. A seat is where it was, and has its number if it sleeps for the lock or answers for it
stands : (homes : List (maybe.Option Waiters)) (views : List View) (id l word : ℕ) (v w : View) → get_elem? views id ≡ maybe.some v → w.place ≡ v.place
    → (committed_at v.place ≡ Some l → w.own ≡ v.own) → (due_at v.place ≡ Some l → w.own ≡ v.own) → FreeLockIsAnswered l word homes views → FreeLockIsAnswered l word homes (set views id w)
stands homes views id l word v w at place own own' was = carried_over homes homes views id v w at l word word (λ e. e) (λ e. let before = ap committed_at (sym place) ∙ e in (before, own before)) (λ e. ap attends_at place ∙ e)
    (λ j p u there number asleep. let same = listed_stands homes views id v w at place p in omega arith) answering was
  where
    before : get_elem? (map stance_of views) id ≡ maybe.some (stance_of v)
    before = at_seen stance_of views id v (stance_of v) at refl

    looks : map stance_of (set views id w) ≡ set (map stance_of views) id (stance_of w)
    looks = seen stance_of views id w (stance_of w) refl

    listed_set : (p : ℕ) → on_lists p homes (set (map stance_of views) id (stance_of w)) ≡ on_lists p homes (map stance_of views)
    listed_set p = listed_same homes (map stance_of views) id (stance_of v) (stance_of w) before p (ap (λ (q : Place). times_on p (hand_list (hand_at q))) place)

    answering : Answers l homes (map stance_of views) → Answers l homes (map stance_of (set views id w))
    answering a = subst (Answers l homes) (sym looks) (dite (ℕ_discrete a.id id)
        (λ here. let mine : a.seat ≡ stance_of v = found_here (map stance_of views) id (stance_of v) before a.id a.seat a.at here in let due : due_at v.place ≡ Some l = sym (ap (λ (u : Stance). u.due) mine) ∙ a.due in record {
          id = id;
          seat = stance_of w;
          proc = a.proc;
          at = set_there (map stance_of views) id (stance_of v) (stance_of w) before;
          own = own' due ∙ (sym (ap (λ (u : Stance). u.own) mine) ∙ a.own);
          due = ap due_at place ∙ due;
          off = listed_set a.proc ∙ a.off;
        })
        (λ ne. elsewhere (map stance_of views) id (stance_of v) before homes (stance_of w) l a.id a.proc a.seat a.at a.own a.due (listed_set a.proc ∙ a.off) ne))

-- a seat comes
comes_free : (homes : List (maybe.Option Waiters)) (views : List View) (l word : ℕ) (own : Option ℕ) → FreeLockIsAnswered l word homes views → FreeLockIsAnswered l word homes (views ++ fresh own ∷ [])
comes_free homes views l word own was free j p u there number asleep some = ⊎_elim
    (λ (before : get_elem? views j ≡ maybe.some u). let same = listed_comes homes views own p in
    still (was free j p u before number asleep (omega arith)))
    (λ (is : fresh own ≡ u). absurd (let none : None ≡ Some l = ap (λ (o : View). committed_at o.place) is ∙ asleep in cc))
    (at_snoc views (fresh own) u j there)
  where
    more : map stance_of (views ++ fresh own ∷ []) ≡ map stance_of views ++ stance_of (fresh own) ∷ []
    more = seen_more stance_of views (fresh own)

    still : IsAnswered l homes views → IsAnswered l homes (views ++ fresh own ∷ [])
    still h = ⊎_elim
        (λ a. inl (subst (Answers l homes) (sym more) (owed_added l 0 homes (map stance_of views) own (λ clear. a) refl)))
        (λ a. inr record { id = a.id; view = a.view; at = at_longer views (fresh own ∷ []) a.id a.view a.at; attends = a.attends })
        h

-- THE PART, after each kind of step and each move
module _ (lawful : ℕ → List ℕ → Type 0) (z : Size) (s : LwState) (r : Rule lawful z s) (id : ℕ) (v : View) (at : get_elem? s.views id ≡ maybe.some v) where
  pub free_step : (k : LwStep) → IsInRange z k → (v.own ≡ None → ⊥) → Allowed lawful k v → Beside z (after z s id v k) → EachFreeLockIsAnswered z (after z s id v k)
  free_step k inside numbered ok b l below = stepped_free lawful z s r id v at l below k inside numbered ok b

  pub free_draw : EachFreeLockIsAnswered z (drawn s id v)
  free_draw l below = subst (λ (n : ℕ). FreeLockIsAnswered l n s.homes (set s.views id (drew_one v))) (sym (get_or-set_other s.words 0 (state_at l) (get_or s.words 0 0 + 1) 0 (λ e. omega arith)))
      (stands s.homes s.views id l _ v (drew_one v) at refl (λ e. refl) (λ e. refl) (r.free l below))

  pub free_split : EachFreeLockIsAnswered z (split s id v)
  free_split l below = comes_free s.homes (set s.views id (stays v)) l _ v.pending (stands s.homes s.views id l _ v (stays v) at refl (λ e. refl) (λ e. refl) (r.free l below))

  pub free_join : (other : ℕ) (w : View) → (other ≡ id → ⊥) → get_elem? s.views other ≡ maybe.some w → w.pending ≡ None → w.place ≡ [] → HoldsNothing w
      → EachFreeLockIsAnswered z (joined s id v other w)
  free_join other w apart there settled idle_is empty l below = stands s.homes (set s.views id (both v w)) other l _ w spent (set_else s.views id other (both v w) apart ∙ there) (sym idle_is)
      (λ e. let none : None ≡ Some l = ap committed_at (sym idle_is) ∙ e in absurd (cc)) (λ e. let none : None ≡ Some l = ap due_at (sym idle_is) ∙ e in absurd (cc))
      (stands s.homes s.views id l _ v (both v w) at refl (λ e. refl) (λ e. refl) (r.free l below))

-- at the opening nobody sleeps
pub free_opens : (z : Size) (words : List ℕ) (lists : List Waiters) (own : Option ℕ) → EachFreeLockIsAnswered z (opening {S = Waiters} words lists (fresh own))
free_opens z words lists own l below free zero p u there number asleep some = let none : None ≡ Some l = ap (λ (o : View). committed_at o.place) (maybe.some-injective (fresh own) u there) ∙ asleep in absurd (cc)
free_opens z words lists own l below free (suc j) p u there number asleep some = absurd (maybe.some-ne-none u (sym there))
