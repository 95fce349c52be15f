-- Each lock's word counts its holders, after each kind of step and each move.
use Rattle.std.proofs.Common.{◌≡◌, ℕ, ◌+◌, ◌-◌, ◌^◌, ◌<◌, ◌≤◌, Bool, true, cond, List, [], ◌∷◌, ◌++◌, length, map, set, get_or, Option, None, Some, sym, refl, ap, ◌∙◌, subst, arith, get_or-set_same, get_or-set_other}
use mathlib.Core.Option as maybe
use lib.ListN.{get_elem?}
use lib.Seq.{set-get_or}
use Rattle.proc_table.specs.declared.Mode.{Mode}
use Rattle.lw_core.specs.declared.step.LwStep.{LwStep}
use Rattle.lw_core.specs.declared.step.LwStep.TheVariants as kind
use Rattle.lw_core.specs.declared.view.Frame.TheVariants.{Trying, Detaching}
use Rattle.lw_core.specs.declared.view.View.{View}
use Rattle.lw_core.specs.declared.view.Size.{Size}
use Rattle.seat_roster.specs.Totals.{total}
use Rattle.seat_roster.specs.Roster.{count, one_if}
use Rattle.lw_core.specs.Words.{state_at, guard_at, grant_of, is_free, lock_part}
use Rattle.lw_core.specs.WaitLists.{taken_from, kept_from, home_list}
use Rattle.lw_core.specs.Machine.{LwState, Place, outer, not_held, held, hold_in, mode_in, number_of, lock_of, lock_number, IsInRange, word_of, becomes, moved, moved_list, gripped, on_grant, let_go, detached, next, MayDetach, Allowed, after, HoldsNothing, releasing, guard_hold, guard_becomes}
use Rattle.lw_core.specs.CountsHolders.{is_shared, is_exclusive, CountsHolders}
use Rattle.lw_core.specs.Rule.{numbers_of, EachCountsHolders, Rule}
use Rattle.lw_core.specs.Runs.{drew_one, stays, comes, both, spent, drawn, split, joined}
use Rattle.lw_core.specs.Seats.{mode_of_hold}
use Rattle.seat_roster.proofs.Totals.{total_map, total_sum_le}
use Rattle.seat_roster.proofs.Stretches.{frame, seen, seen_more, at_seen, unseen, for_same}
use Rattle.lw_core.proofs.Holders.{one_mode, counts_granted, counts_released, counts_flagged, counts_more}
use Rattle.lw_core.proofs.Flags.{part_set, part_unlocked, part_woken, small_set, small_unlocked, small_woken}
use Rattle.lw_core.proofs.Touches.{on_exchange, on_lock, hold_here, hold_else, word_apart, fresh_hold}
use Rattle.lw_core.proofs.Places as places

module _ (lawful : ℕ → List ℕ → Type 0) (z : Size) (s : LwState) (r : Rule lawful z s) where
  -- few seats hold a lock, since each has a number of its own
  few_holders : (l : ℕ) → total is_shared (map (mode_in l) s.views) + total is_exclusive (map (mode_in l) s.views) ≤ 64
  few_holders l =
      let a = total_map is_shared (mode_in l) s.views in let b = total_map is_exclusive (mode_in l) s.views in let c = total_map count numbers_of s.views in
      let most = total_sum_le (λ (u : View). is_shared (mode_in l u)) (λ (u : View). is_exclusive (mode_in l u)) (λ (u : View). count (numbers_of u)) s.views (λ i u e. one i u e u.own refl) in
      let few = r.roster.few in let counted = r.roster.counted in let procs = r.sized.procs in omega arith
    where
      one : (i : ℕ) (u : View) → get_elem? s.views i ≡ maybe.some u → (o : Option ℕ) → u.own ≡ o → is_shared (mode_in l u) + is_exclusive (mode_in l u) ≤ count (numbers_of u)
      one i u e None own = let free = (places.mine lawful z s r i u e).unnumbered own l in let a : is_shared (mode_in l u) ≡ 0 = ap is_shared free in let b : is_exclusive (mode_in l u) ≡ 0 = ap is_exclusive free in omega arith
      one i u e (Some p) own = let a = one_mode (mode_in l u) in let b : one_if u.own ≡ 1 = ap one_if own in omega arith

  module _ (id : ℕ) (v : View) (at : get_elem? s.views id ≡ maybe.some v) where
    -- the word of l and the mode of the seat are what they were
    same : (l : ℕ) (words : List ℕ) (w : View) → l < z.locks → get_or words (state_at l) 0 ≡ get_or s.words (state_at l) 0 → mode_in l w ≡ mode_in l v
        → CountsHolders (get_or words (state_at l) 0) (map (mode_in l) (set s.views id w))
    same l words w below word mode = for_same _ _ word (λ (x : ℕ). CountsHolders x (map (mode_in l) (set s.views id w))) (for_same _ _ (unseen (mode_in l) s.views id v w at mode) (CountsHolders (get_or s.words (state_at l) 0)) (r.counts l below))

    -- the seat has another mode of l, and the word fits
    other : (l n : ℕ) (o : Option Mode) (w : View) → l < z.locks → mode_in l w ≡ o → CountsHolders n (set (map (mode_in l) s.views) id o)
        → CountsHolders (get_or (set s.words (state_at l) n) (state_at l) 0) (map (mode_in l) (set s.views id w))
    other l n o w below mode c = let wide = r.sized.long in for_same _ _ (get_or-set_same s.words (state_at l) n 0 (omega arith)) (λ (x : ℕ). CountsHolders x (map (mode_in l) (set s.views id w)))
        (for_same _ _ (seen (mode_in l) s.views id w o mode) (CountsHolders n) c)

    read : (l : ℕ) (w : View) → l < z.locks → mode_in l w ≡ mode_in l v → CountsHolders (get_or (set s.words (state_at l) (get_or s.words (state_at l) 0)) (state_at l) 0) (map (mode_in l) (set s.views id w))
    read l w below mode = same l (set s.words (state_at l) (get_or s.words (state_at l) 0)) w below (ap (λ (x : List ℕ). get_or x (state_at l) 0) (set-get_or s.words (state_at l) 0)) mode

    pub inside_holds : (l : ℕ) → l < z.locks → l < length v.holds
    inside_holds l below = let long = (places.mine lawful z s r id v at).long in let most = r.sized.locks in omega arith

    -- the word has other flags
    flags : (l x : ℕ) (w : View) → l < z.locks → mode_in l w ≡ mode_in l v → lock_part x ≡ lock_part (get_or s.words (state_at l) 0) → x < 2 ^ 32
        → CountsHolders (get_or (set s.words (state_at l) x) (state_at l) 0) (map (mode_in l) (set s.views id w))
    flags l x w below mode part small = let wide = r.sized.long in for_same _ _ (get_or-set_same s.words (state_at l) x 0 (omega arith)) (λ (n : ℕ). CountsHolders n (map (mode_in l) (set s.views id w)))
        (for_same _ _ (unseen (mode_in l) s.views id v w at mode) (CountsHolders x) (counts_flagged (map (mode_in l) s.views) (get_or s.words (state_at l) 0) x part small (r.counts l below)))

    -- the lock that the step is on
    by_kind : (k : LwStep) → lock_of k ≡ Some (lock_number k) → lock_number k < z.locks → (v.own ≡ None → ⊥) → Allowed lawful k v → let n = get_or s.words (word_of z (number_of v.own) k) 0 in
        CountsHolders (get_or (set s.words (word_of z (number_of v.own) k) (becomes k n)) (state_at (lock_number k)) 0) (map (mode_in (lock_number k)) (set s.views id (next k v n (home_list s.homes (lock_number k)))))
    by_kind (kind.Load l b) on below numbered ok = read l _ below refl
    by_kind (kind.Grant l m w) on below numbered ok = let n : ℕ = get_or s.words (state_at l) 0 in let k : LwStep = kind.Grant l m w in let now = places.tries lawful z s r id v at l w m ok.0 in
        on_exchange n w (λ (b : Bool). CountsHolders (get_or (set s.words (state_at l) (cond b (w + grant_of m) n)) (state_at l) 0) (map (mode_in l) (set s.views id (cond b (gripped v k l n (on_grant v.surplus (outer v.place)) (held m) (v.grants + 1)) (moved v k n (Trying l m n ∷ outer v.place))))))
        (λ hit. other l (w + grant_of m) (Some m) _ below (ap mode_of_hold (hold_here v k l n (on_grant v.surplus (outer v.place)) (held m) (v.grants + 1) (inside_holds l below)))
        (subst (λ (x : ℕ). CountsHolders (x + grant_of m) (set (map (mode_in l) s.views) id (Some m))) hit
        (counts_granted (map (mode_in l) s.views) id n m (at_seen (mode_in l) s.views id v None at now.0) (subst (λ (x : ℕ). is_free m x ≡ true) (sym hit) ok.1) (few_holders l) (r.counts l below))))
        (λ miss. read l _ below refl)
    by_kind (kind.Refuse l m w) on below numbered ok = read l _ below refl
    by_kind (kind.Sub l m b) on below numbered ok = let n : ℕ = get_or s.words (state_at l) 0 in let k : LwStep = kind.Sub l m b in
        other l (n - grant_of m) None _ below (ap mode_of_hold (hold_here v k l n (let_go b l (n - grant_of m) (releasing b v.place)) not_held v.grants (inside_holds l below)))
        (counts_released (map (mode_in l) s.views) id n m (at_seen (mode_in l) s.views id v (Some m) at ok.1) (r.counts l below))
    by_kind (kind.Peek l b) on below numbered ok = read l _ below refl
    by_kind (kind.Guard l k o) on below numbered ok = let n : ℕ = get_or s.words (guard_at l k) 0 in let x : ℕ = guard_becomes o n in same l (set s.words (guard_at l k) x) _ below (get_or-set_other s.words (guard_at l k) (state_at l) x 0 (λ e. omega arith))
        (ap mode_of_hold (hold_here v (kind.Guard l k o) l n v.place (guard_hold o (hold_in l v) k n) v.grants (inside_holds l below)))
    by_kind (kind.Lock l b) on below numbered ok = flags l _ _ below refl (part_set 28 _ (omega arith)) (small_set 28 _ (omega arith) (r.counts l below).fits)
    by_kind (kind.Unlock l c) on below numbered ok = flags l _ _ below refl (part_unlocked c _) (small_unlocked c _ (r.counts l below).fits)
    by_kind (kind.Flag l) on below numbered ok = flags l _ _ below refl (part_set 30 _ (omega arith)) (small_set 30 _ (omega arith) (r.counts l below).fits)
    by_kind (kind.Wake l w to) on below numbered ok = let n : ℕ = get_or s.words (state_at l) 0 in
        on_exchange n w (λ (b : Bool). CountsHolders (get_or (set s.words (state_at l) (cond b to n)) (state_at l) 0) (map (mode_in l) (set s.views id (moved_list v (kind.Wake l w to) n (home_list s.homes l) (detached b n v.place)))))
        (λ hit. woken v.place hit ok)
        (λ miss. read l _ below refl)
      where
        woken : (p : Place) → get_or s.words (state_at l) 0 ≡ w → MayDetach l w to p → CountsHolders (get_or (set s.words (state_at l) to) (state_at l) 0) (map (mode_in l) (set s.views id (moved_list v (kind.Wake l w to) (get_or s.words (state_at l) 0) (home_list s.homes l) (detached true (get_or s.words (state_at l) 0) v.place))))
        woken (Detaching k updated found word ∷ p) hit d = flags l to _ below refl
            (ap lock_part d.2 ∙ (part_woken (taken_from found) (kept_from found) w ∙ ap lock_part (sym hit)))
            (subst (λ (x : ℕ). x < 2 ^ 32) (sym d.2) (small_woken (taken_from found) (kept_from found) w (subst (λ (x : ℕ). x < 2 ^ 32) hit (r.counts l below).fits)))
        woken p hit d = absurd d
    by_kind (kind.SetReleaseOk l) on below numbered ok = flags l _ _ below refl (part_set 29 _ (omega arith)) (small_set 29 _ (omega arith) (r.counts l below).fits)
    by_kind (kind.Post q b) on below numbered ok = absurd (cc)
    by_kind k on below numbered ok = let i : ℕ = word_of z (number_of v.own) k in same (lock_number k) (set s.words i _) _ below (get_or-set_other s.words i (state_at (lock_number k)) _ 0 (λ e. omega arith)) refl

    pub counts_step : (k : LwStep) → IsInRange z k → (v.own ≡ None → ⊥) → Allowed lawful k v → EachCountsHolders z (after z s id v k)
    counts_step k inside numbered ok l below =
        let i : ℕ = word_of z (number_of v.own) k in let n : ℕ = get_or s.words i 0 in let w : View = next k v n (home_list s.homes (lock_number k)) in
        on_lock k l (CountsHolders (get_or (set s.words i (becomes k n)) (state_at l) 0) (map (mode_in l) (set s.views id w)))
        (λ on. let same : lock_number k ≡ l = ap number_of on in
        subst (λ (j : ℕ). CountsHolders (get_or (set s.words i (becomes k n)) (state_at j) 0) (map (mode_in j) (set s.views id w))) same
        (by_kind k (on ∙ ap Some (sym same)) (subst (λ (j : ℕ). j < z.locks) (sym same) below) numbered ok))
        (λ off. frame (mode_in l) CountsHolders s.words i (becomes k n) (state_at l) s.views id v w at (word_apart lawful z (number_of v.own) k v ok l below off (state_at l) (omega arith) (omega arith)) (ap mode_of_hold (hold_else k v n (home_list s.homes (lock_number k)) l off)) (r.counts l below))

    pub counts_draw : EachCountsHolders z (drawn s id v)
    counts_draw l below = same l (set s.words 0 (get_or s.words 0 0 + 1)) (drew_one v) below (get_or-set_other s.words 0 (state_at l) (get_or s.words 0 0 + 1) 0 (λ e. omega arith)) refl

    pub counts_split : EachCountsHolders z (split s id v)
    counts_split l below = let none : mode_in l (comes v) ≡ None = ap mode_of_hold (fresh_hold v.pending l) in
        for_same _ _ (seen_more (mode_in l) (set s.views id (stays v)) (comes v)) (CountsHolders (get_or s.words (state_at l) 0))
        (for_same _ _ none (λ (o : Option Mode). CountsHolders (get_or s.words (state_at l) 0) (map (mode_in l) (set s.views id (stays v)) ++ o ∷ []))
        (counts_more (map (mode_in l) (set s.views id (stays v))) (get_or s.words (state_at l) 0) (same l s.words (stays v) below refl refl)))

    pub counts_join : (other : ℕ) (w : View) → get_elem? (set s.views id (both v w)) other ≡ maybe.some w → HoldsNothing w → EachCountsHolders z (joined s id v other w)
    counts_join other w there empty l below =
        for_same _ _ (unseen (mode_in l) (set s.views id (both v w)) other w spent there (ap mode_of_hold (fresh_hold None l) ∙ sym (empty l))) (CountsHolders (get_or s.words (state_at l) 0)) (same l s.words (both v w) below refl refl)
