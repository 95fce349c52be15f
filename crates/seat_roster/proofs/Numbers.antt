-- The roster is kept when a number is drawn, when it goes to a new seat, and when a seat takes over the numbers of another.
use Rattle.std.proofs.Common.{◌≡◌, ◌≢◌, ℕ, zero, suc, ◌+◌, ◌<◌, ◌≤◌, eqb, cond, List, [], ◌∷◌, ◌++◌, length, set, Option, None, Some, sym, refl, ap, ◌∙◌, subst, ⊎_elim, inl, inr, arith, eq-eqb, length-append}
use Rattle.std.proofs.lemmas.Bool.{cond_both}
use Rattle.std.proofs.lemmas.Bool.Decides.{nat_tests}
use mathlib.Core.Logic.{dite}
use mathlib.Core.Option as maybe
use native.Mathlib.Decide.{ℕ_discrete}
use lib.ListN.{get_elem?}
use Rattle.atomic_table.proofs.Lists.{at_set, at_snoc}
use Rattle.seat_roster.specs.Totals.{total}
use Rattle.seat_roster.specs.Roster.{Numbers, IsDrawer, Roster, one_if, count, times_in, times, stands, once_below, numbered, drew, gave, listed, took}
use Rattle.seat_roster.proofs.Totals.{total_set, total_snoc, total_at, total_two}

once_most : (x n : ℕ) → once_below x n ≤ 1
once_most x n = grind (arith, nat_tests)

once_more : (x n : ℕ) → once_below x (n + 1) ≡ once_below x n + times_in x (Some n)
once_more x n = grind (arith, nat_tests)

once_inside : (x n : ℕ) → 1 ≤ once_below x n → x < n
once_inside x n h = grind (arith, nat_tests)

-- a seat stands for its own number, and for the one that is to go to a new seat
stands_own : (p : ℕ) (v : Numbers) → v.own ≡ Some p → 1 ≤ stands p v
stands_own p v own = let a : times_in p v.own ≡ 1 = ap (times_in p) own ∙ ap (λ b. cond b 1 0) (eq-eqb p p refl) in omega arith

stands_pending : (p : ℕ) (v : Numbers) → v.pending ≡ Some p → 1 ≤ stands p v
stands_pending p v is = let a : times_in p v.pending ≡ 1 = ap (times_in p) is ∙ ap (λ b. cond b 1 0) (eq-eqb p p refl) in omega arith

-- a number is that of one seat
pub one_seat : (procs next : ℕ) (seats : List Numbers) (r : Roster procs next seats) (i j p : ℕ) (v u : Numbers) → get_elem? seats i ≡ maybe.some v → get_elem? seats j ≡ maybe.some u → v.own ≡ Some p → u.own ≡ Some p → i ≡ j
one_seat procs next seats r i j p v u at at' own own' = dite (ℕ_discrete j i) (λ e. sym e)
    (λ ne. let two = total_two (stands p) seats i j v u ne at at' in let most = once_most p next in let all = r.once p in
    let a : times_in p v.own ≡ 1 = ap (times_in p) own ∙ ap (λ b. cond b 1 0) (eq-eqb p p refl) in
    let b : times_in p u.own ≡ 1 = ap (times_in p) own' ∙ ap (λ b. cond b 1 0) (eq-eqb p p refl) in absurd (omega arith))

-- how often a number is on a list
pub times_append : (x : ℕ) (xs ys : List ℕ) → times x (xs ++ ys) ≡ times x xs + times x ys
times_append x [] ys = omega arith
times_append x (y ∷ xs) ys = let r = times_append x xs ys in omega arith

pub times_most : (x : ℕ) (ys : List ℕ) → times x ys ≤ length ys
times_most x [] = omega arith
times_most x (y ∷ ys) = let r = times_most x ys in cond_both (eqb y x) 1 0 (λ (n : ℕ). n + times x ys ≤ length (y ∷ ys)) (λ _. omega arith) (λ _. omega arith)

times_listed : (x : ℕ) (o : Option ℕ) → times x (listed o) ≡ times_in x o
times_listed x None = refl
times_listed x (Some y) = omega arith

length_listed : (o : Option ℕ) (xs ys : List ℕ) → length (xs ++ (listed o ++ ys)) ≡ length xs + (one_if o + length ys)
length_listed None xs ys = length-append xs ys ∙ omega arith
length_listed (Some n) xs ys = length-append xs (n ∷ ys) ∙ omega arith

module _ (procs next : ℕ) (seats : List Numbers) (r : Roster procs next seats) where
  pub most_one : (p : ℕ) → total (stands p) seats ≤ 1
  most_one p = let a = r.once p in let b = once_most p next in omega arith

  inside_of : (i p : ℕ) (v : Numbers) → get_elem? seats i ≡ maybe.some v → 1 ≤ stands p v → p < next
  inside_of i p v at one = once_inside p next (let a = total_at (stands p) seats i v at in let b = r.once p in omega arith)

  -- a number that stands in a seat was drawn
  pub own_inside : (i p : ℕ) (v : Numbers) → get_elem? seats i ≡ maybe.some v → v.own ≡ Some p → p < next
  own_inside i p v at own = inside_of i p v at (stands_own p v own)

  pub pending_inside : (i p : ℕ) (v : Numbers) → get_elem? seats i ≡ maybe.some v → v.pending ≡ Some p → p < next
  pending_inside i p v at is = inside_of i p v at (stands_pending p v is)

  pub roster_drew : (id : ℕ) (v : Numbers) → get_elem? seats id ≡ maybe.some v → v.own ≡ Some 0 → v.pending ≡ None → v.drawn + 1 < procs → Roster procs (next + 1) (set seats id (drew v))
  roster_drew id v at zero_is free more = let mine = r.drawer id v at zero_is in let up = mine.up_to in record {
    once = λ x. let sum = total_set (stands x) seats id v (drew v) at in let all = r.once x in let one = once_more x next in
        let a : times_in x v.pending ≡ 0 = ap (times_in x) free in
        let b : times_in x (Some (v.drawn + 1)) ≡ times_in x (Some next) = ap (λ (n : ℕ). times_in x (Some n)) (sym up) in omega arith;
    counted = let sum = total_set count seats id v (drew v) at in let all = r.counted in let a : one_if v.pending ≡ 0 = ap one_if free in omega arith;
    few = omega arith;
    drawer = λ j u e own. ⊎_elim
        (λ (t : (j ≡ id) × (drew v ≡ u)). subst (λ (x : ℕ × Numbers). IsDrawer (next + 1) x.0 x.1) (λ i. (sym t.0 i, t.1 i)) (record { first = mine.first; up_to = omega arith; kept = inr refl }))
        (λ (t : (j ≢ id) × (get_elem? seats j ≡ maybe.some u)). absurd (t.0 (one_seat procs next seats r j id 0 u v t.1 at own zero_is)))
        (at_set seats id j (drew v) u e);
    later = λ j u e. ⊎_elim
        (λ (t : (j ≡ id) × (drew v ≡ u)). subst (λ (x : Numbers). x.pending ≡ Some 0 → ⊥) t.1 (λ (is : Some (v.drawn + 1) ≡ Some 0). absurd (none_first v.drawn is)))
        (λ (t : (j ≢ id) × (get_elem? seats j ≡ maybe.some u)). r.later j u t.1)
        (at_set seats id j (drew v) u e);
  }
    where
      value : Option ℕ → ℕ
      value None = 0
      value (Some n) = n

      none_first : (n : ℕ) → Some (n + 1) ≡ Some 0 → ⊥
      none_first n e = let same : n + 1 ≡ 0 = ap value e in absurd (omega arith)

  pub roster_gave : (id : ℕ) (v : Numbers) → get_elem? seats id ≡ maybe.some v → Roster procs next (set seats id (gave v) ++ numbered v.pending ∷ [])
  roster_gave id v at = record {
    once = λ x. let a = total_set (stands x) seats id v (gave v) at in let b = total_snoc (stands x) (set seats id (gave v)) (numbered v.pending) in let all = r.once x in omega arith;
    counted = let a = total_set count seats id v (gave v) at in let b = total_snoc count (set seats id (gave v)) (numbered v.pending) in let all = r.counted in omega arith;
    few = r.few;
    drawer = λ j u e own. ⊎_elim
        (λ (s : get_elem? (set seats id (gave v)) j ≡ maybe.some u). ⊎_elim
        (λ (t : (j ≡ id) × (gave v ≡ u)). let mine = r.drawer id v at (ap (λ (x : Numbers). x.own) t.1 ∙ own) in subst (λ (x : ℕ × Numbers). IsDrawer next x.0 x.1) (λ i. (sym t.0 i, t.1 i)) (record { first = mine.first; up_to = mine.up_to; kept = inl refl }))
        (λ (t : (j ≢ id) × (get_elem? seats j ≡ maybe.some u)). r.drawer j u t.1 own)
        (at_set seats id j (gave v) u s))
        (λ (t : numbered v.pending ≡ u). absurd (r.later id v at (ap (λ (x : Numbers). x.own) t ∙ own)))
        (at_snoc (set seats id (gave v)) (numbered v.pending) u j e);
    later = λ j u e. ⊎_elim
        (λ (s : get_elem? (set seats id (gave v)) j ≡ maybe.some u). ⊎_elim
        (λ (t : (j ≡ id) × (gave v ≡ u)). subst (λ (x : Numbers). x.pending ≡ Some 0 → ⊥) t.1 (λ is. absurd (cc)))
        (λ (t : (j ≢ id) × (get_elem? seats j ≡ maybe.some u)). r.later j u t.1)
        (at_set seats id j (gave v) u s))
        (λ (t : numbered v.pending ≡ u). subst (λ (x : Numbers). x.pending ≡ Some 0 → ⊥) t (λ is. absurd (cc)))
        (at_snoc (set seats id (gave v)) (numbered v.pending) u j e);
  }

  pub roster_took : (id other : ℕ) (v w : Numbers) → get_elem? seats id ≡ maybe.some v → get_elem? (set seats id (took v w)) other ≡ maybe.some w → w.pending ≡ None
      → Roster procs next (set (set seats id (took v w)) other (numbered None))
  roster_took id other v w at there clear = record {
    once = λ x. let a = total_set (stands x) seats id v (took v w) at in let b = total_set (stands x) (set seats id (took v w)) other w (numbered None) there in
        let c = times_append x v.taken (listed w.own ++ w.taken) in let d = times_append x (listed w.own) w.taken in let e = times_listed x w.own in let f : times_in x w.pending ≡ 0 = ap (times_in x) clear in let all = r.once x in omega arith;
    counted = let a = total_set count seats id v (took v w) at in let b = total_set count (set seats id (took v w)) other w (numbered None) there in
        let c = length_listed w.own v.taken w.taken in let f : one_if w.pending ≡ 0 = ap one_if clear in let all = r.counted in omega arith;
    few = r.few;
    drawer = λ j u e own. ⊎_elim
        (λ (t : (j ≡ other) × (numbered None ≡ u)). let none : None ≡ Some 0 = ap (λ (x : Numbers). x.own) t.1 ∙ own in absurd (cc))
        (λ (s : (j ≢ other) × (get_elem? (set seats id (took v w)) j ≡ maybe.some u)). ⊎_elim
        (λ (t : (j ≡ id) × (took v w ≡ u)). let mine = r.drawer id v at (ap (λ (x : Numbers). x.own) t.1 ∙ own) in subst (λ (x : ℕ × Numbers). IsDrawer next x.0 x.1) (λ i. (sym t.0 i, t.1 i)) (record { first = mine.first; up_to = mine.up_to; kept = mine.kept }))
        (λ (t : (j ≢ id) × (get_elem? seats j ≡ maybe.some u)). r.drawer j u t.1 own)
        (at_set seats id j (took v w) u s.1))
        (at_set (set seats id (took v w)) other j (numbered None) u e);
    later = λ j u e. ⊎_elim
        (λ (t : (j ≡ other) × (numbered None ≡ u)). subst (λ (x : Numbers). x.pending ≡ Some 0 → ⊥) t.1 (λ is. absurd (cc)))
        (λ (s : (j ≢ other) × (get_elem? (set seats id (took v w)) j ≡ maybe.some u)). ⊎_elim
        (λ (t : (j ≡ id) × (took v w ≡ u)). subst (λ (x : Numbers). x.pending ≡ Some 0 → ⊥) t.1 (r.later id v at))
        (λ (t : (j ≢ id) × (get_elem? seats j ≡ maybe.some u)). r.later j u t.1)
        (at_set seats id j (took v w) u s.1))
        (at_set (set seats id (took v w)) other j (numbered None) u e);
  }

-- seat 0 alone
pub roster_first : (procs : ℕ) → 0 < procs → Roster procs 1 (numbered (Some 0) ∷ [])
roster_first procs some = record {
  once = λ x. let one = once_more x 0 in let none : once_below x 0 ≡ 0 = grind (arith, nat_tests) in omega arith;
  counted = refl;
  few = omega arith;
  drawer = λ id v e own. one id v e;
  later = λ id v e. none id v e;
}
  where
    one : (id : ℕ) (v : Numbers) → get_elem? (numbered (Some 0) ∷ []) id ≡ maybe.some v → IsDrawer 1 id v
    one zero v e = subst (IsDrawer 1 0) (maybe.some-injective _ _ e) record { first = refl; up_to = refl; kept = inl refl }
    one (suc id) v e = absurd (maybe.some-ne-none v (sym e))

    none : (id : ℕ) (v : Numbers) → get_elem? (numbered (Some 0) ∷ []) id ≡ maybe.some v → v.pending ≡ Some 0 → ⊥
    none zero v e = subst (λ (x : Numbers). x.pending ≡ Some 0 → ⊥) (maybe.some-injective _ _ e) (λ is. absurd (cc))
    none (suc id) v e = absurd (maybe.some-ne-none v (sym e))
