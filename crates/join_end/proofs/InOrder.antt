-- The pairs of the nested loop come in order, and a list in order that has the same pairs is that list.
use Rattle.std.proofs.Common.{◌≡◌, ◌⊎◌, ℕ, zero, suc, ◌+◌, ◌<◌, ◌≤◌, Bool, true, false, cond, List, [], ◌∷◌, ◌++◌, map, length, refl, sym, ◌∙◌, subst, arith, inr, ⊎_elim}
use Rattle.std.specs.List.{flat_map, filter, range_with_len}
use Rattle.std.specs.List.Sorted.{IsPermutation, IsNonDecreasingBy}
use Rattle.std.proofs.lemmas.Bool.{cases_Bool}
use mathlib.Core.Logic.{dite}
use native.Mathlib.Decide.{dec_le}
use Rattle.seat_roster.specs.Roster.{times}
use Rattle.row_model.specs.declared.Pair.{Pair}
use Rattle.row_model.specs.Table.{Table, pairs_of, nested_loop}
use Rattle.hash_probe.specs.Hits.{hits}
use Rattle.hash_probe.proofs.Comparing.{none_in}
use Rattle.hash_probe.proofs.Loop.{paired, paired_same, meet, rows_none, rows_there, times_filter}
use Rattle.join_end.specs.Pairs.{SamePairs, code}
use Rattle.join_end.proofs.EachPair.{EachPair, each_more, each_append, each_hit, hit_there, hits_moved}
use Rattle.join_end.proofs.Sorted.{Rises, Before, Small, rises, same_list}

module _ (outer inner : Table) where
  row_none : (o i : ℕ) → (length inner.rows ≤ i) ⊎ (meet outer inner o i ≡ false) → hits o i (pairs_of outer inner o) ≡ 0
  row_none o i out =
      let l : List ℕ = range_with_len 0 (length inner.rows) in
      let a : hits o i (pairs_of outer inner o) ≡ times i (filter (meet outer inner o) l) = paired_same o o i (filter (meet outer inner o) l) refl in
      let f = times_filter (meet outer inner o) i l in
      ⊎_elim (λ far. a ∙ ⊎_elim (λ is. f.0 is ∙ none_in 0 (length inner.rows) i (inr (omega arith))) (λ not_so. f.1 not_so) (cases_Bool (meet outer inner o i))) (λ not_so. a ∙ f.1 not_so) out

  pub loop_none : (o i : ℕ) → (length outer.rows ≤ o) ⊎ ((length inner.rows ≤ i) ⊎ (meet outer inner o i ≡ false)) → hits o i (nested_loop outer inner) ≡ 0
  unfolding nested_loop
  loop_none o i out = dite (dec_le (length outer.rows) o)
      (λ far. rows_none outer inner 0 (length outer.rows) o i (inr (omega arith)))
      (λ near. rows_there outer inner 0 (length outer.rows) o i (omega arith) (omega arith) ∙ ⊎_elim (λ far. absurd (near far)) (λ not_so. row_none o i not_so) out)

  abbrev Row : ℕ → ℕ → ℕ → Pair → Type 0
  Row o a b p = (p.outer ≡ o) × (a ≤ p.inner) × (p.inner < b)

  row_ordered : (o a n : ℕ) (p : ℕ → Bool) → EachPair (Row o a (a + n)) (map (paired o) (filter p (range_with_len a n))) × Rises (map (paired o) (filter p (range_with_len a n)))
  row_ordered o a zero p = (omega arith, omega arith)
  row_ordered o a (suc n) p =
      let r = row_ordered o (a + 1) n p in
      let l : List Pair = map (paired o) (filter p (range_with_len (a + 1) n)) in
      let wide : EachPair (Row o a (a + suc n)) l = each_more (Row o (a + 1) (a + 1 + n)) (Row o a (a + suc n)) l (λ q h. let x = h.0 in let y = h.1 in let z = h.2 in (x, omega arith, omega arith)) r.0 in
      let after : EachPair (Before (paired o a)) l = each_more (Row o (a + 1) (a + 1 + n)) (Before (paired o a)) l (λ q h. let x = h.0 in let y = h.1 in omega arith) r.0 in
      ⊎_elim
      (λ (is : p a ≡ true). subst (λ (b : Bool). EachPair (Row o a (a + suc n)) (map (paired o) (cond b (a ∷ filter p (range_with_len (a + 1) n)) (filter p (range_with_len (a + 1) n)))) × Rises (map (paired o) (cond b (a ∷ filter p (range_with_len (a + 1) n)) (filter p (range_with_len (a + 1) n))))) (sym is) (((refl, omega arith, omega arith), wide), (after, r.1)))
      (λ (not_so : p a ≡ false). subst (λ (b : Bool). EachPair (Row o a (a + suc n)) (map (paired o) (cond b (a ∷ filter p (range_with_len (a + 1) n)) (filter p (range_with_len (a + 1) n)))) × Rises (map (paired o) (cond b (a ∷ filter p (range_with_len (a + 1) n)) (filter p (range_with_len (a + 1) n))))) (sym not_so) (wide, r.1))
      (cases_Bool (p a))

  rises_append : (xs ys : List Pair) → Rises xs → Rises ys → EachPair (λ x. EachPair (Before x) ys) xs → Rises (xs ++ ys)
  rises_append [] ys a b between = b
  rises_append (x ∷ xs) ys a b between = (each_append (Before x) xs ys a.0 between.0, rises_append xs ys a.1 b between.1)

  abbrev From : ℕ → Pair → Type 0
  From a p = (a ≤ p.outer) × (p.inner < length inner.rows)

  rows_ordered : (a n : ℕ) → length inner.rows ≤ 4294967296 → EachPair (From a) (flat_map (pairs_of outer inner) (range_with_len a n)) × Rises (flat_map (pairs_of outer inner) (range_with_len a n))
  rows_ordered a zero few = (omega arith, omega arith)
  rows_ordered a (suc n) few =
      let r = rows_ordered (a + 1) n few in
      let q = row_ordered a 0 (length inner.rows) (meet outer inner a) in
      let ys : List Pair = flat_map (pairs_of outer inner) (range_with_len (a + 1) n) in
      let xs : List Pair = pairs_of outer inner a in (
        each_append (From a) xs ys
            (each_more (Row a 0 (0 + length inner.rows)) (From a) xs (λ p h. let x = h.0 in let y = h.2 in (omega arith, omega arith)) q.0)
            (each_more (From (a + 1)) (From a) ys (λ p h. let x = h.0 in (omega arith, h.1)) r.0),
        rises_append xs ys q.1 r.1 (each_more (Row a 0 (0 + length inner.rows)) (λ x. EachPair (Before x) ys) xs (λ p h.
            each_more (From (a + 1)) (Before p) ys (λ t k. let x = h.0 in let y = h.2 in let z = k.0 in omega arith) r.0) q.0),
      )

  pub loop_rises : length inner.rows ≤ 4294967296 → Rises (nested_loop outer inner)
  unfolding nested_loop
  loop_rises few = (rows_ordered 0 (length outer.rows) few).1

  pub loop_small : length inner.rows ≤ 4294967296 → EachPair Small (nested_loop outer inner)
  unfolding nested_loop
  loop_small few = each_more (From 0) Small (flat_map (pairs_of outer inner) (range_with_len 0 (length outer.rows))) (λ p h. let x = h.1 in omega arith) (rows_ordered 0 (length outer.rows) few).0

-- a list in order that has the pairs of the nested loop, each once, is the nested loop's
pub in_order : (outer inner : Table) (given sorted : List Pair) → length inner.rows ≤ 4294967296 → SamePairs given (nested_loop outer inner) → IsPermutation given sorted → IsNonDecreasingBy code sorted → sorted ≡ nested_loop outer inner
in_order outer inner given sorted few same moved up =
    let l : List Pair = nested_loop outer inner in
    let all : SamePairs sorted l = λ o i. hits_moved given sorted moved o i ∙ same o i in
    let small : EachPair Small sorted = each_hit Small sorted (λ p more. hit_there Small l (loop_small outer inner few) p (let a = all p.outer p.inner in omega arith)) in
    same_list sorted l (rises sorted up) (loop_rises outer inner few) small (loop_small outer inner few) all
