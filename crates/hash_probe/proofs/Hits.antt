-- How often a pair stands in lists that are put together, and what follows of their lengths.
use Rattle.std.proofs.Common.{◌≡◌, ℕ, suc, ◌+◌, ◌≤◌, ◌&&◌, true, false, cond, eqb, List, [], ◌∷◌, ◌++◌, length, refl, sym, ap, arith, ⊎_elim}
use Rattle.std.proofs.lemmas.Bool.{eq-eqb, cases_Bool, and_parts, eqb-true}
use Rattle.row_model.specs.declared.Pair.{Pair}
use Rattle.hash_probe.specs.Hits.{hit, hits}

-- a pair is hit where both its rows are the same
pub hit_same : (p : Pair) → hit p.outer p.inner p ≡ 1
hit_same p = rw (eq-eqb p.outer p.outer refl, eq-eqb p.inner p.inner refl) refl

pub hit_is : (o i : ℕ) (p : Pair) → 1 ≤ hit o i p → (p.outer ≡ o) × (p.inner ≡ i)
hit_is o i p h = ⊎_elim
    (λ (yes : (eqb p.outer o && eqb p.inner i) ≡ true). let a = and_parts (eqb p.outer o) (eqb p.inner i) yes in (eqb-true p.outer o a.0, eqb-true p.inner i a.1))
    (λ (no : (eqb p.outer o && eqb p.inner i) ≡ false). let z : hit o i p ≡ 0 = ap (λ b. cond b 1 0) no in absurd (omega arith))
    (cases_Bool (eqb p.outer o && eqb p.inner i))

pub hits_append : (o i : ℕ) (xs ys : List Pair) → hits o i (xs ++ ys) ≡ hits o i xs + hits o i ys
hits_append o i [] ys = omega arith
hits_append o i (x ∷ xs) ys = let r = hits_append o i xs ys in omega arith

-- a pair taken out of a list
without_pair : Pair → List Pair → List Pair
without_pair p [] = []
without_pair p (q ∷ qs) = cond (eqb q.outer p.outer && eqb q.inner p.inner) qs (q ∷ without_pair p qs)

pair_out : (p : Pair) (l : List Pair) → 1 ≤ hits p.outer p.inner l → (length l ≡ suc (length (without_pair p l))) × ((o i : ℕ) → hits o i l ≡ hit o i p + hits o i (without_pair p l))
unfolding without_pair
pair_out p [] more = absurd (omega arith)
pair_out p (q ∷ qs) more = ⊎_elim
    (λ (e : (eqb q.outer p.outer && eqb q.inner p.inner) ≡ true).
    let a : without_pair p (q ∷ qs) ≡ qs = ap (λ b. cond b qs (q ∷ without_pair p qs)) e in
    let h : 1 ≤ hit p.outer p.inner q = (let x : hit p.outer p.inner q ≡ 1 = ap (λ b. cond b 1 0) e in omega arith) in
    let s = hit_is p.outer p.inner q h in
    let same : q ≡ p = (λ k. record { outer = s.0 k; inner = s.1 k }) in (
      ap (λ l. suc (length l)) (sym a),
      λ o i. let x : hit o i q ≡ hit o i p = ap (hit o i) same in let y : hits o i (without_pair p (q ∷ qs)) ≡ hits o i qs = ap (hits o i) a in omega arith,
    ))
    (λ (ne : (eqb q.outer p.outer && eqb q.inner p.inner) ≡ false).
    let a : without_pair p (q ∷ qs) ≡ q ∷ without_pair p qs = ap (λ b. cond b qs (q ∷ without_pair p qs)) ne in
    let z : hit p.outer p.inner q ≡ 0 = ap (λ b. cond b 1 0) ne in
    let r = pair_out p qs (omega arith) in let l = r.0 in (
      (let x : length (without_pair p (q ∷ qs)) ≡ suc (length (without_pair p qs)) = ap length a in omega arith),
      λ o i. let y : hits o i (without_pair p (q ∷ qs)) ≡ hit o i q + hits o i (without_pair p qs) = ap (hits o i) a in let w = r.1 o i in omega arith,
    ))
    (cases_Bool (eqb q.outer p.outer && eqb q.inner p.inner))

-- pairs of which each stands in another list as often are no more than that has
pub pairs_le : (xs ys : List Pair) → ((o i : ℕ) → hits o i xs ≤ hits o i ys) → length xs ≤ length ys
pairs_le [] ys less = omega arith
pairs_le (x ∷ xs) ys less =
    let here : 1 ≤ hits x.outer x.inner ys = (let a = less x.outer x.inner in let b = hit_same x in omega arith) in
    let out = pair_out x ys here in let l = out.0 in
    let i = pairs_le xs (without_pair x ys) (λ o i. let a = less o i in let b = out.1 o i in omega arith) in omega arith
