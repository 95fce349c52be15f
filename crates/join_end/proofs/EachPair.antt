-- What is true of each pair of a list, and pairs that were moved about.
use Rattle.std.proofs.Common.{◌≡◌, ◌⊎◌, ℕ, zero, suc, ◌<◌, ◌≤◌, List, [], ◌∷◌, ◌++◌, refl, sym, ◌∙◌, subst, arith, inl, inr, ⊎_elim}
use Rattle.std.specs.List.{sum_by}
use Rattle.std.specs.List.Sorted.{IsPermutation}
use Rattle.std.proofs.lemmas.List.Sorted.{sum_by-IsPermutation}
use Rattle.std.proofs.lemmas.List.Sums.{sum_by-cons}
use Rattle.row_model.specs.declared.Pair.{Pair}
use Rattle.hash_probe.specs.Hits.{hit, hits}
use Rattle.hash_probe.proofs.Hits.{hit_same, hit_is}

hits_sum : (o i : ℕ) (xs : List Pair) → hits o i xs ≡ sum_by (hit o i) xs
hits_sum o i [] = refl
hits_sum o i (x ∷ xs) = let r = hits_sum o i xs in let s = sum_by-cons (hit o i) x xs in omega arith

-- pairs that were moved about
pub hits_moved : (xs ys : List Pair) → IsPermutation xs ys → (o i : ℕ) → hits o i ys ≡ hits o i xs
hits_moved xs ys moved o i = hits_sum o i ys ∙ (sum_by-IsPermutation (hit o i) xs ys moved ∙ sym (hits_sum o i xs))

-- what each pair of a list is
abbrev pub EachPair : (Pair → Type 0) → List Pair → Type 0
EachPair P [] = 0 < 1
EachPair P (x ∷ xs) = P x × EachPair P xs

-- a pair that is hit is one of them
pub hit_there : (P : Pair → Type 0) (xs : List Pair) → EachPair P xs → (p : Pair) → 1 ≤ hits p.outer p.inner xs → P p
hit_there P [] each p more = absurd (omega arith)
hit_there P (x ∷ xs) each p more = ⊎_elim
    (λ (none : hit p.outer p.inner x ≡ 0). hit_there P xs each.1 p (omega arith))
    (λ (some : 1 ≤ hit p.outer p.inner x). let e = hit_is p.outer p.inner x some in let same : x ≡ p = (λ k. record { outer = e.0 k; inner = e.1 k }) in subst P same each.0)
    (none_or (hit p.outer p.inner x))
  where
    none_or : (n : ℕ) → (n ≡ 0) ⊎ (1 ≤ n)
    none_or zero = inl refl
    none_or (suc n) = inr (omega arith)

pub each_more : (P Q : Pair → Type 0) (xs : List Pair) → ((p : Pair) → P p → Q p) → EachPair P xs → EachPair Q xs
each_more P Q [] h each = each
each_more P Q (x ∷ xs) h each = (h x each.0, each_more P Q xs h each.1)

-- what holds of a pair because it is hit
pub each_hit : (P : Pair → Type 0) (xs : List Pair) → ((p : Pair) → 1 ≤ hits p.outer p.inner xs → P p) → EachPair P xs
each_hit P [] h = omega arith
each_hit P (x ∷ xs) h = (
  h x (let a = hit_same x in omega arith),
  each_hit P xs (λ p more. h p (omega arith)),
)

pub each_append : (P : Pair → Type 0) (xs ys : List Pair) → EachPair P xs → EachPair P ys → EachPair P (xs ++ ys)
each_append P [] ys a b = b
each_append P (x ∷ xs) ys a b = (a.0, each_append P xs ys a.1 b)
