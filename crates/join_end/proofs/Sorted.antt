-- Two lists in order that have the same pairs, each as often, are one list.
use Rattle.std.proofs.Common.{◌≡◌, ℕ, suc, ◌+◌, ◌*◌, ◌<◌, ◌≤◌, List, [], ◌∷◌, length, get_or, refl, ap, arith}
use Rattle.std.specs.List.Sorted.{IsNonDecreasingBy}
use Rattle.row_model.specs.declared.Pair.{Pair}
use Rattle.hash_probe.specs.Hits.{hit, hits}
use Rattle.hash_probe.proofs.Hits.{hit_same}
use Rattle.join_end.specs.Pairs.{SamePairs, code}
use Rattle.join_end.proofs.EachPair.{EachPair, hit_there}

-- an inner row that a number of 32 bits names
abbrev pub Small : Pair → Type 0
Small p = p.inner < 4294967296

abbrev pub Before : Pair → Pair → Type 0
Before p q = code p ≤ code q

abbrev pub Rises : List Pair → Type 0
Rises [] = 0 < 1
Rises (x ∷ xs) = EachPair (Before x) xs × Rises xs

-- pairs of one code are one pair
codes : (a b c d : ℕ) → b < 4294967296 → d < 4294967296 → a * 4294967296 + b ≡ c * 4294967296 + d → (a ≡ c) × (b ≡ d)
codes a b c d e f h = (omega arith, omega arith)

pub same_pair : (p q : Pair) → Small p → Small q → code p ≡ code q → p ≡ q
same_pair p q a b e = let s = codes p.outer p.inner q.outer q.inner a b e in λ k. record { outer = (s.0) k; inner = (s.1) k }

-- the first of a list that rises is no more than any of its pairs
first_least : (x : Pair) (xs : List Pair) → Rises (x ∷ xs) → (p : Pair) → 1 ≤ hits p.outer p.inner (x ∷ xs) → Before x p
first_least x xs up p more = hit_there (Before x) (x ∷ xs) (omega arith, up.0) p more

first_hit : (x : Pair) (xs : List Pair) → 1 ≤ hits x.outer x.inner (x ∷ xs)
first_hit x xs = let a = hit_same x in omega arith

pub same_list : (xs ys : List Pair) → Rises xs → Rises ys → EachPair Small xs → EachPair Small ys → SamePairs xs ys → xs ≡ ys
same_list [] [] up up' few few' same = refl
same_list [] (y ∷ ys) up up' few few' same = let a = same y.outer y.inner in let b = first_hit y ys in absurd (omega arith)
same_list (x ∷ xs) [] up up' few few' same = let a = same x.outer x.inner in let b = first_hit x xs in absurd (omega arith)
same_list (x ∷ xs) (y ∷ ys) up up' few few' same =
    let a = same x.outer x.inner in let b = first_hit x xs in
    let c = same y.outer y.inner in let d = first_hit y ys in
    let low : code y ≤ code x = first_least y ys up' x (omega arith) in
    let high : code x ≤ code y = first_least x xs up y (omega arith) in
    let is : x ≡ y = same_pair x y few.0 few'.0 (omega arith) in
    let rest : xs ≡ ys = same_list xs ys up.1 up'.1 few.1 few'.1 (λ o i. let e = same o i in let f : hit o i x ≡ hit o i y = ap (hit o i) is in omega arith) in
    λ k. is k ∷ rest k

-- from what a sort says
each_at : (P : Pair → Type 0) (xs : List Pair) → ((k : ℕ) (d : Pair) → k < length xs → P (get_or xs k d)) → EachPair P xs
each_at P [] h = omega arith
each_at P (x ∷ xs) h = (h 0 x (omega arith), each_at P xs (λ k d less. h (suc k) d (omega arith)))

pub rises : (xs : List Pair) → IsNonDecreasingBy code xs → Rises xs
rises [] up = omega arith
rises (x ∷ xs) up = (each_at (Before x) xs (λ k d less. up 0 (suc k) d (omega arith) (omega arith)), rises xs (λ i j d le less. up (suc i) (suc j) d (omega arith) (omega arith)))
