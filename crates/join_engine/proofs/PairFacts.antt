-- Steps of two nested loops.
use Rattle.std.proofs.Common.{◌≡◌, ◌∙◌, ℕ, zero, suc, ◌+◌, ◌-◌, ◌<◌, ◌≤◌, Bool, true, false, cond, List, [], ◌∷◌, ◌++◌, length, map, refl, sym, ap, subst, arith}
use Rattle.std.specs.List.{All, flat_map, filter, range_with_len}
use Rattle.std.proofs.lemmas.List.{length-append, map-id, map-append, append-nil, append_assoc}
use Rattle.std.proofs.lemmas.List.Elements.{filter-append, All-nil, All-append, All-map, All-filter, All-from_get_or}
use Rattle.std.proofs.lemmas.List.Concat.{flat_map-append}
use Rattle.std.proofs.lemmas.List.FromFn.{map-range_with_len_more, length-range_with_len, get_or-range_with_len}
use Rattle.row_model.specs.declared.Pair.{Pair}
use Rattle.row_model.specs.Table.{Table, meets, key_of, pairs_of, nested_loop}
use Rattle.join_end.specs.declared.answer.JoinFault.{JoinFault}
use Rattle.join_end.specs.declared.answer.JoinFault.TheVariants as fault
use Rattle.join_engine.specs.Limit.{PairsShow}

pub range_more : (n : ℕ) → range_with_len 0 (n + 1) ≡ range_with_len 0 n ++ n ∷ []
range_more n =
    sym (map-id (range_with_len 0 (n + 1))) ∙ map-range_with_len_more (λ (x : ℕ). x) 0 n n (omega arith) ∙ ap (λ (t : List ℕ). t ++ n ∷ []) (map-id (range_with_len 0 n))

filter_push : (p : ℕ → Bool) (xs : List ℕ) (x : ℕ) → filter p (xs ++ x ∷ []) ≡ filter p xs ++ cond (p x) (x ∷ []) []
filter_push p xs x = filter-append p xs (x ∷ [])

-- the pairs of an outer row with the first inner rows
abbrev pub first_pairs : Table → Table → ℕ → ℕ → List Pair
first_pairs outer inner o n = map (λ i. record { outer = o; inner = i }) (filter (λ i. meets (key_of outer o) (key_of inner i)) (range_with_len 0 n))

pub first_pairs-hit : (outer inner : Table) (o n : ℕ) → meets (key_of outer o) (key_of inner n) ≡ true
    → first_pairs outer inner o (n + 1) ≡ first_pairs outer inner o n ++ record { outer = o; inner = n } ∷ []
first_pairs-hit outer inner o n hit =
    let pair : ℕ → Pair = λ i. record { outer = o; inner = i } in
    let p : ℕ → Bool = λ i. meets (key_of outer o) (key_of inner i) in
    ap (λ (t : List ℕ). map pair (filter p t)) (range_more n) ∙ ap (map pair) (filter_push p (range_with_len 0 n) n ∙ rw hit refl)
    ∙ map-append pair (filter p (range_with_len 0 n)) (n ∷ [])

pub first_pairs-miss : (outer inner : Table) (o n : ℕ) → meets (key_of outer o) (key_of inner n) ≡ false
    → first_pairs outer inner o (n + 1) ≡ first_pairs outer inner o n
first_pairs-miss outer inner o n miss =
    let pair : ℕ → Pair = λ i. record { outer = o; inner = i } in
    let p : ℕ → Bool = λ i. meets (key_of outer o) (key_of inner i) in
    ap (λ (t : List ℕ). map pair (filter p t)) (range_more n) ∙ ap (map pair) (filter_push p (range_with_len 0 n) n ∙ rw miss (append-nil (filter p (range_with_len 0 n))))

-- the pairs of the first outer rows
abbrev pub joined : Table → Table → ℕ → List Pair
joined outer inner n = flat_map (pairs_of outer inner) (range_with_len 0 n)

pub joined-more : (outer inner : Table) (n : ℕ) → joined outer inner (n + 1) ≡ joined outer inner n ++ pairs_of outer inner n
joined-more outer inner n =
    ap (flat_map (pairs_of outer inner)) (range_more n) ∙ flat_map-append (pairs_of outer inner) (range_with_len 0 n) (n ∷ [])
    ∙ ap (λ (t : List Pair). joined outer inner n ++ t) (append-nil (pairs_of outer inner n))

pub joined-whole : (outer inner : Table) → joined outer inner (length outer.rows) ≡ nested_loop outer inner
unfolding nested_loop
joined-whole outer inner = refl

pub joined-all : (outer inner : Table) (n : ℕ) (pairs : List Pair) → n ≡ length outer.rows → pairs ≡ joined outer inner n → pairs ≡ nested_loop outer inner
joined-all outer inner n pairs all is = is ∙ rw all (joined-whole outer inner)

-- the pairs of an outer row and of those before it are not all
joined-longer : (outer inner : Table) (n more : ℕ) → length (joined outer inner n) ≤ length (joined outer inner (n + more))
joined-longer outer inner n zero = let same : n + 0 ≡ n = omega arith in rw same (omega arith)
joined-longer outer inner n (suc more) =
    let next : n + suc more ≡ (n + more) + 1 = omega arith in
    let before = joined-longer outer inner n more in
    rw (next, joined-more outer inner (n + more), length-append (joined outer inner (n + more)) (pairs_of outer inner (n + more))) (omega arith)

pub joined-front : (outer inner : Table) (n : ℕ) → n < length outer.rows
    → length (joined outer inner n) + length (pairs_of outer inner n) ≤ length (nested_loop outer inner)
joined-front outer inner n lt =
    let rest = length outer.rows - (n + 1) in
    let whole : (n + 1) + rest ≡ length outer.rows = omega arith in
    let longer = joined-longer outer inner (n + 1) rest in
    let size = ap length (joined-more outer inner n) ∙ length-append (joined outer inner n) (pairs_of outer inner n) in
    let all = ap length (joined-whole outer inner) in
    omega (arith, rw whole at longer, size, all)

-- what a fault shows of some pairs it shows of more
pub shows-more : (few many : ℕ) (f : JoinFault) → few ≤ many → PairsShow few f → PairsShow many f
shows-more few many (fault.TooMany counted) le h = (h.0, omega (arith, h.1))
shows-more few many fault.NoMemory le h = tt

-- what the loops take
pub ruleset steps = (first_pairs-hit, first_pairs-miss, joined-more, append_assoc)

-- each pair names two rows
abbrev pub Names : Table → Table → Pair → Type 0
Names outer inner p = (p.outer < length outer.rows) × (p.inner < length inner.rows)

pub range-below : (Q : ℕ → Type 0) (n : ℕ) → ((i : ℕ) → i < n → Q i) → All Q (range_with_len 0 n)
range-below Q n each = All-from_get_or Q (range_with_len 0 n) 0 (λ i lt.
    let few : i < n = rw (length-range_with_len 0 n) at lt in
    let here : 0 + i ≡ i = omega arith in
    rw (get_or-range_with_len 0 n i 0 few, here) (each i few))

first-names : (outer inner : Table) (o n : ℕ) → o < length outer.rows → n ≤ length inner.rows → All (Names outer inner) (first_pairs outer inner o n)
first-names outer inner o n here le =
    let pair : ℕ → Pair = λ i. record { outer = o; inner = i } in
    let p : ℕ → Bool = λ i. meets (key_of outer o) (key_of inner i) in
    let Q : ℕ → Type 0 = λ i. Names outer inner (pair i) in
    All-map (Names outer inner) pair (filter p (range_with_len 0 n)) (All-filter p Q (range_with_len 0 n) (range-below Q n (λ i lt. (here, omega arith))))

joined-names : (outer inner : Table) (n : ℕ) → n ≤ length outer.rows → All (Names outer inner) (joined outer inner n)
joined-names outer inner zero le = All-nil (Names outer inner)
joined-names outer inner (suc n) le =
    let next : n + 1 ≡ suc n = omega arith in
    let more : All (Names outer inner) (joined outer inner (n + 1)) =
    rw (joined-more outer inner n) (All-append (Names outer inner) (joined outer inner n) (pairs_of outer inner n) (joined-names outer inner n (omega arith))
    (first-names outer inner n (length inner.rows) (omega arith) (omega arith))) in
    subst (λ (k : ℕ). All (Names outer inner) (joined outer inner k)) next more

pub join-names : (outer inner : Table) → All (Names outer inner) (nested_loop outer inner)
unfolding nested_loop
join-names outer inner = joined-names outer inner (length outer.rows) (omega arith)
