-- Laws of rows in chains by their hash.
use Rattle.std.proofs.Common.{◌≡◌, ◌∙◌, ℕ, zero, suc, ◌+◌, ◌-◌, ◌<◌, ◌≤◌, Bool, true, false, cond, eqb, List, [], ◌∷◌, ◌++◌, length, drop, get_or, set, map, Option, Some, None, refl, sym, ap, inl, inr, zero-add, arith}
use Rattle.std.specs.Prelude.{slice_get, sum_by, unwrap_or}
use Rattle.std.specs.List.{filter}
use Rattle.std.specs.Str.{bytes_eq}
use Rattle.std.proofs.lemmas.Bool.{cases_Bool, and_parts, cases_eq, cases_lt, false≢true, eq-eqb, eqb-true, lt-ltb, le-ltb}
use Rattle.std.proofs.lemmas.List.{length-append, append-nil, append_assoc, drop_more, drop_all, get_or-set_same, get_or-set_other}
use Rattle.std.proofs.lemmas.List.FromFn.{length-range_with_len, get_or-range_with_len}
use Rattle.std.proofs.lemmas.List.Sums.{sum_by-cons}
use Rattle.std.proofs.lemmas.Slice.Eq.{bytes_eq-Decides}
use Rattle.row_model.specs.declared.Pair.{Pair}
use Rattle.row_model.specs.Table.{Table, is_present, key_of, meets, pairs_of}
use Rattle.row_model.specs.Hash.{hash_of_key}
use Rattle.join_engine.specs.Looks.{candidates, is_hash, hashed_look_bound, numbers, rows_from}
use Rattle.join_engine.specs.Chains.{row_at, IsLinked}

is_hash-some : (hash : ℕ) (o : Option ℕ) → is_hash hash o ≡ true → o ≡ Some hash
is_hash-some hash None h = absurd (false≢true h)
is_hash-some hash (Some other) h = ap Some (eqb-true other hash h)

drop-numbers : (t : Table) (place : ℕ) → place < length t.rows → drop place (numbers t) ≡ place ∷ drop (place + 1) (numbers t)
drop-numbers t place lt =
    let within : place < length (numbers t) = rw (length-range_with_len 0 (length t.rows)) lt in
    let here : get_or (numbers t) place 0 ≡ place = get_or-range_with_len 0 (length t.rows) place 0 lt ∙ zero-add place in
    drop_more (numbers t) place 0 within ∙ ap (λ (n : ℕ). n ∷ drop (place + 1) (numbers t)) here

pub rows_from-hit : (t : Table) (place hash : ℕ) → place < length t.rows → hash_of_key (key_of t place) ≡ Some hash
    → rows_from t place hash ≡ place ∷ rows_from t (place + 1) hash
rows_from-hit t place hash lt e = rw (drop-numbers t place lt, e, eq-eqb hash hash refl) refl

pub rows_from-miss : (t : Table) (place hash : ℕ) → place < length t.rows → is_hash hash (hash_of_key (key_of t place)) ≡ false
    → rows_from t place hash ≡ rows_from t (place + 1) hash
rows_from-miss t place hash lt e = rw (drop-numbers t place lt, e) refl

pub rows_from-end : (t : Table) (place hash : ℕ) → length t.rows ≤ place → rows_from t place hash ≡ []
rows_from-end t place hash le =
    let past : length (numbers t) ≤ place = rw (length-range_with_len 0 (length t.rows)) le in
    rw (drop_all place (numbers t) past) refl

-- the first of the rows from a place on, and those from it on
pub record IsFirst (t : Table) (place hash row : ℕ) : Type 0 where
  pub within : row < length t.rows
  pub hash_is : hash_of_key (key_of t row) ≡ Some hash
  pub rest : rows_from t place hash ≡ row ∷ rows_from t (row + 1) hash

first-within : (t : Table) (count place hash row : ℕ) → place + count ≡ length t.rows
    → slice_get (rows_from t place hash) 0 ≡ Some row → IsFirst t place hash row
first-within t zero place hash row e first =
    let none : slice_get (rows_from t place hash) 0 ≡ None = rw (rows_from-end t place hash (omega arith)) refl in
    cc
first-within t (suc count) place hash row e first =
    let lt : place < length t.rows = omega arith in
    elim (cases_Bool (is_hash hash (hash_of_key (key_of t place)))) [
      | inl hit ↦
          (let some = is_hash-some hash (hash_of_key (key_of t place)) hit in
          let whole = rows_from-hit t place hash lt some in
          let same : place ≡ row = (let is : Some place ≡ Some row = rw whole at first in cc) in
          record { within = rw (← same) lt; hash_is = rw (← same) some; rest = rw (← same) whole })
      | inr miss ↦
          (let skip = rows_from-miss t place hash lt miss in
          let later = first-within t count (place + 1) hash row (omega arith) (rw skip at first) in
          record { within = later.within; hash_is = later.hash_is; rest = skip ∙ later.rest })
    ]

pub first-is : (t : Table) (place hash row : ℕ) → slice_get (rows_from t place hash) 0 ≡ Some row → IsFirst t place hash row
first-is t place hash row first = elim (cases_lt place (length t.rows)) [
  | inl lt ↦ first-within t (length t.rows - place) place hash row (omega arith) first
  | inr le ↦
      (let none : slice_get (rows_from t place hash) 0 ≡ None = rw (rows_from-end t place hash le) refl in
      cc)
]

-- the rows of a chain from the one at hand on
abbrev pub chain_at : Table → ℕ → Option ℕ → List ℕ
chain_at t hash None = []
chain_at t hash (Some row) = rows_from t row hash

first-none : {X : Type 0} (xs : List X) → slice_get xs 0 ≡ None → xs ≡ []
first-none [] h = refl
first-none (x ∷ xs) h = absurd (cc h)

pub chain_at-first : (t : Table) (place hash : ℕ) (o : Option ℕ) → o ≡ slice_get (rows_from t place hash) 0 → chain_at t hash o ≡ rows_from t place hash
chain_at-first t place hash None e = sym (first-none (rows_from t place hash) (sym e))
chain_at-first t place hash (Some row) e =
    let first = first-is t place hash row (sym e) in
    rows_from-hit t row hash first.within first.hash_is ∙ sym first.rest

pub first-chain_at : (t : Table) (place hash : ℕ) (o : Option ℕ) → o ≡ slice_get (rows_from t place hash) 0 → o ≡ slice_get (chain_at t hash o) 0
first-chain_at t place hash o e = rw (chain_at-first t place hash o e) e

-- the chain from a row on is that row, and the chain from its successor on
pub record IsLink (t : Table) (hash row : ℕ) : Type 0 where
  pub within : row < length t.rows
  pub hash_is : hash_of_key (key_of t row) ≡ Some hash
  pub rest : chain_at t hash (Some row) ≡ row ∷ rows_from t (row + 1) hash

pub link-is : (t : Table) (hash row : ℕ) → Some row ≡ slice_get (chain_at t hash (Some row)) 0 → IsLink t hash row
link-is t hash row e =
    let first = first-is t row hash row (sym e) in
    record { within = first.within; hash_is = first.hash_is; rest = first.rest }

-- an outer row with each of these inner rows that it meets
abbrev pub confirmed : Table → Table → ℕ → List ℕ → List Pair
confirmed outer inner o rows = map (λ i. record { outer = o; inner = i }) (filter (λ i. meets (key_of outer o) (key_of inner i)) rows)

-- a stricter test of what passed one
filter-filter : {X : Type 0} (p q : X → Bool) (xs : List X) → ((x : X) → p x ≡ true → q x ≡ true) → filter p (filter q xs) ≡ filter p xs
filter-filter p q [] h = refl
filter-filter p q (x ∷ xs) h = elim (cases_Bool (q x)) [
  | inl t ↦ rw t (elim (cases_Bool (p x)) [
    | inl u ↦ rw u (ap (λ ys. x ∷ ys) (filter-filter p q xs h))
    | inr u ↦ rw u (filter-filter p q xs h)
  ])
  | inr f ↦ elim (cases_Bool (p x)) [
    | inl u ↦ absurd (false≢true (sym f ∙ h x u))
    | inr u ↦ rw (f, u) (filter-filter p q xs h)
  ]
]

filter-none : {X : Type 0} (p : X → Bool) (xs : List X) → ((x : X) → p x ≡ false) → filter p xs ≡ []
filter-none p [] h = refl
filter-none p (x ∷ xs) h = rw (h x) (filter-none p xs h)

-- keys that meet have one hash
meets-hash : (a b : List ℕ) (hash : ℕ) → hash_of_key a ≡ Some hash → meets a b ≡ true → is_hash hash (hash_of_key b) ≡ true
meets-hash a b hash e m =
    let parts = and_parts (is_present a) (bytes_eq a b) m in
    let same = (bytes_eq-Decides a b).0 parts.1 in
    rw (← same, e) (eq-eqb hash hash refl)

none-absent : (key : List ℕ) → hash_of_key key ≡ None → is_present key ≡ false
none-absent key e = elim (cases_Bool (is_present key)) [ inl t ↦ (let k = rw t at e in cc) | inr f ↦ f ]

pub confirmed-whole : (outer inner : Table) (o hash : ℕ) → hash_of_key (key_of outer o) ≡ Some hash
    → confirmed outer inner o (rows_from inner 0 hash) ≡ pairs_of outer inner o
confirmed-whole outer inner o hash e =
    let pair : ℕ → Pair = λ i. record { outer = o; inner = i } in
    ap (map pair) (filter-filter (λ i. meets (key_of outer o) (key_of inner i)) (λ i. is_hash hash (hash_of_key (key_of inner i))) (numbers inner)
    (λ i m. meets-hash (key_of outer o) (key_of inner i) hash e m))

pub pairs_of-absent : (outer inner : Table) (o : ℕ) → hash_of_key (key_of outer o) ≡ None → pairs_of outer inner o ≡ []
pairs_of-absent outer inner o e =
    let pair : ℕ → Pair = λ i. record { outer = o; inner = i } in
    let gone = none-absent (key_of outer o) e in
    ap (map pair) (filter-none (λ i. meets (key_of outer o) (key_of inner i)) (numbers inner) (λ i. rw gone refl))

-- a number of a row, or their count where there is none
pub row_at-unwrap : (t : Table) (place hash : ℕ) (o : Option ℕ) → o ≡ slice_get (rows_from t place hash) 0 → row_at (length t.rows) (unwrap_or o (length t.rows)) ≡ o
row_at-unwrap t place hash None e = rw (le-ltb (length t.rows) (length t.rows) (omega arith)) refl
row_at-unwrap t place hash (Some row) e =
    let first = first-is t place hash row (sym e) in
    rw (lt-ltb row (length t.rows) first.within) refl

-- the looks that are left to outer rows from a place on
abbrev pub looks_from : Table → Table → ℕ → ℕ
looks_from outer inner place = (length outer.rows - place) + sum_by (λ o. candidates inner (hash_of_key (key_of outer o))) (drop place (numbers outer))

pub looks_from-step : (outer inner : Table) (place : ℕ) → place < length outer.rows
    → looks_from outer inner place ≡ 1 + candidates inner (hash_of_key (key_of outer place)) + looks_from outer inner (place + 1)
looks_from-step outer inner place lt =
    let looks : ℕ → ℕ = λ o. candidates inner (hash_of_key (key_of outer o)) in
    let more = ap (sum_by looks) (drop-numbers outer place lt) ∙ sum_by-cons looks place (drop (place + 1) (numbers outer)) in
    omega (arith, more)

pub looks_from-all : (outer inner : Table) → length inner.rows + looks_from outer inner 0 ≡ hashed_look_bound outer inner
unfolding hashed_look_bound
looks_from-all outer inner = omega arith

-- one row more at the front
pub first-more : (t : Table) (place after hash q : ℕ) → place + 1 ≡ after → place < length t.rows → hash_of_key (key_of t place) ≡ Some hash
    → slice_get (rows_from t place q) 0 ≡ cond (eqb hash q) (Some place) (slice_get (rows_from t after q) 0)
first-more t place after hash q next lt e = elim (cases_Bool (eqb hash q)) [
  | inl hit ↦
      (let same = eqb-true hash q hit in
      let whole = rows_from-hit t place q lt (e ∙ ap Some same) in
      rw (whole, hit) refl)
  | inr miss ↦
      (let other : is_hash q (hash_of_key (key_of t place)) ≡ false = rw (e, miss) refl in
      rw (rows_from-miss t place q lt other, miss, next) refl)
]

pub first-same : (t : Table) (place after q : ℕ) → place + 1 ≡ after → place < length t.rows → hash_of_key (key_of t place) ≡ None
    → slice_get (rows_from t place q) 0 ≡ slice_get (rows_from t after q) 0
first-same t place after q next lt e =
    let other : is_hash q (hash_of_key (key_of t place)) ≡ false = rw e refl in
    rw (rows_from-miss t place q lt other, next) refl

pub linked-more : (t : Table) (next : List ℕ) (place after hash : ℕ) (old : Option ℕ) → place + 1 ≡ after → place < length t.rows → length next ≡ length t.rows
    → hash_of_key (key_of t place) ≡ Some hash → old ≡ slice_get (rows_from t after hash) 0
    → IsLinked t next after → IsLinked t (set next place (unwrap_or old (length t.rows))) place
linked-more t next place after hash old succ lt size e first linked = λ row h le few key. elim (cases_eq row place) [
  | inl same ↦
      (let here : place < length next = rw size lt in
      let one : Some h ≡ Some hash = sym key ∙ rw same e in
      let is : h ≡ hash = cc in
      rw (same, get_or-set_same next place (unwrap_or old (length t.rows)) 0 here, is, succ) (row_at-unwrap t after hash old first ∙ first))
  | inr other ↦
      (let later : after ≤ row = omega (arith, other) in
      rw (get_or-set_other next place row (unwrap_or old (length t.rows)) 0 other) (linked row h later few key))
]

pub linked-same : (t : Table) (next : List ℕ) (place after : ℕ) → place + 1 ≡ after → hash_of_key (key_of t place) ≡ None
    → IsLinked t next after → IsLinked t next place
linked-same t next place after succ e linked = λ row h le few key. elim (cases_eq row place) [
  | inl same ↦ (let none : Some h ≡ None = sym key ∙ rw same e in absurd (cc))
  | inr other ↦ (let later : after ≤ row = omega (arith, other) in linked row h later few key)
]

-- a candidate goes to the pairs if it meets the outer row
pub confirmed-more : (outer inner : Table) (o i : ℕ) (rows : List ℕ) (pairs more whole : List Pair)
    → more ≡ pairs ++ cond (meets (key_of outer o) (key_of inner i)) (record { outer = o; inner = i } ∷ []) []
    → pairs ++ confirmed outer inner o (i ∷ rows) ≡ whole → more ++ confirmed outer inner o rows ≡ whole
confirmed-more outer inner o i rows pairs more whole is all = elim (cases_Bool (meets (key_of outer o) (key_of inner i))) [
  | inl hit ↦ rw (rw hit at is, append_assoc pairs (record { outer = o; inner = i } ∷ []) (confirmed outer inner o rows)) (rw hit at all)
  | inr miss ↦ rw (rw miss at is, append-nil pairs) (rw miss at all)
]

-- a candidate that meets the outer row is one of the pairs
pub confirmed-counts : (outer inner : Table) (o i : ℕ) (rows : List ℕ) (pairs whole : List Pair) → pairs ++ confirmed outer inner o (i ∷ rows) ≡ whole
    → length pairs + cond (meets (key_of outer o) (key_of inner i)) 1 0 ≤ length whole
confirmed-counts outer inner o i rows pairs whole all =
    let size = sym (ap length all) ∙ length-append pairs (confirmed outer inner o (i ∷ rows)) in
    elim (cases_Bool (meets (key_of outer o) (key_of inner i))) [
      | inl hit ↦ (let more = rw hit at size in rw hit (omega arith))
      | inr miss ↦ rw miss (omega arith)
    ]
