-- What an outer row and the inner rows of its chain have to do with each other.
use Rattle.std.proofs.Common.{◌≡◌, ◌≢◌, ◌⊎◌, ℕ, zero, suc, ◌+◌, ◌-◌, ◌%◌, ◌<◌, ◌≤◌, Bool, true, false, cond, List, [], ◌∷◌, ◌++◌, map, length, refl, sym, ap, ◌∙◌, subst, arith, inl, inr, ⊎_elim, Some, Option}
use Rattle.std.specs.List.{filter, range_with_len}
use Rattle.std.proofs.lemmas.Bool.{cases_Bool, cases_eq, eq-eqb, ne_eqb, lt-ltb, le-ltb}
use Rattle.std.proofs.lemmas.List.{length-append, map-append}
use Rattle.std.proofs.lemmas.List.Elements.{filter-append}
use Rattle.std.proofs.lemmas.Option.{same_Some}
use native.Mathlib.Decide.{dec_le}
use mathlib.Core.Logic.{dite}
use Rattle.seat_roster.specs.Roster.{times}
use Rattle.row_model.specs.declared.Pair.{Pair}
use Rattle.row_model.specs.Table.{Table, key_of}
use Rattle.row_model.specs.Hash.{hash_of_key}
use Rattle.join_law.specs.Layout.{Join}
use Rattle.join_law.specs.Views.{partners, without}
use Rattle.join_law.specs.Stands.{RowsMeet}
use Rattle.join_law.proofs.Rows.{one_same, one_other, times_without}
use Rattle.join_party.specs.declared.party.HashParty.{HashParty}
use Rattle.join_party.specs.Joins.{join}
use Rattle.hash_probe.specs.Looks.{agrees, agreeing_among, walk_of}
use Rattle.hash_probe.specs.Walks.{pairs_among}

-- rows of different hashes don't meet, and then the pairs stay
other_hash : (j : Join) → RowsMeet j → (row inner hash found : ℕ) → j.hash row ≡ Some hash → j.hash inner ≡ Some found → found ≢ hash → j.meets row inner ≡ false
other_hash j meet row inner hash found key other ne = ⊎_elim
    (λ (met : j.meets row inner ≡ true). let m = (meet.meet row inner met).1 in absurd (ne (same_Some found hash (sym other ∙ (m.1 ∙ (sym m.2 ∙ key))))))
    (λ (miss : j.meets row inner ≡ false). miss) (cases_Bool (j.meets row inner))

pub not_met : (j : Join) → RowsMeet j → (row inner hash found : ℕ) (pairs : List Pair) → j.hash row ≡ Some hash → j.hash inner ≡ Some found → found ≢ hash → pairs ≡ pairs ++ pairs_among j row (inner ∷ [])
not_met j meet row inner hash found pairs key other ne =
    let none : pairs_among j row (inner ∷ []) ≡ [] = ap (λ (b : Bool). map (λ (i : ℕ). record { outer = row - j.inner; inner = i }) (cond b (inner ∷ []) [])) (other_hash j meet row inner hash found key other ne) in
    sym (ap (λ l. pairs ++ l) none ∙ Rattle.std.proofs.lemmas.List.append-nil pairs)

-- the hash of an inner row, and of an outer row
pub inner_hash : (p : HashParty) (i : ℕ) → i < length p.inner.now.rows → (join p).hash i ≡ hash_of_key (key_of p.inner.now i)
inner_hash p i less = ap (λ (b : Bool). cond b (hash_of_key (key_of p.inner.now i)) (hash_of_key (key_of p.outer.now (i - length p.inner.now.rows)))) (lt-ltb i (length p.inner.now.rows) less)

pub outer_hash : (p : HashParty) (o : ℕ) → length p.inner.now.rows ≤ o → (join p).hash o ≡ hash_of_key (key_of p.outer.now (o - length p.inner.now.rows))
outer_hash p o past = ap (λ (b : Bool). cond b (hash_of_key (key_of p.inner.now o)) (hash_of_key (key_of p.outer.now (o - length p.inner.now.rows)))) (le-ltb o (length p.inner.now.rows) past)

-- an inner row of this hash agrees with it
pub one_agrees : (p : HashParty) (hash inner : ℕ) → inner < length p.inner.now.rows → (join p).hash inner ≡ Some hash → agreeing_among p.inner.now p.buckets hash (inner ∷ []) ≡ 1
one_agrees p hash inner less key =
    let is : hash_of_key (key_of p.inner.now inner) ≡ Some hash = sym (inner_hash p inner less) ∙ key in
    ap (λ (o : Option ℕ). length (cond (agrees p.buckets hash o) (inner ∷ []) [])) is
    ∙ ap (λ (b : Bool). length (cond b (inner ∷ []) [])) (eq-eqb (hash % p.buckets) (hash % p.buckets) refl)

-- a walk that goes on by one row
partners_append : (j : Join) (o : ℕ) (xs ys : List ℕ) → partners j o (xs ++ ys) ≡ partners j o xs ++ partners j o ys
partners_append j o [] ys = refl
partners_append j o (x ∷ xs) ys =
    let r = partners_append j o xs ys in
    ⊎_elim
    (λ (met : j.meets o x ≡ true). ap (λ b. cond b (x ∷ partners j o (xs ++ ys)) (partners j o (xs ++ ys))) met ∙ (ap (λ l. x ∷ l) r ∙ sym (ap (λ b. cond b (x ∷ partners j o xs) (partners j o xs) ++ partners j o ys) met)))
    (λ (miss : j.meets o x ≡ false). ap (λ b. cond b (x ∷ partners j o (xs ++ ys)) (partners j o (xs ++ ys))) miss ∙ (r ∙ sym (ap (λ b. cond b (x ∷ partners j o xs) (partners j o xs) ++ partners j o ys) miss)))
    (cases_Bool (j.meets o x))

pub pairs_more : (j : Join) (row inner : ℕ) (passed : List ℕ) (a b c : List Pair) → b ≡ a ++ pairs_among j row passed → c ≡ b ++ pairs_among j row (inner ∷ []) → c ≡ a ++ pairs_among j row (passed ++ inner ∷ [])
pairs_more j row inner passed a b c is then =
    let f : ℕ → Pair = λ (i : ℕ). record { outer = row - j.inner; inner = i } in
    let all : pairs_among j row (passed ++ inner ∷ []) ≡ pairs_among j row passed ++ pairs_among j row (inner ∷ []) = ap (map f) (partners_append j row passed (inner ∷ [])) ∙ map-append f (partners j row passed) (partners j row (inner ∷ [])) in
    then ∙ (ap (λ l. l ++ pairs_among j row (inner ∷ [])) is ∙ (Rattle.std.proofs.lemmas.List.append_assoc a (pairs_among j row passed) (pairs_among j row (inner ∷ [])) ∙ ap (λ l. a ++ l) (sym all)))

pub agreeing_append : (t : Table) (buckets hash : ℕ) (xs ys : List ℕ) → agreeing_among t buckets hash (xs ++ ys) ≡ agreeing_among t buckets hash xs + agreeing_among t buckets hash ys
agreeing_append t buckets hash xs ys =
    let p : ℕ → Bool = λ i. agrees buckets hash (hash_of_key (key_of t i)) in
    ap length (filter-append p xs ys) ∙ length-append (filter p xs) (filter p ys)

-- Of rows that are there, each once, no more pass a test than of all
abbrev bit : Bool → ℕ
bit b = cond b 1 0

filter_one : (p : ℕ → Bool) (x : ℕ) (xs : List ℕ) → length (filter p (x ∷ xs)) ≡ bit (p x) + length (filter p xs)
filter_one p x xs = ⊎_elim
    (λ (t : p x ≡ true). let a : length (filter p (x ∷ xs)) ≡ suc (length (filter p xs)) = ap (λ b. length (cond b (x ∷ filter p xs) (filter p xs))) t in let b : bit (p x) ≡ 1 = ap bit t in omega arith)
    (λ (f : p x ≡ false). let a : length (filter p (x ∷ xs)) ≡ length (filter p xs) = ap (λ b. length (cond b (x ∷ filter p xs) (filter p xs))) f in let b : bit (p x) ≡ 0 = ap bit f in omega arith)
    (cases_Bool (p x))

filter_without : (p : ℕ → Bool) (r : ℕ) (l : List ℕ) → 1 ≤ times r l → length (filter p l) ≡ bit (p r) + length (filter p (without r l))
filter_without p r [] more = absurd (omega arith)
filter_without p r (y ∷ ys) more =
    let f = filter_one p y ys in
    ⊎_elim
    (λ (e : y ≡ r). let a : length (filter p (without r (y ∷ ys))) ≡ length (filter p ys) = ap (λ b. length (filter p (cond b ys (y ∷ without r ys)))) (eq-eqb y r e) in let b : bit (p y) ≡ bit (p r) = ap (λ (n : ℕ). bit (p n)) e in omega arith)
    (λ (ne : y ≢ r). let a : length (filter p (without r (y ∷ ys))) ≡ length (filter p (y ∷ without r ys)) = ap (λ b. length (filter p (cond b ys (y ∷ without r ys)))) (ne_eqb y r ne) in
    let g = filter_one p y (without r ys) in let z = one_other r y ne in let i = filter_without p r ys (omega arith) in omega arith)
    (cases_eq y r)

filter_le : (p : ℕ → Bool) (l k : List ℕ) → ((x : ℕ) → times x l ≤ times x k) → length (filter p l) ≤ length (filter p k)
filter_le p [] k less = omega arith
filter_le p (r ∷ rs) k less =
    let here : 1 ≤ times r k = (let a = less r in let b = one_same r r refl in omega arith) in
    let f = filter_one p r rs in
    let c = filter_without p r k here in
    let i = filter_le p rs (without r k) (λ x. let a = less x in let b = times_without r k here x in omega arith) in omega arith

pub none_in : (a n i : ℕ) → (i < a) ⊎ (a + n ≤ i) → times i (range_with_len a n) ≡ 0
none_in a zero i out = refl
none_in a (suc n) i out =
    let ne : a ≢ i = λ e. ⊎_elim (λ x. absurd (omega arith)) (λ x. absurd (omega arith)) out in
    let z = one_other i a ne in
    let r = none_in (a + 1) n i (⊎_elim (λ x. inl (omega arith)) (λ x. inr (omega arith)) out) in omega arith

pub once_in : (a n i : ℕ) → a ≤ i → i < a + n → times i (range_with_len a n) ≡ 1
once_in a zero i low high = absurd (omega arith)
once_in a (suc n) i low high = ⊎_elim
    (λ (e : a ≡ i). let z = one_same i a e in let r = none_in (a + 1) n i (inl (omega arith)) in omega arith)
    (λ (ne : a ≢ i). let z = one_other i a ne in let r = once_in (a + 1) n i (omega arith) (omega arith) in omega arith)
    (cases_eq a i)

few_pass : (p : ℕ → Bool) (l : List ℕ) (n : ℕ) → ((x : ℕ) → (times x l ≤ 1) × (1 ≤ times x l → x < n)) → length (filter p l) ≤ length (filter p (range_with_len 0 n))
few_pass p l n each = filter_le p l (range_with_len 0 n) (λ x. dite (dec_le 1 (times x l))
    (λ some. let less = (each x).1 some in let most = (each x).0 in let all = once_in 0 n x (omega arith) (omega arith) in omega arith)
    (λ none. omega arith))

-- rows that are there, each once, are no more than there are
filter_all : (l : List ℕ) → filter (λ (x : ℕ). true) l ≡ l
filter_all [] = refl
filter_all (x ∷ xs) = ap (λ (l : List ℕ). x ∷ l) (filter_all xs)

range_long : (a n : ℕ) → length (range_with_len a n) ≡ n
range_long a zero = refl
range_long a (suc n) = let i = range_long (a + 1) n in omega arith

pub rows_few : (l : List ℕ) (n : ℕ) → ((x : ℕ) → (times x l ≤ 1) × (1 ≤ times x l → x < n)) → length l ≤ n
rows_few l n each =
    let few = few_pass (λ (x : ℕ). true) l n each in
    let mine : length (filter (λ (x : ℕ). true) l) ≡ length l = ap length (filter_all l) in
    let all : length (filter (λ (x : ℕ). true) (range_with_len 0 n)) ≡ n = ap length (filter_all (range_with_len 0 n)) ∙ range_long 0 n in
    omega arith

-- rows that a walk passed agree with its outer row no more often than all inner rows do
pub agreeing_few : (p : HashParty) (row hash : ℕ) (l : List ℕ) → length p.inner.now.rows ≤ row → (join p).hash row ≡ Some hash → ((x : ℕ) → (times x l ≤ 1) × (1 ≤ times x l → x < length p.inner.now.rows))
    → agreeing_among p.inner.now p.buckets hash l ≤ walk_of p.outer.now p.inner.now p.buckets row
agreeing_few p row hash l past key each =
    let all = few_pass (λ i. agrees p.buckets hash (hash_of_key (key_of p.inner.now i))) l (length p.inner.now.rows) each in
    subst (λ (o : Option ℕ). agreeing_among p.inner.now p.buckets hash l ≤ Rattle.hash_probe.specs.Looks.agreeing p.inner.now p.buckets o) (sym key ∙ outer_hash p row past) all
