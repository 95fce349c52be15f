-- The pairs of the nested loop: each once where the rows are there and meet.
use Rattle.std.proofs.Common.{◌≡◌, ◌≢◌, ◌⊎◌, ℕ, zero, suc, ◌+◌, ◌<◌, ◌≤◌, ◌&&◌, Bool, true, false, cond, eqb, List, [], ◌∷◌, map, length, refl, ap, ◌∙◌, arith, inl, inr, ⊎_elim}
use Rattle.std.specs.List.{flat_map, filter, range_with_len}
use Rattle.std.proofs.lemmas.Bool.{eq-eqb, ne_eqb, cases_Bool, cases_eq}
use Rattle.seat_roster.specs.Roster.{times}
use Rattle.row_model.specs.declared.Pair.{Pair}
use Rattle.row_model.specs.Table.{Table, key_of, meets, pairs_of, nested_loop}
use Rattle.join_law.proofs.Rows.{one, one_same, one_other}
use Rattle.hash_probe.proofs.Comparing.{once_in}
use Rattle.hash_probe.specs.Hits.{hit, hits}
use Rattle.hash_probe.proofs.Hits.{hits_append}

abbrev pub paired : ℕ → ℕ → Pair
paired o i = record { outer = o; inner = i }

-- one outer row with each of some inner rows
pub paired_same : (k o i : ℕ) (l : List ℕ) → k ≡ o → hits o i (map (paired k) l) ≡ times i l
paired_same k o i [] e = refl
paired_same k o i (x ∷ xs) e =
    let a : hit o i (paired k x) ≡ cond (eqb x i) 1 0 = ap (λ b. cond (b && eqb x i) 1 0) (eq-eqb k o e) in
    let r = paired_same k o i xs e in omega arith

pub paired_other : (k o i : ℕ) (l : List ℕ) → k ≢ o → hits o i (map (paired k) l) ≡ 0
paired_other k o i [] ne = refl
paired_other k o i (x ∷ xs) ne =
    let a : hit o i (paired k x) ≡ 0 = ap (λ b. cond (b && eqb x i) 1 0) (ne_eqb k o ne) in
    let r = paired_other k o i xs ne in omega arith

pub times_filter : (p : ℕ → Bool) (i : ℕ) (l : List ℕ) → (p i ≡ true → times i (filter p l) ≡ times i l) × (p i ≡ false → times i (filter p l) ≡ 0)
times_filter p i [] = (λ _. refl, λ _. refl)
times_filter p i (x ∷ xs) =
    let r = times_filter p i xs in
    let taken : p x ≡ true → times i (filter p (x ∷ xs)) ≡ one i x + times i (filter p xs) = λ e. ap (λ b. times i (cond b (x ∷ filter p xs) (filter p xs))) e in
    let left : p x ≡ false → times i (filter p (x ∷ xs)) ≡ times i (filter p xs) = λ e. ap (λ b. times i (cond b (x ∷ filter p xs) (filter p xs))) e in
    ⊎_elim
    (λ (e : x ≡ i). let one = one_same i x e in (
      λ is. let t = taken (ap p e ∙ is) in let s = r.0 is in omega arith,
      λ not_so. left (ap p e ∙ not_so) ∙ r.1 not_so,
    ))
    (λ (ne : x ≢ i). let none = one_other i x ne in
    let same : times i (filter p (x ∷ xs)) ≡ times i (filter p xs) = ⊎_elim (λ is. let t = taken is in omega arith) (λ not_so. left not_so) (cases_Bool (p x)) in (
      λ is. let s = r.0 is in omega arith,
      λ not_so. same ∙ r.1 not_so,
    ))
    (cases_eq x i)

module _ (outer inner : Table) where
  abbrev pub meet : ℕ → ℕ → Bool
  meet o i = meets (key_of outer o) (key_of inner i)

  row_other : (k o i : ℕ) → k ≢ o → hits o i (pairs_of outer inner k) ≡ 0
  row_other k o i ne = paired_other k o i (filter (meet k) (range_with_len 0 (length inner.rows))) ne

  row_once : (o i : ℕ) → i < length inner.rows → meet o i ≡ true → hits o i (pairs_of outer inner o) ≡ 1
  row_once o i less is = paired_same o o i (filter (meet o) (range_with_len 0 (length inner.rows))) refl ∙ ((times_filter (meet o) i (range_with_len 0 (length inner.rows))).0 is ∙ once_in 0 (length inner.rows) i (omega arith) (omega arith))

  pub rows_none : (a n o i : ℕ) → (o < a) ⊎ (a + n ≤ o) → hits o i (flat_map (pairs_of outer inner) (range_with_len a n)) ≡ 0
  rows_none a zero o i out = refl
  rows_none a (suc n) o i out =
      let ne : a ≢ o = λ e. ⊎_elim (λ x. absurd (omega arith)) (λ x. absurd (omega arith)) out in
      let s = hits_append o i (pairs_of outer inner a) (flat_map (pairs_of outer inner) (range_with_len (a + 1) n)) in
      let z = row_other a o i ne in
      let r = rows_none (a + 1) n o i (⊎_elim (λ x. inl (omega arith)) (λ x. inr (omega arith)) out) in omega arith

  pub rows_there : (a n o i : ℕ) → a ≤ o → o < a + n → hits o i (flat_map (pairs_of outer inner) (range_with_len a n)) ≡ hits o i (pairs_of outer inner o)
  rows_there a zero o i low high = absurd (omega arith)
  rows_there a (suc n) o i low high =
      let s = hits_append o i (pairs_of outer inner a) (flat_map (pairs_of outer inner) (range_with_len (a + 1) n)) in
      ⊎_elim
      (λ (e : a ≡ o). let r = rows_none (a + 1) n o i (inl (omega arith)) in let same : hits o i (pairs_of outer inner a) ≡ hits o i (pairs_of outer inner o) = ap (λ k. hits o i (pairs_of outer inner k)) e in omega arith)
      (λ (ne : a ≢ o). let z = row_other a o i ne in let r = rows_there (a + 1) n o i (omega arith) (omega arith) in omega arith)
      (cases_eq a o)

  -- a pair of rows that meet stands in the nested loop once
  pub loop_once : (o i : ℕ) → o < length outer.rows → i < length inner.rows → meet o i ≡ true → hits o i (nested_loop outer inner) ≡ 1
  unfolding nested_loop
  loop_once o i out less is = rows_there 0 (length outer.rows) o i (omega arith) (omega arith) ∙ row_once o i less is
