-- Each step leaves a word that the steps of the seats account for.
use Rattle.std.proofs.Common.{◌≡◌, ◌≢◌, ℕ, ◌+◌, ◌-◌, ◌<◌, ◌==◌, cond, List, [], ◌∷◌, ◌++◌, length, map, get_or, set, refl, sym, ap, ◌∙◌, subst, arith, get_or-set_same, get_or-set_other, eq-eqb}
use Rattle.std.proofs.lemmas.Bool.{ne_eqb}
use mathlib.Core.List.{map-append}
use mathlib.Core.Logic.{dite}
use mathlib.Core.Option.{some}
use native.Mathlib.Decide.{ℕ_discrete}
use lib.ListN.{get_elem?}
use Rattle.atomic_table.proofs.Lists.{set_else}
use Rattle.seat_roster.specs.Totals.{total}
use Rattle.seat_roster.specs.WordsAreMade.{Effect, signed, raise, lower, AreMade}
use Rattle.seat_roster.proofs.Totals.{total_set, total_snoc, total_append, total_map}

at_word : (a x : ℕ) → cond (a == a) x 0 ≡ x
at_word a x = ap (λ b. cond b x 0) (eq-eqb a a refl)

off_word : (a b x : ℕ) → b ≢ a → cond (a == b) x 0 ≡ 0
off_word a b x ne = ap (λ t. cond t x 0) (ne_eqb a b (λ e. ne (sym e)))

-- the new steps are the old ones and one more, or those and others, in any order
abbrev pub OneMore : {M : Type 0} → List (ℕ × M) → ℕ × M → List (ℕ × M) → Type 0
OneMore {M} old s new = (f : ℕ × M → ℕ) → total f new ≡ total f old + f s

abbrev pub Both : {M : Type 0} → List (ℕ × M) → List (ℕ × M) → List (ℕ × M) → Type 0
Both {M} old others new = (f : ℕ × M → ℕ) → total f new ≡ total f old + total f others

-- a seat that made a step more, and took over these
pub one_more : {M : Type 0} (by o : ℕ) (steps : List M) (taken : List (ℕ × M)) (m : M) → by ≡ o → OneMore (signed by steps ++ taken) (o, m) (signed by (steps ++ m ∷ []) ++ taken)
one_more {M} by o steps taken m is f =
    let g : M → ℕ = λ x. f (by, x) in
    let a = total_append f (signed by (steps ++ m ∷ [])) taken in let b = total_append f (signed by steps) taken in
    let c = total_map f (λ x. (by, x)) (steps ++ m ∷ []) in let d = total_map f (λ x. (by, x)) steps in
    let e = total_snoc g steps m in let here : f (by, m) ≡ f (o, m) = ap (λ (x : ℕ). f (x, m)) is in omega arith

-- a seat that takes over all steps of another
pub both_taken : {M : Type 0} (own taken others : List (ℕ × M)) → Both (own ++ taken) others (own ++ (taken ++ others))
both_taken own taken others f = let a = total_append f own taken in let b = total_append f own (taken ++ others) in let c = total_append f taken others in omega arith

-- the same, where what a seat took over is kept in another form
pub both_signed : {M I : Type 0} (sign : I → ℕ × M) (own : List (ℕ × M)) (taken theirs : List I) (others : List (ℕ × M)) → map sign theirs ≡ others → Both (own ++ map sign taken) others (own ++ map sign (taken ++ theirs))
both_signed {M} sign own taken theirs others is = subst (λ (l : List (ℕ × M)). Both (own ++ map sign taken) others (own ++ l)) (sym (map-append sign taken theirs ∙ ap (λ (l : List (ℕ × M)). map sign taken ++ l) is)) (both_taken own (map sign taken) others)

module _ {M : Type 0} (e : Effect M) (opened : ℕ → ℕ) (count : ℕ) (words : List ℕ) (seats : List (List (ℕ × M))) (h : AreMade e opened count words seats) where
  -- a seat makes a step
  pub made_step : (id : ℕ) (old new : List (ℕ × M)) (s : ℕ × M) → get_elem? seats id ≡ some old → OneMore old s new → e.word s.0 s.1 < length words → e.found s.1 ≡ get_or words (e.word s.0 s.1) 0
      → AreMade e opened count (set words (e.word s.0 s.1) (e.left s.1)) (set seats id new)
  made_step id old new s at more inside finds j above below =
      let i : ℕ = e.word s.0 s.1 in let n : ℕ = e.found s.1 in let x : ℕ = e.left s.1 in
      let low = total_set (total (lower e j)) seats id old new at in
      let high = total_set (total (raise e j)) seats id old new at in
      let less = more (lower e j) in let greater = more (raise e j) in let before = h j above below in
      dite (ℕ_discrete j i)
      (λ is.
      let here : get_or (set words i x) j 0 ≡ x = ap (λ (k : ℕ). get_or (set words i x) k 0) is ∙ get_or-set_same words i x 0 inside in
      let was : get_or words j 0 ≡ n = ap (λ (k : ℕ). get_or words k 0) is ∙ sym finds in
      let down : lower e j s ≡ n - x = ap (λ (k : ℕ). lower e k s) is ∙ at_word i (n - x) in
      let up : raise e j s ≡ x - n = ap (λ (k : ℕ). raise e k s) is ∙ at_word i (x - n) in omega arith)
      (λ ne.
      let there = get_or-set_other words i j x 0 ne in
      let down : lower e j s ≡ 0 = off_word i j (n - x) ne in
      let up : raise e j s ≡ 0 = off_word i j (x - n) ne in omega arith)

  -- no such word is touched
  pub made_same : (new : List ℕ) → ((i : ℕ) → 0 < i → i < count → get_or new i 0 ≡ get_or words i 0) → AreMade e opened count new seats
  made_same new agree i above below = let a = agree i above below in let b = h i above below in omega arith

  -- a seat comes that made no step
  pub made_snoc : AreMade e opened count words (seats ++ [] ∷ [])
  made_snoc i above below = let a = total_snoc (total (lower e i)) seats [] in let b = total_snoc (total (raise e i)) seats [] in let c = h i above below in omega arith

  -- a seat takes in another, and its steps
  pub made_joined : (id other : ℕ) (old others new : List (ℕ × M)) → (other ≡ id → ⊥) → get_elem? seats id ≡ some old → get_elem? seats other ≡ some others → Both old others new → AreMade e opened count words (set (set seats id new) other [])
  made_joined id other old others new apart at there both i above below = let a = moved (lower e i) in let b = moved (raise e i) in let c = h i above below in omega arith
    where
      moved : (f : ℕ × M → ℕ) → total (total f) (set (set seats id new) other []) ≡ total (total f) seats
      moved f = let a = total_set (total f) seats id old new at in let b = total_set (total f) (set seats id new) other others [] (set_else seats id other new apart ∙ there) in let c = both f in omega arith
