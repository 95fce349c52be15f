-- A part of a rule speaks of some words and of a projection of each view. A step that changes neither keeps the part.
use Rattle.std.proofs.Common.{◌≡◌, ◌≢◌, ℕ, zero, suc, List, [], ◌∷◌, ◌++◌, get_or, map, set, ap, ◌∙◌, sym, subst, refl, ⊎_elim, get_or-set_other}
use Rattle.std.proofs.lemmas.List.{map_push}
use mathlib.Core.Option.{some, some-injective, some-ne-none}
use lib.ListN.{get_elem?}
use lib.Seq.{map-set}
use Rattle.atomic_table.proofs.Lists.{set_again, at_map, at_set, at_snoc}

-- a fact of y is one of x
pub for_same : {A : Type 0} (x y : A) → x ≡ y → (F : A → Type 0) → F y → F x
for_same x y e F f = subst F (sym e) f

module _ {V B : Type 0} (see : V → B) where
  -- a new view looks the same
  pub unseen : (vs : List V) (id : ℕ) (v w : V) → get_elem? vs id ≡ some v → see w ≡ see v → map see (set vs id w) ≡ map see vs
  unseen vs id v w at same = map-set see vs id w ∙ (ap (set (map see vs) id) same ∙ set_again (map see vs) id (see v) (at_map see vs id v at))

  -- a new view looks another way
  pub seen : (vs : List V) (id : ℕ) (w : V) (b : B) → see w ≡ b → map see (set vs id w) ≡ set (map see vs) id b
  seen vs id w b is = map-set see vs id w ∙ ap (set (map see vs) id) is

  -- one view more
  pub seen_more : (vs : List V) (w : V) → map see (vs ++ w ∷ []) ≡ map see vs ++ see w ∷ []
  seen_more vs w = map_push see vs w

  pub at_seen : (vs : List V) (id : ℕ) (v : V) (b : B) → get_elem? vs id ≡ some v → see v ≡ b → get_elem? (map see vs) id ≡ some b
  at_seen vs id v b at is = at_map see vs id v at ∙ ap some is

  -- what is seen belongs to a view
  pub from_seen : (vs : List V) (id : ℕ) (b : B) → get_elem? (map see vs) id ≡ some b → (v : V) × (get_elem? vs id ≡ some v) × (see v ≡ b)
  from_seen [] id b e = absurd (some-ne-none b (sym e))
  from_seen (x ∷ xs) zero b e = (x, refl, some-injective (see x) b e)
  from_seen (x ∷ xs) (suc id) b e = from_seen xs id b e

  -- THE FRAME LAW: of a part that speaks of the word j and of what is seen of the views
  pub frame : (Part : ℕ → List B → Type 0) (words : List ℕ) (i n j : ℕ) (vs : List V) (id : ℕ) (v w : V) → get_elem? vs id ≡ some v → j ≢ i → see w ≡ see v
      → Part (get_or words j 0) (map see vs) → Part (get_or (set words i n) j 0) (map see (set vs id w))
  frame Part words i n j vs id v w at other same h =
      subst (λ (x : ℕ). Part x (map see (set vs id w))) (sym (get_or-set_other words i j n 0 other)) (subst (λ (x : List B). Part (get_or words j 0) x) (sym (unseen vs id v w at same)) h)

-- what is seen of what is seen
pub map_twice : {A B C : Type 0} (f : B → C) (g : A → B) (l : List A) → map f (map g l) ≡ map (λ x. f (g x)) l
map_twice f g [] = refl
map_twice f g (x ∷ xs) = λ i. f (g x) ∷ map_twice f g xs i

-- a word that is there is the one at its index
pub index_at : (ns : List ℕ) (i n : ℕ) → get_elem? ns i ≡ some n → get_or ns i 0 ≡ n
index_at [] i n e = absurd (some-ne-none n (sym e))
index_at (x ∷ xs) zero n e = some-injective x n e
index_at (x ∷ xs) (suc i) n e = index_at xs i n e

-- a fact of each member, once one is changed, and once one is added
pub each_set : {A : Type 0} (P : A → Type 0) (l : List A) (id : ℕ) (w : A) → ((j : ℕ) (u : A) → get_elem? l j ≡ some u → P u) → P w → (j : ℕ) (u : A) → get_elem? (set l id w) j ≡ some u → P u
each_set P l id w others mine j u e = ⊎_elim (λ (t : (j ≡ id) × (w ≡ u)). subst P t.1 mine) (λ (t : (j ≢ id) × (get_elem? l j ≡ some u)). others j u t.1) (at_set l id j w u e)

pub each_more : {A : Type 0} (P : A → Type 0) (l : List A) (w : A) → ((j : ℕ) (u : A) → get_elem? l j ≡ some u → P u) → P w → (j : ℕ) (u : A) → get_elem? (l ++ w ∷ []) j ≡ some u → P u
each_more P l w others mine j u e = ⊎_elim (others j u) (λ (is : w ≡ u). subst P is mine) (at_snoc l w u j e)
