-- Lemmas on totals: after a member is changed or added, and against one or two members.
use Rattle.std.proofs.Common.{◌≡◌, ℕ, zero, suc, ◌+◌, ◌<◌, ◌≤◌, List, [], ◌∷◌, ◌++◌, length, map, set, sym, refl, ap, arith}
use mathlib.Core.Logic.{dite}
use mathlib.Core.Option.{some, some-injective, some-ne-none}
use native.Mathlib.Decide.{ℕ_discrete}
use lib.ListN.{get_elem?}
use Rattle.atomic_table.proofs.Lists.{set_here}
use Rattle.seat_roster.specs.Totals.{total}

module _ {A : Type 0} (f : A → ℕ) where
  pub total_set : (l : List A) (i : ℕ) (v w : A) → get_elem? l i ≡ some v → total f (set l i w) + f v ≡ total f l + f w
  total_set [] i v w e = absurd (some-ne-none v (sym e))
  total_set (x ∷ xs) zero v w e = let is : f x ≡ f v = ap f (some-injective x v e) in omega arith
  total_set (x ∷ xs) (suc i) v w e = let r = total_set xs i v w e in omega arith

  pub total_snoc : (l : List A) (v : A) → total f (l ++ v ∷ []) ≡ total f l + f v
  total_snoc [] v = omega arith
  total_snoc (x ∷ xs) v = let r = total_snoc xs v in omega arith

  pub total_append : (l m : List A) → total f (l ++ m) ≡ total f l + total f m
  total_append [] m = omega arith
  total_append (x ∷ xs) m = let r = total_append xs m in omega arith

  pub total_at : (l : List A) (i : ℕ) (v : A) → get_elem? l i ≡ some v → f v ≤ total f l
  total_at [] i v e = absurd (some-ne-none v (sym e))
  total_at (x ∷ xs) zero v e = let is : f x ≡ f v = ap f (some-injective x v e) in omega arith
  total_at (x ∷ xs) (suc i) v e = let r = total_at xs i v e in omega arith

module _ {A : Type 0} (f : A → ℕ) where
  -- two members
  pub total_two : (l : List A) (i j : ℕ) (v w : A) → (j ≡ i → ⊥) → get_elem? l i ≡ some v → get_elem? l j ≡ some w → f v + f w ≤ total f l
  total_two [] i j v w ne e e' = absurd (some-ne-none v (sym e))
  total_two (x ∷ xs) zero zero v w ne e e' = absurd (ne refl)
  total_two (x ∷ xs) zero (suc j) v w ne e e' = let is : f x ≡ f v = ap f (some-injective x v e) in let r = total_at f xs j w e' in omega arith
  total_two (x ∷ xs) (suc i) zero v w ne e e' = let is : f x ≡ f w = ap f (some-injective x w e') in let r = total_at f xs i v e in omega arith
  total_two (x ∷ xs) (suc i) (suc j) v w ne e e' = let r = total_two xs i j v w (λ h. ne (ap suc h)) e e' in omega arith

pub total_le : {A : Type 0} (f g : A → ℕ) (l : List A) → ((i : ℕ) (v : A) → get_elem? l i ≡ some v → f v ≤ g v) → total f l ≤ total g l
total_le f g [] h = omega arith
total_le f g (x ∷ xs) h = let a = h 0 x refl in let b = total_le f g xs (λ i v e. h (suc i) v e) in omega arith

-- where f is below g, and by how much at one member
pub total_gap : {A : Type 0} (f g : A → ℕ) (l : List A) (i : ℕ) (v : A) → ((i : ℕ) (v : A) → get_elem? l i ≡ some v → f v ≤ g v) → get_elem? l i ≡ some v → total f l + g v ≤ total g l + f v
total_gap f g [] i v h e = absurd (some-ne-none v (sym e))
total_gap f g (x ∷ xs) zero v h e = let a : f x ≡ f v = ap f (some-injective x v e) in let b : g x ≡ g v = ap g (some-injective x v e) in let c = total_le f g xs (λ i v e. h (suc i) v e) in omega arith
total_gap f g (x ∷ xs) (suc i) v h e = let a = h 0 x refl in let b = total_gap f g xs i v (λ i v e. h (suc i) v e) e in omega arith

-- a total over what a function makes of the members
pub total_map : {A B : Type 0} (f : B → ℕ) (g : A → B) (l : List A) → total f (map g l) ≡ total (λ x. f (g x)) l
total_map f g [] = refl
total_map f g (x ∷ xs) = let r = total_map f g xs in omega arith

-- two totals, together below a third
pub total_sum_le : {A : Type 0} (f g k : A → ℕ) (l : List A) → ((i : ℕ) (v : A) → get_elem? l i ≡ some v → f v + g v ≤ k v) → total f l + total g l ≤ total k l
total_sum_le f g k [] h = omega arith
total_sum_le f g k (x ∷ xs) h = let a = h 0 x refl in let b = total_sum_le f g k xs (λ i v e. h (suc i) v e) in omega arith

-- where it is nothing at each member, it is nothing
pub total_none : {A : Type 0} (f : A → ℕ) (l : List A) → ((i : ℕ) (v : A) → get_elem? l i ≡ some v → f v ≡ 0) → total f l ≡ 0
total_none f [] h = refl
total_none f (x ∷ xs) h = let a = h 0 x refl in let b = total_none f xs (λ i v e. h (suc i) v e) in omega arith

-- where it isn't nothing some member adds to it
pub total_some : {A : Type 0} (f : A → ℕ) (l : List A) → 1 ≤ total f l → (i : ℕ) × (v : A) × (get_elem? l i ≡ some v) × (1 ≤ f v)
total_some f [] more = absurd (omega arith)
total_some f (x ∷ xs) more = dite (ℕ_discrete (f x) 0) (λ none. let r = total_some f xs (omega arith) in (suc r.0, r.1, r.2, r.3)) (λ adds. (zero, x, refl, omega arith))

-- two totals together
pub total_both : {A : Type 0} (f g : A → ℕ) (l : List A) → total (λ (x : A). f x + g x) l ≡ total f l + total g l
total_both f g [] = refl
total_both f g (x ∷ xs) = let r = total_both f g xs in omega arith

-- g counts one member alone, and f nobody whom g doesn't count
pub total_only : {A : Type 0} (f g : A → ℕ) (l : List A) (i : ℕ) (v : A) → get_elem? l i ≡ some v → total g l ≤ 1 → g v ≡ 1 → ((j : ℕ) (u : A) → get_elem? l j ≡ some u → g u ≡ 0 → f u ≡ 0) → total f l ≡ f v
total_only f g [] i v e one mine none = absurd (some-ne-none v (sym e))
total_only f g (x ∷ xs) zero v e one mine none =
    let a : f x ≡ f v = ap f (some-injective x v e) in let b : g x ≡ g v = ap g (some-injective x v e) in
    let c = total_none f xs (λ j u e'. none (suc j) u e' (let d = total_at g xs j u e' in omega arith)) in omega arith
total_only f g (x ∷ xs) (suc i) v e one mine none =
    let a = total_at g xs i v e in let b = none 0 x refl (omega arith) in let c = total_only f g xs i v e (omega arith) mine (λ j u e'. none (suc j) u e') in omega arith

-- a member stands below the length, and is replaced where it stands
pub at_inside : {A : Type 0} (l : List A) (i : ℕ) (v : A) → get_elem? l i ≡ some v → i < length l
at_inside [] i v e = absurd (some-ne-none v (sym e))
at_inside (x ∷ xs) zero v e = omega arith
at_inside (x ∷ xs) (suc i) v e = let r = at_inside xs i v e in omega arith

pub set_there : {A : Type 0} (l : List A) (i : ℕ) (v w : A) → get_elem? l i ≡ some v → get_elem? (set l i w) i ≡ some w
set_there l i v w e = set_here l i w (at_inside l i v e)
