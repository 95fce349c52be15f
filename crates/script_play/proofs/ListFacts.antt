-- Laws of lists of which one item is written, and of what a call answers.
use Rattle.std.proofs.Common.{◌≡◌, ℕ, zero, suc, ◌<◌, nat_lt, true, List, [], ◌∷◌, map, set, get_or, Result, refl, ap, arith}
use Rattle.std.specs.Prelude.{OnOk, Ok, Err}
use Rattle.std.proofs.lemmas.Bool.Decides.{nat_tests}

-- what holds of each item, and of one that is written
pub each-set : {A : Type 0} (P : A → Type 0) (d : A) (xs : List A) (i : ℕ) (x : A) → ((j : ℕ) → P (get_or xs j d)) → P x → (j : ℕ) → P (get_or (set xs i x) j d)
each-set P d [] i x each new j = each j
each-set P d (y ∷ ys) zero x each new zero = new
each-set P d (y ∷ ys) zero x each new (suc j) = each (suc j)
each-set P d (y ∷ ys) (suc i) x each new zero = each zero
each-set P d (y ∷ ys) (suc i) x each new (suc j) = each-set P d ys i x (λ k. each (suc k)) new j

pub each-map : {A B : Type 0} (P : B → Type 0) (f : A → B) (d : B) (xs : List A) → ((x : A) → P (f x)) → P d → (j : ℕ) → P (get_or (map f xs) j d)
each-map P f d [] each none j = none
each-map P f d (x ∷ xs) each none zero = each x
each-map P f d (x ∷ xs) each none (suc j) = each-map P f d xs each none j

pub map-set : {A B : Type 0} (f : A → B) (xs : List A) (i : ℕ) (x : A) → map f (set xs i x) ≡ set (map f xs) i (f x)
map-set f [] i x = refl
map-set f (y ∷ ys) zero x = refl
map-set {B = B} f (y ∷ ys) (suc i) x = ap (λ (t : List B). f y ∷ t) (map-set f ys i x)

pub set-same : {A : Type 0} (d : A) (xs : List A) (i : ℕ) → set xs i (get_or xs i d) ≡ xs
set-same d [] i = refl
set-same d (x ∷ xs) zero = refl
set-same {A = A} d (x ∷ xs) (suc i) = ap (λ (t : List A). x ∷ t) (set-same d xs i)

pub on_ok : {A E : Type 0} (r : Result A E) (P : Type 0) → P → OnOk r P
on_ok (Ok x) P h = h
on_ok (Err e) P h = tt

pub below-true : (a b : ℕ) → a < b → nat_lt a b ≡ true
below-true a b h = grind (arith, nat_tests, h)
