-- How often a backend is on a list, and who stands before whom.
use Rattle.std.proofs.Common.{◌≡◌, ◌≢◌, ℕ, zero, suc, ◌+◌, ◌<◌, ◌≤◌, eqb, Bool, true, false, cond, List, [], ◌∷◌, ◌++◌, length, refl, sym, ap, ◌∙◌, arith, eq-eqb, eqb-true, ne_eqb}
use Rattle.std.proofs.lemmas.Bool.{eqb-false}
use mathlib.Core.Logic.{dite}
use native.Mathlib.Decide.{ℕ_discrete, dec_lt}
use Rattle.seat_roster.specs.Roster.{times}
use Rattle.seat_roster.proofs.Numbers.{times_append}
use Rattle.wait_core.specs.Lists.{is_listed, without, precedes, AllBelow}

pub head_here : (p q : ℕ) → q ≡ p → cond {A = ℕ} (eqb q p) 1 0 ≡ 1
head_here p q is = ap (λ (b : Bool). cond {A = ℕ} b 1 0) (eq-eqb q p is)

pub head_else : (p q : ℕ) → q ≢ p → cond {A = ℕ} (eqb q p) 1 0 ≡ 0
head_else p q ne = ap (λ (b : Bool). cond {A = ℕ} b 1 0) (ne_eqb q p ne)

pub times_last : (p q : ℕ) (xs : List ℕ) → q ≢ p → times p (xs ++ q ∷ []) ≡ times p xs
times_last p q xs ne = let sum = times_append p xs (q ∷ []) in let none = head_else p q ne in omega arith

pub times_joined : (p : ℕ) (xs : List ℕ) → times p (xs ++ p ∷ []) ≡ times p xs + 1
times_joined p xs = let sum = times_append p xs (p ∷ []) in let one = head_here p p refl in omega arith

pub times_without : (p r : ℕ) (xs : List ℕ) → p ≢ r → times p (without r xs) ≡ times p xs
times_without p r [] ne = refl
times_without p r (x ∷ xs) ne = by_head (eqb x r) refl (times_without p r xs ne)
  where
    by_head : (b : Bool) → eqb x r ≡ b → times p (without r xs) ≡ times p xs → times p (cond b (without r xs) (x ∷ without r xs)) ≡ cond (eqb x p) 1 0 + times p xs
    by_head true e rest = let none = head_else p x (λ is. ne (sym is ∙ eqb-true x r e)) in omega arith
    by_head false e rest = omega arith

pub times_gone : (r : ℕ) (xs : List ℕ) → times r (without r xs) ≡ 0
times_gone r [] = refl
times_gone r (x ∷ xs) = by_head (eqb x r) refl (times_gone r xs)
  where
    by_head : (b : Bool) → eqb x r ≡ b → times r (without r xs) ≡ 0 → times r (cond b (without r xs) (x ∷ without r xs)) ≡ 0
    by_head true e rest = rest
    by_head false e rest = let none = head_else r x (λ is. eqb-false x r e is) in omega arith

pub times_left : (p r : ℕ) (xs : List ℕ) → times p (without r xs) ≤ times p xs
times_left p r xs = dite (ℕ_discrete p r) (λ is. let none = ap (λ (n : ℕ). times n (without r xs)) is in let gone = times_gone r xs in omega arith) (λ ne. let same = times_without p r xs ne in omega arith)

-- a test of the list, and how often the backend is on it
pub listed_there : (p : ℕ) (xs : List ℕ) → is_listed p xs ≡ true → 1 ≤ times p xs
listed_there p [] e = absurd (cc)
listed_there p (x ∷ xs) e = by_head (eqb x p) e (λ later. listed_there p xs later)
  where
    by_head : (b : Bool) → cond b true (is_listed p xs) ≡ true → (is_listed p xs ≡ true → 1 ≤ times p xs) → 1 ≤ cond b 1 0 + times p xs
    by_head true e later = omega arith
    by_head false e later = let rest = later e in omega arith

pub not_listed : (p : ℕ) (xs : List ℕ) → is_listed p xs ≡ false → times p xs ≡ 0
not_listed p [] e = refl
not_listed p (x ∷ xs) e = by_head (eqb x p) e (λ later. not_listed p xs later)
  where
    by_head : (b : Bool) → cond b true (is_listed p xs) ≡ false → (is_listed p xs ≡ false → times p xs ≡ 0) → cond b 1 0 + times p xs ≡ 0
    by_head true e later = absurd (cc)
    by_head false e later = let rest = later e in omega arith

-- ROOM. A list of backends below n, each on it once at most, is n long at most
length_without : (r : ℕ) (xs : List ℕ) → length (without r xs) + times r xs ≡ length xs
length_without r [] = refl
length_without r (x ∷ xs) = by_head (eqb x r) (length_without r xs)
  where
    by_head : (b : Bool) → length (without r xs) + times r xs ≡ length xs → length (cond b (without r xs) (x ∷ without r xs)) + (cond b 1 0 + times r xs) ≡ length (x ∷ xs)
    by_head true rest = omega arith
    by_head false rest = omega arith

below_without : (n : ℕ) (xs : List ℕ) → AllBelow (suc n) xs → AllBelow n (without n xs)
below_without n [] all = tt
below_without n (x ∷ xs) all = by_head (eqb x n) refl (below_without n xs all.1)
  where
    by_head : (b : Bool) → eqb x n ≡ b → AllBelow n (without n xs) → AllBelow n (cond b (without n xs) (x ∷ without n xs))
    by_head true e rest = rest
    by_head false e rest = (let less = all.0 in let ne = eqb-false x n e in omega arith, rest)

pub fits_below : (n : ℕ) (xs : List ℕ) → AllBelow n xs → ((q : ℕ) → times q xs ≤ 1) → length xs ≤ n
fits_below n [] all once = omega arith
fits_below zero (x ∷ xs) all once = let none = all.0 in absurd (omega arith)
fits_below (suc n) (x ∷ xs) all once = let part = length_without n (x ∷ xs) in let one = once n in
    let rest = fits_below n (without n (x ∷ xs)) (below_without n (x ∷ xs) all) (λ q. let less = times_left q n (x ∷ xs) in let most = once q in omega arith) in omega arith

-- and shorter where one isn't on it
pub room_below : (n : ℕ) (xs : List ℕ) → AllBelow n xs → ((q : ℕ) → times q xs ≤ 1) → (p : ℕ) → p < n → times p xs ≡ 0 → length xs < n
room_below zero xs all once p below none = absurd (omega arith)
room_below (suc n) xs all once p below none = let part = length_without n xs in
    dite (ℕ_discrete p n)
    (λ is. let gone : times n xs ≡ 0 = ap (λ (m : ℕ). times m xs) (sym is) ∙ none in let rest = fits_below n (without n xs) (below_without n xs all) left in omega arith)
    (λ ne. let one = once n in let still : times p (without n xs) ≡ 0 = times_without p n xs ne ∙ none in let rest = room_below n (without n xs) (below_without n xs all) left p (omega arith) still in omega arith)
  where
    left : (q : ℕ) → times q (without n xs) ≤ 1
    left q = let less = times_left q n xs in let most = once q in omega arith

pub all_below : (n : ℕ) (xs : List ℕ) → ((q : ℕ) → n ≤ q → times q xs ≡ 0) → AllBelow n xs
all_below n [] none = tt
all_below n (x ∷ xs) none = (
  dite (dec_lt x n) (λ less. less) (λ more. let a = none x (omega arith) in let b = head_here x x refl in absurd (omega arith)),
  all_below n xs (λ q more. let a = none q more in omega arith),
)

-- ORDER. Who is on the list stands before the one who joins it
behind : (p q : ℕ) (xs ys : List ℕ) → precedes p q xs ≤ precedes p q (xs ++ ys)
behind p q [] ys = omega arith
behind p q (x ∷ xs) ys = by_head (eqb x p) (behind p q xs ys)
  where
    by_head : (b : Bool) → precedes p q xs ≤ precedes p q (xs ++ ys) → cond b (times q xs) (precedes p q xs) ≤ cond b (times q (xs ++ ys)) (precedes p q (xs ++ ys))
    by_head true rest = let sum = times_append q xs ys in omega arith
    by_head false rest = rest

pub before_last : (p q : ℕ) (xs : List ℕ) → 1 ≤ times p xs → 1 ≤ precedes p q (xs ++ q ∷ [])
before_last p q [] there = absurd (omega arith)
before_last p q (x ∷ xs) there = by_head (eqb x p) there (λ later. before_last p q xs later)
  where
    by_head : (b : Bool) → 1 ≤ cond b 1 0 + times p xs → (1 ≤ times p xs → 1 ≤ precedes p q (xs ++ q ∷ [])) → 1 ≤ cond b (times q (xs ++ q ∷ [])) (precedes p q (xs ++ q ∷ []))
    by_head true there later = let one = times_joined q xs in omega arith
    by_head false there later = later (omega arith)

pub behind_joined : (p q r : ℕ) (xs : List ℕ) → precedes p q xs ≤ precedes p q (xs ++ r ∷ [])
behind_joined p q r xs = behind p q xs (r ∷ [])

-- nobody else who leaves the list changes it
pub precedes_without : (p q r : ℕ) (xs : List ℕ) → p ≢ r → q ≢ r → precedes p q (without r xs) ≡ precedes p q xs
precedes_without p q r [] np nq = refl
precedes_without p q r (x ∷ xs) np nq = by_head (eqb x r) refl (precedes_without p q r xs np nq)
  where
    by_own : (b : Bool) → precedes p q (without r xs) ≡ precedes p q xs → cond b (times q (without r xs)) (precedes p q (without r xs)) ≡ cond b (times q xs) (precedes p q xs)
    by_own true rest = times_without q r xs nq
    by_own false rest = rest

    by_head : (b : Bool) → eqb x r ≡ b → precedes p q (without r xs) ≡ precedes p q xs → precedes p q (cond b (without r xs) (x ∷ without r xs)) ≡ cond (eqb x p) (times q xs) (precedes p q xs)
    by_head true e rest = rest ∙ sym (ap (λ (b : Bool). cond b (times q xs) (precedes p q xs)) (ne_eqb x p (λ h. np (sym h ∙ eqb-true x r e))))
    by_head false e rest = by_own (eqb x p) rest

pub precedes_popped : (p q x : ℕ) (xs : List ℕ) → x ≢ p → precedes p q (x ∷ xs) ≡ precedes p q xs
precedes_popped p q x xs ne = ap (λ (b : Bool). cond b (times q xs) (precedes p q xs)) (ne_eqb x p ne)

-- who stands before another is on the list, and so is the other
pub stands_there : (p q : ℕ) (xs : List ℕ) → 1 ≤ precedes p q xs → 1 ≤ times p xs
stands_there p q [] some = absurd (omega arith)
stands_there p q (x ∷ xs) some = by_head (eqb x p) some (λ h. stands_there p q xs h)
  where
    by_head : (b : Bool) → 1 ≤ cond b (times q xs) (precedes p q xs) → (1 ≤ precedes p q xs → 1 ≤ times p xs) → 1 ≤ cond b 1 0 + times p xs
    by_head true some rest = omega arith
    by_head false some rest = let there = rest some in omega arith

pub stands_behind : (p q : ℕ) (xs : List ℕ) → 1 ≤ precedes p q xs → 1 ≤ times q xs
stands_behind p q [] some = absurd (omega arith)
stands_behind p q (x ∷ xs) some = by_head (eqb x p) some (λ h. stands_behind p q xs h)
  where
    by_head : (b : Bool) → 1 ≤ cond b (times q xs) (precedes p q xs) → (1 ≤ precedes p q xs → 1 ≤ times q xs) → 1 ≤ cond (eqb x q) 1 0 + times q xs
    by_head true some rest = omega arith
    by_head false some rest = let there = rest some in omega arith
