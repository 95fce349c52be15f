-- How the counts of seats change as one seat moves.
use Rattle.std.proofs.Common.{◌≡◌, ℕ, ◌+◌, ◌≤◌, Bool, true, false, cond, List, set, Option, Some, refl, ap, ◌∙◌, arith, eq-eqb, ne_eqb}
use mathlib.Core.Logic.{dite}
use mathlib.Core.Option as maybe
use native.Mathlib.Decide.{ℕ_discrete}
use lib.ListN.{get_elem?}
use Rattle.wait_core.specs.declared.view.Frame.{Frame}
use Rattle.seat_roster.specs.Totals.{total}
use Rattle.wait_core.specs.Machine.{top, bit}
use Rattle.wait_core.specs.Seating.{Standing}
use Rattle.wait_core.specs.Places.{stands_for, of_backend, of_any, backend_count, count_of}
use Rattle.seat_roster.proofs.Totals.{total_set, total_at, total_le, total_gap}

-- 1 where the seat has the number p
abbrev pub owns : ℕ → Standing → ℕ
owns p v = cond (stands_for p v.own) 1 0

stands_mine : (p : ℕ) (own : Option ℕ) → own ≡ Some p → stands_for p own ≡ true
stands_mine p own e = ap (stands_for p) e ∙ eq-eqb p p refl

stands_other : (p o : ℕ) (own : Option ℕ) → own ≡ Some o → (o ≡ p → ⊥) → stands_for p own ≡ false
stands_other p o own e ne = ap (stands_for p) e ∙ ne_eqb o p ne

owns_mine : (p : ℕ) (v : Standing) → v.own ≡ Some p → owns p v ≡ 1
owns_mine p v e = ap (λ b. cond b 1 0) (stands_mine p v.own e)

of_mine : (p : ℕ) (f : Option Frame → Bool) (v : Standing) → v.own ≡ Some p → of_backend p f v ≡ bit (f (top v.place))
of_mine p f v e = ap (λ b. cond b (bit (f (top v.place))) 0) (stands_mine p v.own e)

of_other : (p o : ℕ) (f : Option Frame → Bool) (v : Standing) → v.own ≡ Some o → (o ≡ p → ⊥) → of_backend p f v ≡ 0
of_other p o f v e ne = ap (λ b. cond b (bit (f (top v.place))) 0) (stands_other p o v.own e ne)

pub bit_le : (b : Bool) → bit b ≤ 1
bit_le true = omega arith
bit_le false = omega arith

of_less : (b c : Bool) → cond b (bit c) 0 ≤ cond b 1 0
of_less true c = bit_le c
of_less false c = omega arith

of_mono : (a b c : Bool) → bit b ≤ bit c → cond a (bit b) 0 ≤ cond a (bit c) 0
of_mono true b c h = h
of_mono false b c h = omega arith

-- a count of what is rarer is lower
pub backend_le : (p : ℕ) (f g : Option Frame → Bool) (seats : List Standing) → ((t : Option Frame) → bit (f t) ≤ bit (g t)) → backend_count p f seats ≤ backend_count p g seats
backend_le p f g seats h = total_le (of_backend p f) (of_backend p g) seats (λ i v e. of_mono (stands_for p v.own) (f (top v.place)) (g (top v.place)) (h (top v.place)))

-- the seat with the number p alone counts
pub backend_is : (seats : List Standing) → ((p : ℕ) → total (owns p) seats ≤ 1) → (id p : ℕ) (v : Standing) (f : Option Frame → Bool) → get_elem? seats id ≡ maybe.some v → v.own ≡ Some p → backend_count p f seats ≡ bit (f (top v.place))
backend_is seats alone id p v f at own =
    let gap = total_gap (of_backend p f) (owns p) seats id v (λ i u e. of_less (stands_for p u.own) (f (top u.place))) at in
    let low = total_at (of_backend p f) seats id v at in let one = alone p in let a = owns_mine p v own in let b = of_mine p f v own in omega arith

module _ (seats : List Standing) (alone : (p : ℕ) → total (owns p) seats ≤ 1) (id o : ℕ) (v w : Standing) (at : get_elem? seats id ≡ maybe.some v) (own : v.own ≡ Some o) (still : w.own ≡ Some o) where
  -- the seat's own number
  pub after_mine : (p : ℕ) (f : Option Frame → Bool) → o ≡ p → backend_count p f (set seats id w) ≡ bit (f (top w.place))
  after_mine p f is = let sum = total_set (of_backend p f) seats id v w at in let was = backend_is seats alone id p v f at (own ∙ ap Some is) in
      let a = of_mine p f v (own ∙ ap Some is) in let b = of_mine p f w (still ∙ ap Some is) in omega arith

  pub after_other : (p : ℕ) (f : Option Frame → Bool) → (o ≡ p → ⊥) → backend_count p f (set seats id w) ≡ backend_count p f seats
  after_other p f ne = let sum = total_set (of_backend p f) seats id v w at in let a = of_other p o f v own ne in let b = of_other p o f w still ne in omega arith

  pub after_le : (p : ℕ) (f : Option Frame → Bool) → bit (f (top w.place)) ≤ bit (f (top v.place)) → backend_count p f (set seats id w) ≤ backend_count p f seats
  after_le p f le = dite (ℕ_discrete o p)
      (λ is. let a = after_mine p f is in let b = backend_is seats alone id p v f at (own ∙ ap Some is) in omega arith)
      (λ ne. let a = after_other p f ne in omega arith)

  pub after_any : (f : Option Frame → Bool) → count_of f (set seats id w) + bit (f (top v.place)) ≡ count_of f seats + bit (f (top w.place))
  after_any f = total_set (of_any f) seats id v w at

  pub any_at : (f : Option Frame → Bool) → bit (f (top v.place)) ≤ count_of f seats
  any_at f = total_at (of_any f) seats id v at
