-- Where members stand.
use Rattle.std.proofs.Common.{◌≡◌, ℕ, zero, suc, ◌+◌, ◌<◌, ◌≤◌, List, [], ◌∷◌, length, get_or, refl, sym, ap, ◌∙◌, subst, arith}
use mathlib.Core.Logic.{dite}
use native.Mathlib.Decide.{ℕ_discrete}
use mathlib.Core.Option as maybe
use lib.ListN.{get_elem?}
use Rattle.wait_event_set.specs.declared.set.Event.{Event}
use Rattle.wait_event_set.specs.declared.set.Event.TheVariants.{Latch, Shutdown}
use Rattle.wait_event_set.specs.declared.set.Member.{Member}
use Rattle.wait_event_set.specs.Members.{FirstAt, NoneSuch}

pub at_get : (l : List Member) (i : ℕ) (d : Member) → i < length l → get_elem? l i ≡ maybe.some (get_or l i d)
at_get [] i d h = absurd (omega arith)
at_get (x ∷ xs) zero d h = refl
at_get (x ∷ xs) (suc i) d h = at_get xs i d (omega arith)

pub below : (l : List Member) (i : ℕ) (m : Member) → get_elem? l i ≡ maybe.some m → i < length l
below [] i m e = absurd (maybe.some-ne-none m (sym e))
below (x ∷ xs) zero m e = omega arith
below (x ∷ xs) (suc i) m e = let h = below xs i m e in omega arith

-- a set that isn't empty has a latch or a shutdown member
pub some_member : (ms : List Member) → 0 < length ms → NoneSuch Latch ms → NoneSuch Shutdown ms → ⊥
some_member [] some a b = omega arith
some_member (m ∷ ms) some a b = by_event m.event refl
  where
    by_event : (e : Event) → m.event ≡ e → ⊥
    by_event Latch is = a 0 m refl is
    by_event Shutdown is = b 0 m refl is

-- the first member with the event, where none before has it
pub first_here : (items ms : List Member) (e : Event) (i : ℕ) (d : Member) → items ≡ ms → i < length items → (get_or items i d).event ≡ e → ((j : ℕ) (m : Member) → j < i → get_elem? items j ≡ maybe.some m → m.event ≡ e → ⊥) → FirstAt e ms i
first_here items ms e i d same inside is before = subst (λ (l : List Member). FirstAt e l i) same (record {
  user = (get_or items i d).user;
  here = at_get items i d inside ∙ ap (λ (x : Event). maybe.some record { event = x; user = (get_or items i d).user }) is;
  before = before;
})

-- nor has the next
pub none_more : (items : List Member) (e : Event) (i : ℕ) (d : Member) → i < length items → ((get_or items i d).event ≡ e → ⊥) → ((j : ℕ) (m : Member) → j < i → get_elem? items j ≡ maybe.some m → m.event ≡ e → ⊥)
    → (j : ℕ) (m : Member) → j < i + 1 → get_elem? items j ≡ maybe.some m → m.event ≡ e → ⊥
none_more items e i d inside not before j m below here is = dite (ℕ_discrete j i)
    (λ same. not (ap (λ (x : Member). x.event) (maybe.some-injective _ _ (sym (at_get items i d inside) ∙ (ap (λ (n : ℕ). get_elem? items n) (sym same) ∙ here))) ∙ is))
    (λ ne. before j m (omega arith) here is)

-- nor any
pub none_such : (items ms : List Member) (e : Event) (i : ℕ) → items ≡ ms → length items ≤ i → ((j : ℕ) (m : Member) → j < i → get_elem? items j ≡ maybe.some m → m.event ≡ e → ⊥) → NoneSuch e ms
none_such items ms e i same long before = subst (NoneSuch e) same (λ j m here is. before j m (let b = below items j m here in omega arith) here is)
