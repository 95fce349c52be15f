-- What a client may suppose of barriers, once a seat attached, left, noticed or was elected, a phase passed, or a seat was drawn or one joined.
use Rattle.std.proofs.Common.{◌≡◌, ◌≢◌, ◌⊎◌, ℕ, zero, suc, ◌<◌, ◌≤◌, ◌==◌, cond, List, [], ◌∷◌, ◌++◌, length, get_or, set, Option, None, Some, refl, sym, ap, ◌∙◌, subst, ⊎_elim, inl, inr, arith, length-set, get_or-set_same, get_or-set_other}
use Rattle.std.proofs.lemmas.Bool.Decides.{nat_tests}
use mathlib.Core.Logic.{dite}
use native.Mathlib.Decide.{ℕ_discrete}
use mathlib.Core.Option as maybe
use lib.ListN.{get_elem?}
use Rattle.atomic_table.proofs.Lists.{at_set, at_snoc}
use Rattle.wait_core.specs.declared.view.PartyView.{PartyView}
use Rattle.seat_roster.proofs.Stretches.{each_set}
use Rattle.wait_core.specs.Parties.{phase_of, now, Elected, newcomer, joined, left_over, Barriers}

-- an election among two lists is of one of them
pub elected_either : (xs ys : List (ℕ × ℕ)) (b ph k : ℕ) → get_elem? (xs ++ ys) k ≡ maybe.some (b, ph) → Elected xs b ph ⊎ Elected ys b ph
elected_either [] ys b ph k e = inr (k, e)
elected_either (x ∷ xs) ys b ph zero e = inl (0, e)
elected_either (x ∷ xs) ys b ph (suc k) e = ⊎_elim (λ (t : Elected xs b ph). inl (suc t.0, t.1)) inr (elected_either xs ys b ph k e)

-- a further election, or one of before
pub elected_more : (list : List (ℕ × ℕ)) (bar phase b ph : ℕ) → Elected ((bar, phase) ∷ list) b ph → ((bar ≡ b) × (phase ≡ ph)) ⊎ Elected list b ph
elected_more list bar phase b ph (zero, e) = let is = maybe.some-injective (bar, phase) (b, ph) e in inl (ap (λ (x : ℕ × ℕ). x.0) is, ap (λ (x : ℕ × ℕ). x.1) is)
elected_more list bar phase b ph (suc k, e) = inr (k, e)

pub nobody_elected : (b ph : ℕ) → Elected [] b ph → ⊥
nobody_elected b ph e = absurd (maybe.some-ne-none (b, ph) (sym e.1))

module _ {C : Type 0} where
  -- some view knows the phase of the barrier
  abbrev KnownBy : List (PartyView C) → ℕ → ℕ → Type 0
  KnownBy views b ph = (k : ℕ) × (x : PartyView C) × (get_elem? views k ≡ maybe.some x) × (phase_of x.attached b ≡ Some ph)

  -- some view whose elections went to the seat i has the election
  abbrev WonBy : (ℕ → ℕ) → List (PartyView C) → ℕ → ℕ → ℕ → Type 0
  WonBy to views i b ph = (k : ℕ) × (x : PartyView C) × (get_elem? views k ≡ maybe.some x) × (Elected x.elections b ph) × (i ≡ to k)

  -- whatever is attached or elected after was so before, and `to` says to whom elections went
  record Traced (to : ℕ → ℕ) (views after : List (PartyView C)) : Type 0 where
    attached : (i : ℕ) (u : PartyView C) → get_elem? after i ≡ maybe.some u → (b ph : ℕ) → phase_of u.attached b ≡ Some ph → KnownBy views b ph
    elected : (i : ℕ) (u : PartyView C) → get_elem? after i ≡ maybe.some u → (b ph : ℕ) → Elected u.elections b ph → WonBy to views i b ph

  traced : (to : ℕ → ℕ) (views after : List (PartyView C)) (phases : List ℕ) → Barriers views phases → Traced to views after → Barriers after phases
  traced to views after phases h t = record {
    near = λ i u e b ph a. let x = t.attached i u e b ph a in h.near x.0 x.1 x.2 b ph x.3;
    inside = λ i u e b ph a. let x = t.attached i u e b ph a in h.inside x.0 x.1 x.2 b ph x.3;
    past = λ i u e b ph a. let x = t.elected i u e b ph a in h.past x.0 x.1 x.2 b ph x.3;
    one = λ i k u w e f b ph a c. let x = t.elected i u e b ph a in let y = t.elected k w f b ph c in x.4 ∙ (ap to (h.one x.0 y.0 x.1 y.1 x.2 y.2 b ph x.3 y.3) ∙ sym y.4);
  }

  -- no view has this election
  abbrev pub IsNew : List (PartyView C) → ℕ → ℕ → Type 0
  IsNew views b ph = (j : ℕ) (u : PartyView C) → get_elem? views j ≡ maybe.some u → Elected u.elections b ph → ⊥

  -- the elections of w are those of v, or one more that nobody had
  abbrev pub Wins : List (PartyView C) → List (ℕ × ℕ) → List (ℕ × ℕ) → Type 0
  Wins views was is = (is ≡ was) ⊎ ((b : ℕ) × (ph : ℕ) × (is ≡ (b, ph) ∷ was) × IsNew views b ph)

  -- what each view knows, and that each election has passed
  abbrev pub AllNear : List (PartyView C) → List ℕ → Type 0
  AllNear views phases = (id : ℕ) (v : PartyView C) → get_elem? views id ≡ maybe.some v → (b ph : ℕ) → phase_of v.attached b ≡ Some ph → (now phases b ≡ ph) ⊎ (now phases b ≡ suc ph)

  abbrev pub AllPast : List (PartyView C) → List ℕ → Type 0
  AllPast views phases = (id : ℕ) (v : PartyView C) → get_elem? views id ≡ maybe.some v → (b ph : ℕ) → Elected v.elections b ph → ph ≤ now phases b

  -- the election of the seat i is one of before, or the new one of the seat id
  abbrev Was : List (PartyView C) → ℕ → ℕ → ℕ → ℕ → Type 0
  Was views id i b ph = ((x : PartyView C) × (get_elem? views i ≡ maybe.some x) × Elected x.elections b ph) ⊎ ((i ≡ id) × IsNew views b ph)

  -- one view is changed, and the phases are
  pub barriers_set : (views : List (PartyView C)) (phases after : List ℕ) (id : ℕ) (v w : PartyView C) → get_elem? views id ≡ maybe.some v → Barriers views phases → length after ≡ length phases → AllNear (set views id w) after
      → ((b ph : ℕ) → phase_of w.attached b ≡ Some ph → b < length phases) → AllPast (set views id w) after → Wins views v.elections w.elections → Barriers (set views id w) after
  barriers_set views phases after id v w at h long near inside past wins = record {
    near = near;
    inside = λ i u e b ph a. subst (λ (n : ℕ). b < n) (sym long) (each_set (λ (u : PartyView C). (b ph : ℕ) → phase_of u.attached b ≡ Some ph → b < length phases) views id w h.inside inside i u e b ph a);
    past = past;
    one = λ i j u x e f b ph a c. both i j b ph (was i u e b ph a) (was j x f b ph c);
  }
    where
      own : (b ph : ℕ) → Elected w.elections b ph → Wins views v.elections w.elections → Elected v.elections b ph ⊎ IsNew views b ph
      own b ph a (inl same) = inl (subst (λ (l : List (ℕ × ℕ)). Elected l b ph) same a)
      own b ph a (inr (c, g, is, new)) = ⊎_elim (λ (t : (c ≡ b) × (g ≡ ph)). inr (subst (λ (x : ℕ × ℕ). IsNew views x.0 x.1) (λ i. (t.0 i, t.1 i)) new)) (λ old. inl old)
          (elected_more v.elections c g b ph (subst (λ (l : List (ℕ × ℕ)). Elected l b ph) is a))

      was : (i : ℕ) (u : PartyView C) → get_elem? (set views id w) i ≡ maybe.some u → (b ph : ℕ) → Elected u.elections b ph → Was views id i b ph
      was i u e b ph a = ⊎_elim
          (λ (t : (i ≡ id) × (w ≡ u)). ⊎_elim (λ old. inl (v, ap (get_elem? views) t.0 ∙ at, old)) (λ new. inr (t.0, new)) (own b ph (subst (λ (x : PartyView C). Elected x.elections b ph) (sym t.1) a) wins))
          (λ (t : (i ≢ id) × (get_elem? views i ≡ maybe.some u)). inl (u, t.1, a)) (at_set views id i w u e)

      both : (i j b ph : ℕ) → Was views id i b ph → Was views id j b ph → i ≡ j
      both i j b ph (inl x) (inl y) = h.one i j x.0 y.0 x.1 y.1 b ph x.2 y.2
      both i j b ph (inl x) (inr y) = absurd (y.1 i x.0 x.1 x.2)
      both i j b ph (inr x) (inl y) = absurd (x.1 j y.0 y.1 y.2)
      both i j b ph (inr x) (inr y) = x.0 ∙ sym y.0

  -- a phase passes, which whoever is attached knows
  pub barriers_passed : (views : List (PartyView C)) (phases : List ℕ) (bar : ℕ) → Barriers views phases → bar < length phases → ((j : ℕ) (u : PartyView C) (ph : ℕ) → get_elem? views j ≡ maybe.some u → phase_of u.attached bar ≡ Some ph → ph ≡ now phases bar) → Barriers views (set phases bar (suc (now phases bar)))
  barriers_passed views phases bar h below all = record {
    near = λ i u e b ph a. dite (ℕ_discrete b bar)
        (λ (is : b ≡ bar). let known = all i u ph e (ap (phase_of u.attached) (sym is) ∙ a) in inr (ap (λ (n : ℕ). get_or after n 0) is ∙ (here ∙ ap suc (sym known))))
        (λ ne. let same = get_or-set_other phases bar b (suc (now phases bar)) 0 ne in ⊎_elim (λ x. inl (same ∙ x)) (λ x. inr (same ∙ x)) (h.near i u e b ph a));
    inside = λ i u e b ph a. subst (λ (n : ℕ). b < n) (sym (length-set phases bar (suc (now phases bar)))) (h.inside i u e b ph a);
    past = λ i u e b ph a. let old = h.past i u e b ph a in dite (ℕ_discrete b bar)
        (λ (is : b ≡ bar). let now_is = ap (λ (n : ℕ). get_or after n 0) is ∙ here in let was = ap (now phases) is in omega arith) (λ ne. let same = get_or-set_other phases bar b (suc (now phases bar)) 0 ne in omega arith);
    one = h.one;
  }
    where
      after : List ℕ
      after = set phases bar (suc (now phases bar))

      here : get_or after bar 0 ≡ suc (now phases bar)
      here = get_or-set_same phases bar (suc (now phases bar)) 0 below

  -- a seat is drawn
  pub barriers_more : (views : List (PartyView C)) (phases : List ℕ) (c : C) (own : Option ℕ) → Barriers views phases → Barriers (views ++ newcomer c own ∷ []) phases
  barriers_more views phases c own h = traced (λ k. k) views (views ++ newcomer c own ∷ []) phases h record {
    attached = λ i u e b ph a. ⊎_elim (λ (t : get_elem? views i ≡ maybe.some u). (i, u, t, a)) (λ (is : newcomer c own ≡ u). absurd (unattached u is b ph a)) (at_snoc views (newcomer c own) u i e);
    elected = λ i u e b ph a. ⊎_elim (λ (t : get_elem? views i ≡ maybe.some u). (i, u, t, a, refl)) (λ (is : newcomer c own ≡ u). absurd (nobody_elected b ph (subst (λ (x : PartyView C). Elected x.elections b ph) (sym is) a))) (at_snoc views (newcomer c own) u i e);
  }
    where
      unattached : (u : PartyView C) → newcomer c own ≡ u → (b ph : ℕ) → phase_of u.attached b ≡ Some ph → ⊥
      unattached u is b ph a = let none : None ≡ Some ph = ap (λ (x : PartyView C). phase_of x.attached b) is ∙ a in absurd (cc)

  -- a seat takes in another, which is attached to nothing, with its elections
  pub barriers_joined : (views : List (PartyView C)) (phases : List ℕ) (id other : ℕ) (v w : PartyView C) (both : C → C → C) (c : C) → Barriers views phases → get_elem? views id ≡ maybe.some v → get_elem? views other ≡ maybe.some w → (other ≡ id → ⊥)
      → Barriers (set (set views id (joined both v w)) other (left_over c)) phases
  barriers_joined views phases id other v w both c h at there apart = traced to views (set (set views id x) other y) phases h record {
    attached = λ i u e b ph a. ⊎_elim (λ (t : (i ≡ other) × (y ≡ u)). absurd (unattached u t.1 b ph a)) (λ (t : (i ≢ other) × (get_elem? (set views id x) i ≡ maybe.some u)).
        ⊎_elim (λ (s : (i ≡ id) × (x ≡ u)). (id, v, at, ap (λ (q : PartyView C). phase_of q.attached b) s.1 ∙ a)) (λ (s : (i ≢ id) × (get_elem? views i ≡ maybe.some u)). (i, u, s.1, a)) (at_set views id i x u t.1)) (at_set (set views id x) other i y u e);
    elected = λ i u e b ph a. ⊎_elim (λ (t : (i ≡ other) × (y ≡ u)). absurd (nobody_elected b ph (subst (λ (q : PartyView C). Elected q.elections b ph) (sym t.1) a))) (λ (t : (i ≢ other) × (get_elem? (set views id x) i ≡ maybe.some u)).
        ⊎_elim (λ (s : (i ≡ id) × (x ≡ u)). from_both i s.0 b ph (subst (λ (q : PartyView C). Elected q.elections b ph) (sym s.1) a)) (λ (s : (i ≢ id) × (get_elem? views i ≡ maybe.some u)). (i, u, s.1, a, sym (stays i t.0))) (at_set views id i x u t.1)) (at_set (set views id x) other i y u e);
  }
    where
      x : PartyView C
      x = joined both v w

      y : PartyView C
      y = left_over c

      to : ℕ → ℕ
      to k = cond (k == other) id k

      stays : (k : ℕ) → (k ≡ other → ⊥) → to k ≡ k
      stays k ne = grind (arith, nat_tests)

      goes : to other ≡ id
      goes = grind (arith, nat_tests)

      unattached : (u : PartyView C) → left_over c ≡ u → (b ph : ℕ) → phase_of u.attached b ≡ Some ph → ⊥
      unattached u is b ph a = let none : None ≡ Some ph = ap (λ (q : PartyView C). phase_of q.attached b) is ∙ a in absurd (cc)

      from_both : (i : ℕ) → i ≡ id → (b ph : ℕ) → Elected (v.elections ++ w.elections) b ph → WonBy to views i b ph
      from_both i is b ph a = ⊎_elim (λ (t : Elected v.elections b ph). (id, v, at, t, is ∙ sym (stays id (λ e. apart (sym e))))) (λ (t : Elected w.elections b ph). (other, w, there, t, is ∙ sym goes)) (elected_either v.elections w.elections b ph a.0 a.1)
