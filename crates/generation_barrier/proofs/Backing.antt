-- What failed is put back, bit by bit.
use Rattle.std.proofs.Common.{◌≡◌, ℕ, zero, suc, ◌+◌, ◌-◌, ◌/◌, ◌%◌, ◌^◌, ◌<◌, ◌≤◌, nat_lt, Bool, true, false, cond, List, [], ◌∷◌, ◌++◌, Option, None, Some, refl, sym, ap, ◌∙◌, subst, inl, inr, ⊎_elim, arith}
use Rattle.std.specs.Int.{bit_at}
use Rattle.std.proofs.lemmas.List.{append_assoc}
use Rattle.std.proofs.lemmas.Bool.Decides.{nat_tests}
use Rattle.std.proofs.lemmas.Nat.Bits.{bit_at_above, bit_at-zero, same_from_bits_below}
use Rattle.std.proofs.Math.Nat.{div-eq_of_lt-le}
use mathlib.Core.Logic.{dite}
use native.Mathlib.Decide.{ℕ_discrete}
use native.Mathlib.Nat.{pow-suc}
use Rattle.signal_core.specs.declared.step.SigStep.TheVariants.{Mor, Pend}
use Rattle.signal_core.specs.declared.view.Frame.TheVariants.{Keeping, Taking, Reminding}
use Rattle.signal_core.specs.declared.view.Made.{Made}
use Rattle.signal_core.specs.declared.view.About.{About}
use Rattle.signal_core.specs.declared.view.SigView.{SigView}
use Rattle.signal_core.specs.Machine.{Place, IsPart, MayPost, next, made, takes, kinds_below}
use Rattle.generation_barrier.specs.Absorbing.{went, PutBack}
use Rattle.generation_barrier.proofs.HowFar.{keeping, IsFresh, IsUnderWay, Backing}

-- a number whose highest bit is clear is lower
top_clear : (n w : ℕ) → n < 2 ^ (w + 1) → bit_at n w ≡ 0 → n < 2 ^ w
top_clear n w most clear = by_case (nat_lt n (2 ^ w)) refl
  where
    double : 2 ^ (w + 1) ≡ 2 ^ w + 2 ^ w
    double = let e : w + 1 ≡ suc w = omega arith in let a : 2 ^ (w + 1) ≡ 2 ^ suc w = ap (λ (y : ℕ). 2 ^ y) e in let b = pow-suc 2 w in omega arith

    by_case : (b : Bool) → nat_lt n (2 ^ w) ≡ b → n < 2 ^ w
    by_case true e = small (2 ^ w) e
      where
        small : (m : ℕ) → nat_lt n m ≡ true → n < m
        small m e = grind (arith, nat_tests, e)
    by_case false e = absurd (let more = large (2 ^ w) e in let two = double in let q : n / 2 ^ w ≡ 1 = div-eq_of_lt-le (2 ^ w) (omega arith) (omega arith) in let bit : bit_at n w ≡ 1 = ap (λ (y : ℕ). y % 2) q in omega arith)
      where
        large : (m : ℕ) → nat_lt n m ≡ false → m ≤ n
        large m e = grind (arith, nat_tests, e)

low_by : (n done d w : ℕ) → w ≡ done + d → n < 2 ^ w → ((j : ℕ) → done ≤ j → j < w → bit_at n j ≡ 0) → n < 2 ^ done
low_by n done zero w is most clear = let e : w ≡ done = omega arith in subst (λ (y : ℕ). n < 2 ^ y) e most
low_by n done (suc d) w is most clear = low_by n done d (done + d) refl (top_clear n (done + d) (let e : w ≡ done + d + 1 = omega arith in subst (λ (y : ℕ). n < 2 ^ y) e most) (clear (done + d) (omega arith) (omega arith))) (λ j from below. clear j from (omega arith))

-- a number with no bit from `done` to w
low_bits : (n done w : ℕ) → done ≤ w → n < 2 ^ w → ((j : ℕ) → done ≤ j → j < w → bit_at n j ≡ 0) → n < 2 ^ done
low_bits n done w le most clear = low_by n done (w - done) w (omega arith) most clear

lt_is : (n m : ℕ) → n < m → nat_lt n m ≡ true
lt_is n m h = grind (arith, nat_tests, h)

keeping_some : (h found failed done k : ℕ) → done ≤ k → bit_at failed k ≡ 1 → keeping h found failed done ≡ Some (Keeping h found failed done)
keeping_some h found failed done k le one = by_case (nat_lt failed (2 ^ done)) refl
  where
    small : (m : ℕ) → nat_lt failed m ≡ true → failed < m
    small m e = grind (arith, nat_tests, e)

    by_case : (b : Bool) → nat_lt failed (2 ^ done) ≡ b → cond b None (Some (Keeping h found failed done)) ≡ Some (Keeping h found failed done)
    by_case true e = absurd (let a = bit_at_above failed done k (small (2 ^ done) e) le in omega arith)
    by_case false e = refl

keeping_none : (h found failed done : ℕ) → failed < 2 ^ done → keeping h found failed done ≡ None
keeping_none h found failed done less = by_case (nat_lt failed (2 ^ done)) (lt_is failed (2 ^ done) less)
  where
    by_case : (b : Bool) → b ≡ true → cond b None (Some (Keeping h found failed done)) ≡ None
    by_case true e = refl
    by_case false e = absurd (cc)

module _ (z : About) (q k failed h found : ℕ) (carried : Option ℕ) (v w : SigView) (more : List Made) (at : v.place ≡ Some (Taking h found)) (one : bit_at failed k ≡ 1) where
  -- the next kind may be put back
  pub may_post : IsPart failed found → w.own ≡ Some q → Backing v more failed k carried w → MayPost z w.own q k carried w.place
  may_post part own backing = ⊎_elim
      (λ (f : IsFresh v more failed k carried w). subst (λ (y : Option ℕ × Place). MayPost z w.own q k y.0 y.1) (λ i. (sym f.0 i, sym (ap (λ (u : SigView). u.place) f.2 ∙ at) i)) (own, part, (omega arith, one, λ j from below. f.3 j below)))
      (λ (u : IsUnderWay v more failed k carried w). let place = ap (λ (x : SigView). x.place) (u.1.3 h found at) ∙ keeping_some h found failed u.1.0 k u.1.1 one in
      subst (λ (y : Option ℕ × Place). MayPost z w.own q k y.0 y.1) (λ i. (sym u.0 i, sym place i)) (own, (u.1.1, one, u.1.2)))
      backing

  abbrev kept : List ℕ
  kept = v.absorbed ++ kinds_below 32 (takes found failed)

  -- and is, by these two steps
  pub goes_on : (n m : ℕ) (x y : SigView) → x ≡ next z (Mor q k carried) w n → y ≡ next z (Pend q) x m → Backing v more failed k carried w
      → (x.place ≡ Some (Reminding h found failed k)) × (y ≡ record (went v (more ++ (made (Mor q k carried) n ∷ made (Pend q) m ∷ [])) v.slot kept) { place = keeping h found failed (k + 1) })
  goes_on n m x y first second backing = ⊎_elim
      (λ (f : IsFresh v more failed k carried w).
      let start : w ≡ record v { place = Some (Taking h found) } = f.2 ∙ (λ i. record v { place = at i }) in
      let posted = first ∙ (λ i. next z (Mor q k (f.0 i)) (start i) n) in (
        ap (λ (u : SigView). u.place) posted,
        second ∙ (ap (λ (u : SigView). next z (Pend q) u m) posted ∙ (λ i. record (went v [] v.slot kept) { place = keeping h found failed (k + 1); steps = append_assoc v.steps (made (Mor q k (Some failed)) n ∷ []) (made (Pend q) m ∷ []) i })
            ∙ (λ i. record (went v (sym f.1 i ++ (made (Mor q k (sym f.0 i)) n ∷ made (Pend q) m ∷ [])) v.slot kept) { place = keeping h found failed (k + 1) })),
      ))
      (λ (u : IsUnderWay v more failed k carried w).
      let start : w ≡ record (went v more v.slot kept) { place = Some (Keeping h found failed u.1.0) } = u.1.3 h found at ∙ (λ i. record (went v more v.slot kept) { place = keeping_some h found failed u.1.0 k u.1.1 one i }) in
      let posted = first ∙ (λ i. next z (Mor q k (u.0 i)) (start i) n) in (
        ap (λ (c : SigView). c.place) posted,
        second ∙ (ap (λ (c : SigView). next z (Pend q) c m) posted ∙ (λ i. record (went v [] v.slot kept) { place = keeping h found failed (k + 1); steps = (append_assoc (v.steps ++ more) (made (Mor q k None) n ∷ []) (made (Pend q) m ∷ []) ∙ append_assoc v.steps more (made (Mor q k None) n ∷ made (Pend q) m ∷ [])) i })
            ∙ (λ i. record (went v (more ++ (made (Mor q k (sym u.0 i)) n ∷ made (Pend q) m ∷ [])) v.slot kept) { place = keeping h found failed (k + 1) })),
      ))
      backing

-- the steps that put back one kind more, or none where it didn't fail
pub put_one : (p failed k : ℕ) (before : List Made) (carried : Option ℕ) (mask pending : ℕ) → bit_at failed k ≡ 1 → PutBack p failed k before → PutBack p failed (k + 1) (before ++ (made (Mor p k carried) mask ∷ made (Pend p) pending ∷ []))
put_one p failed k before carried mask pending one h = let suc_is : suc k ≡ k + 1 = omega arith in subst (λ (n : ℕ). PutBack p failed n (before ++ (made (Mor p k carried) mask ∷ made (Pend p) pending ∷ []))) suc_is (before, h, inr (one, (carried, mask, pending, refl)))

pub put_none : (p failed k : ℕ) (before : List Made) → bit_at failed k ≡ 0 → PutBack p failed k before → PutBack p failed (k + 1) before
put_none p failed k before none h = let suc_is : suc k ≡ k + 1 = omega arith in subst (λ (n : ℕ). PutBack p failed n before) suc_is (before, h, inl (none, refl))

-- the place says which header and which mask it was
pub same_back : (z : About) (v : SigView) (more : List Made) (failed k h found g mask : ℕ) → v.place ≡ Some (Taking h found) → v.place ≡ Some (Taking g mask) → (y : SigView) → y ≡ record (went v more v.slot (v.absorbed ++ kinds_below 32 (takes found failed))) { place = keeping h found failed (k + 1) }
    → y ≡ record (went v more v.slot (v.absorbed ++ kinds_below 32 (takes mask failed))) { place = keeping g mask failed (k + 1) }
same_back z v more failed k h found g mask at to y is = let e : Some (Taking h found) ≡ Some (Taking g mask) = sym at ∙ to in let a : h ≡ g = cc in let b : found ≡ mask = cc in
    is ∙ (λ i. record (went v more v.slot (v.absorbed ++ kinds_below 32 (takes (b i) failed))) { place = keeping (a i) (b i) failed (k + 1) })

-- where the kind k didn't fail, nothing is to be done
pub passes_on : (failed k : ℕ) (carried : Option ℕ) (v w : SigView) (more : List Made) → bit_at failed k ≡ 0 → Backing v more failed k carried w → Backing v more failed (k + 1) carried w
passes_on failed k carried v w more none backing = ⊎_elim
    (λ (f : IsFresh v more failed k carried w). inl (f.0, f.1, f.2, λ j below. dite (ℕ_discrete j k) (λ is. ap (bit_at failed) is ∙ none) (λ ne. f.3 j (omega arith))))
    (λ (u : IsUnderWay v more failed k carried w). inr (u.0, (u.1.0, (let le = u.1.1 in omega arith), (λ j from below. dite (ℕ_discrete j k) (λ is. ap (bit_at failed) is ∙ none) (λ ne. u.1.2 j from (omega arith))), u.1.3)))
    backing

-- at the end everything that failed is put back
pub all_back : (failed n : ℕ) (carried : Option ℕ) (v w : SigView) (more : List Made) → 0 < failed → failed < 2 ^ 32 → n ≡ 32 → Backing v more failed n carried w → (h found : ℕ) → v.place ≡ Some (Taking h found) → w ≡ went v more v.slot (v.absorbed ++ kinds_below 32 (takes found failed))
all_back failed n carried v w more some most is backing h found at = ⊎_elim
    (λ (f : IsFresh v more failed n carried w). absurd (let none = same_from_bits_below 32 failed 0 most (omega arith) (λ i below. f.3 i (omega arith) ∙ sym (bit_at-zero i)) in omega arith))
    (λ (u : IsUnderWay v more failed n carried w). let low = low_bits failed u.1.0 32 (let le = u.1.1 in omega arith) most (λ j from below. u.1.2 j from (omega arith)) in
    u.1.3 h found at ∙ (λ i. record (went v more v.slot (v.absorbed ++ kinds_below 32 (takes found failed))) { place = keeping_none h found failed u.1.0 low i }))
    backing
