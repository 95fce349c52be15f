-- Who was stopped absorbed STOP.
use Rattle.std.proofs.Common.{◌≡◌, ℕ, zero, suc, ◌+◌, ◌≤◌, ◌||◌, eqb, eqb-true, cond, Bool, true, false, [], ◌∷◌, ◌++◌, refl, sym, ap, ◌∙◌, subst, arith, ⊎_elim}
use Rattle.std.specs.Int.{bit_at}
use Rattle.std.proofs.lemmas.Bool.{cases_Bool, false≢true}
use Rattle.std.proofs.lemmas.Nat.Bits.{bit_at-zero}
use Rattle.seat_roster.specs.Roster.{times}
use Rattle.seat_roster.proofs.Numbers.{times_append}
use Rattle.signal_core.specs.declared.view.SigView.{SigView}
use Rattle.signal_core.specs.Machine.{kinds_below, takes}
use Rattle.generation_barrier.specs.Absorbing.{Asks, FailsAs}
use Rattle.join_law.proofs.Rows.{one, one_same}
use Rattle.hash_probe.specs.declared.marks.StopOrder.{StopOrder}
use Rattle.hash_probe.specs.Signals.{STOP, StopsAt, order, takes_order}

module _ (found : ℕ) where
  -- the kind n, if it was found, is among those taken
  taken_here : (n : ℕ) → bit_at found n ≡ 1 → n ≡ STOP → 1 ≤ times STOP (kinds_below (suc n) (takes found 0))
  taken_here n here is =
      let a : takes found 0 n ≡ bit_at found n = ap (λ (b : ℕ). cond (eqb b 0) (bit_at found n) 0) (bit_at-zero n) in
      let b : cond (eqb (takes found 0 n) 0) [] (n ∷ []) ≡ n ∷ [] = ap (λ (x : ℕ). cond (eqb x 0) [] (n ∷ [])) (a ∙ here) in
      let c : times STOP (cond (eqb (takes found 0 n) 0) [] (n ∷ [])) ≡ one STOP n + 0 = ap (times STOP) b in
      let d = one_same STOP n is in
      let e = times_append STOP (kinds_below n (takes found 0)) (cond (eqb (takes found 0 n) 0) [] (n ∷ [])) in omega arith

  taken_below : (n : ℕ) → 1 ≤ times STOP (kinds_below n (takes found 0)) → 1 ≤ times STOP (kinds_below (suc n) (takes found 0))
  taken_below n some = let e = times_append STOP (kinds_below n (takes found 0)) (cond (eqb (takes found 0 n) 0) [] (n ∷ [])) in omega arith

  -- of the kinds that were asked for in turn, STOP was one if it is known in the end
  stop_taken : (n : ℕ) (a b : StopOrder) (failed : ℕ) → failed ≡ 0 → Asks takes_order found n a failed b → a.stop ≡ false → b.stop ≡ true → 1 ≤ times STOP (kinds_below n (takes found 0))
  stop_taken zero a b failed none asked unknown known = absurd (false≢true (sym unknown ∙ (ap (λ (o : StopOrder). o.stop) (sym asked.1) ∙ known)))
  stop_taken (suc n) a b failed none asked unknown known =
      let m : StopOrder = asked.0 in
      ⊎_elim
      (λ skipped. taken_below n (stop_taken n a m asked.1 (sym skipped.2 ∙ none) asked.2 unknown (ap (λ (o : StopOrder). o.stop) (sym skipped.1) ∙ known)))
      (λ took.
      let same : failed ≡ asked.1 = subst (λ (s : Bool). FailsAs n s asked.1 failed) (took.1).1.0 (took.1).2 in
      ⊎_elim
      (λ (before : m.stop ≡ true). taken_below n (stop_taken n a m asked.1 (sym same ∙ none) asked.2 unknown before))
      (λ (new : m.stop ≡ false). let now : eqb n STOP ≡ true = ap (λ (s : Bool). s || eqb n STOP) (sym new) ∙ (sym (took.1).1.1 ∙ known) in taken_here n took.0 (eqb-true n STOP now))
      (cases_Bool m.stop))
      asked.3

-- it stands among what its view absorbed
pub stops_absorb : (g : ℕ) (v w : SigView) → StopsAt g v w → 1 ≤ times STOP w.absorbed
stops_absorb g v w s =
    let i = s.absorbs in
    let some = stop_taken i.found 32 (order false) (order true) 0 refl i.asked refl refl in
    let now : s.to.absorbed ≡ s.from.absorbed ++ kinds_below 32 (takes i.found 0) = ap (λ (y : SigView). y.absorbed) i.view in
    let a : times STOP s.to.absorbed ≡ times STOP s.from.absorbed + times STOP (kinds_below 32 (takes i.found 0)) = ap (times STOP) now ∙ times_append STOP s.from.absorbed (kinds_below 32 (takes i.found 0)) in
    let b : times STOP w.absorbed ≡ times STOP s.to.absorbed + times STOP s.after.kinds = ap (times STOP) s.after.absorbed ∙ times_append STOP s.to.absorbed s.after.kinds in omega arith
