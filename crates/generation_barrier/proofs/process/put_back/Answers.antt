use Rattle.std.proofs.Common.{◌≡◌, ◌+◌, ℕ, Some, Option, refl, sym, ap, ◌∙◌, arith, inr, subst}
use Rattle.signal_core.specs.declared.step.SigStep.TheVariants.{Pend}
use Rattle.signal_core.specs.declared.view.Frame.TheVariants.{Taking}
use Rattle.signal_core.specs.declared.view.SigView.{SigView}
use Rattle.signal_core.specs.Machine.{next, MayProd}
use Rattle.signal_core.specs.Seats.{about_of}
use Rattle.generation_barrier.specs.Absorbing.{PutBack}
use Rattle.generation_barrier.proofs.HowFar.{Backing}
use Rattle.generation_barrier.proofs.Asking.{bit_test, bit_untest}
use Rattle.generation_barrier.proofs.Backing.{may_post, goes_on, put_one, put_none, same_back, passes_on, all_back}
use Rattle.generation_barrier.proofs.process.put_back.Goals as goal
use Rattle.generation_barrier.proofs.process.put_back.Goals.{then-failed-kind-eq1, else-failed-kind-eq1}

pub step-requires-clause-place : goal.step-requires-clause-place
step-requires-clause-place g c = let inv = c.loop-kind.invariant in let p = c.requires.place in (
  inv.2,
  c.loop-kind-test.true,
  may_post (about_of c.args.table.now) _ _ c.args.failed p.0 p.1 _ _ _ inv.4.0 p.2 (bit_test c.args.failed c.loop-kind.kind c.if-failed-kind-eq1.true) p.3 inv.3 inv.4.2,
)

pub step-requires-then-failed-kind-eq1-clause-place : goal.step-requires-then-failed-kind-eq1-clause-place
step-requires-then-failed-kind-eq1-clause-place g c = let inv = c.loop-kind.invariant in let p = c.requires.place in
    let z = (about_of c.args.table.now) in let x = c.step.new.seat.view in let q : ℕ = c.args.own in
    let on = goes_on z q c.loop-kind.kind c.args.failed p.0 p.1 c.loop-kind.carried c.args.seat.now.view c.loop-kind.seat.view inv.4.0 p.2 (bit_test c.args.failed c.loop-kind.kind c.if-failed-kind-eq1.true) c.step.result.old 0 x (next z (Pend q) x 0) c.step.ensures.view refl inv.4.2 in
    (inv.2, subst (MayProd x.own q) (sym on.0) (ap (λ v. v.own) c.step.ensures.view ∙ inv.3))

pub loop-kind-preserved : goal.loop-kind-preserved
loop-kind-preserved g c =
    let inv = c.loop-kind.invariant in
    let p = c.requires.place in
    let z = (about_of c.args.table.now) in
    let q : ℕ = c.args.own in
    let k : ℕ = c.loop-kind.kind in
    let failed : ℕ = c.args.failed in
    let v = c.args.seat.now.view in elim c.if-failed-kind-eq1.branch [
      | then-failed-kind-eq1 w ↦
          let first = w.step.ensures in let second = w.step-then-failed-kind-eq1.ensures in let y = w.step-then-failed-kind-eq1.new.seat.view in
          let on = λ (h found : ℕ) (at : v.place ≡ Some (Taking h found)). goes_on z q k failed h found c.loop-kind.carried v c.loop-kind.seat.view inv.4.0 at (bit_test failed k w.if-failed-kind-eq1.true) w.step.result.old w.step-then-failed-kind-eq1.result.old w.step.new.seat.view y first.view second.view inv.4.2 in
          let here = on p.0 p.1 p.2 in (
            ap (λ s. s.table_id) w.seat-is ∙ (second.table.0 ∙ (first.table.0 ∙ inv.0)),
            ap (λ s. s.id) w.seat-is ∙ (second.table.1 ∙ (first.table.1 ∙ inv.1)),
            inv.2,
            ap (λ s. s.view.own) w.seat-is ∙ (ap (λ s. s.own) second.view ∙ (ap (λ s. s.own) first.view ∙ inv.3)),
            (_, put_one q failed k inv.4.0 c.loop-kind.carried w.step.result.old w.step-then-failed-kind-eq1.result.old (bit_test failed k w.if-failed-kind-eq1.true) inv.4.1, inr (w.carried-is, (k + 1, omega arith, (λ j from below. absurd (omega arith)), λ h found at. ap (λ s. s.view) w.seat-is ∙ same_back z v _ failed k p.0 p.1 h found p.2 at y here.1))),
          )
      | else-failed-kind-eq1 w ↦
          let same = ap (λ s. s.view) w.seat-is in (
            ap (λ s. s.table_id) w.seat-is ∙ inv.0,
            ap (λ s. s.id) w.seat-is ∙ inv.1,
            inv.2,
            ap (λ s. s.own) same ∙ inv.3,
            (inv.4.0, put_none q failed k inv.4.0 (bit_untest failed k w.if-failed-kind-eq1.false) inv.4.1, subst (λ (t : Option ℕ × SigView). Backing v inv.4.0 failed (k + 1) t.0 t.1) (λ i. (sym w.carried-is i, sym same i)) (passes_on failed k c.loop-kind.carried v c.loop-kind.seat.view inv.4.0 (bit_untest failed k w.if-failed-kind-eq1.false) inv.4.2)),
          )
    ]

pub returns-clause-back : goal.returns-clause-back
returns-clause-back g c =
    let inv = c.loop-kind.invariant in
    let all : c.loop-kind.kind ≡ 32 = let a = c.loop-kind.auto.kind-end in let b = c.loop-kind-test.false in omega arith in
    λ h found at. (inv.4.0, subst (λ (n : ℕ). PutBack c.args.own c.args.failed n inv.4.0) all inv.4.1, all_back c.args.failed c.loop-kind.kind _ _ _ inv.4.0 c.requires.failed.0 c.requires.failed.1 all inv.4.2 h found at)
