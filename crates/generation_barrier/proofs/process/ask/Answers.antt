use Rattle.std.proofs.Common.{◌≡◌, ◌^◌, sym, ap, ◌∙◌, subst, inl, inr, arith, false, true, bit_or, ℕ}
use Rattle.std.proofs.lemmas.Nat.{one_shl}
use Rattle.signal_core.specs.Machine.{IsPart}
use Rattle.generation_barrier.proofs.Asking.{asks_more, bit_test, bit_untest, part_more}
use Rattle.generation_barrier.proofs.process.ask.Goals as goal
use Rattle.generation_barrier.proofs.process.ask.Goals.{then-found-kind-eq1+then-not-take_kind, else-found-kind-eq1, else-found-kind-eq1-via-then-found-kind-eq1+else-not-take_kind, else-found-kind-eq1-via-else-found-kind-eq1}

pub loop-kind-preserved : goal.loop-kind-preserved
loop-kind-preserved g c =
    let meets = g.A.Absorber.meets in
    let k : ℕ = c.loop-kind.kind in
    let found : ℕ = c.args.found in
    let below = c.loop-kind-test.true in
    elim c.if-found-kind-eq1.branch [
      | then-found-kind-eq1+then-not-take_kind w ↦
          let has = bit_test found k w.if-found-kind-eq1.true in
          let failed : c.if-found-kind-eq1.failed ≡ bit_or c.loop-kind.failed (2 ^ k) = w.failed-is ∙ ap (bit_or c.loop-kind.failed) (one_shl k 32 (omega arith)) in
          let answered = w.if-not-take_kind.ensures in (
            asks_more meets found k _ _ _ _ _ c.loop-kind.invariant.0 (inr (has, (false, subst (λ b. meets c.loop-kind.absorber k false b) (sym w.absorber-is) answered, failed))),
            subst (λ (n : ℕ). IsPart n found) (sym failed) (part_more c.loop-kind.failed found k c.loop-kind.invariant.1 has),
          )
      | else-found-kind-eq1 w ↦
          let same : c.if-found-kind-eq1.failed ≡ c.loop-kind.failed = w.failed-is in
          let part = subst (λ (n : ℕ). IsPart n found) (sym same) c.loop-kind.invariant.1 in
          elim w.else-found-kind-eq1.branch [
            | else-found-kind-eq1-via-then-found-kind-eq1+else-not-take_kind u ↦
                let took = subst (λ b. meets c.loop-kind.absorber k true b) (sym (w.absorber-is ∙ u.absorber-is)) u.if-not-take_kind.ensures in (asks_more meets found k _ _ _ _ _ c.loop-kind.invariant.0 (inr (bit_test found k u.if-found-kind-eq1.true, (true, took, same))), part)
            | else-found-kind-eq1-via-else-found-kind-eq1 u ↦ (asks_more meets found k _ _ _ _ _ c.loop-kind.invariant.0 (inl (bit_untest found k u.if-found-kind-eq1.false, w.absorber-is ∙ u.absorber-is, same)), part)
          ]
    ]
