use Rattle.std.proofs.Common.{◌∙◌, sym, arith}
use Rattle.signal_script.proofs.KindFacts.{lowest-here, lowest-else, lowest-end}
use Rattle.signal_script.proofs.steps.lowest.Goals as goal

pub returns-then-failed-kind-eq1-clause-lowest : goal.returns-then-failed-kind-eq1-clause-lowest
returns-then-failed-kind-eq1-clause-lowest c =
    sym (c.kinds.invariant ∙ lowest-here c.args.failed c.kinds.kind c.kinds-test.true c.if-failed-kind-eq1.true)

pub kinds-preserved : goal.kinds-preserved
kinds-preserved c = c.kinds.invariant ∙ lowest-else c.args.failed c.kinds.kind c.kinds-test.true c.if-failed-kind-eq1.false

pub returns-clause-lowest : goal.returns-clause-lowest
returns-clause-lowest c = sym (c.kinds.invariant ∙ lowest-end c.args.failed c.kinds.kind (omega (arith, c.kinds-test.false)))
