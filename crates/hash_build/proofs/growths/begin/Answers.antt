use Rattle.std.proofs.Common.{ℕ, ap, subst, arith}
use Rattle.wait_core.specs.Parties.{Elected}
use Rattle.join_law.specs.declared.view.HashView.{HashView}
use Rattle.shared_tuples.specs.Growing.{bar_of}
use Rattle.hash_build.specs.Growths.{phase_at}
use Rattle.hash_build.proofs.Passing.{passed_by_one}
use Rattle.hash_build.proofs.growths.begin.Goals as goal

pub resize-requires-clause-fresh : goal.resize-requires-clause-fresh
resize-requires-clause-fresh g c stored =
    let later : ℕ = phase_at c.args.growth c.passed-next.result in
    let before = c.requires.growing.stored c.args.growth later (subst (λ (y : HashView). Elected y.stored (bar_of c.args.growth) later) c.arrive-elected.ensures.client stored) in
    let one = passed_by_one c.args.growth c.args.phases in
    let same = ap (phase_at c.args.growth) c.passed-next.ensures in
    omega arith
