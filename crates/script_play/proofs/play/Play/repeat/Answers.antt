use Rattle.std.proofs.Common.{◌≡◌, ◌∙◌, ◌-◌, ◌+◌, false, true, ap, arith}
use Rattle.script_play.specs.Play.{ComesTo, repeated, stepped}
use Rattle.script_play.specs.Moments.{moment_of}
use Rattle.script_play.proofs.PlayFacts.{came, stayed, comes, stays, repeated-none, repeated-more, repeated-stuck}
use Rattle.script_play.proofs.play.Play.repeat.Goals as goal

pub returns-then-not-branch-clause-moved : goal.returns-then-not-branch-clause-moved
returns-then-not-branch-clause-moved g c =
    let b = g.M.Machine.begins in
    let s = g.M.Machine.steps in
    let m = moment_of c.steps.self in
    let h : ComesTo (stepped b s m c.args.proc) false (moment_of c.step.new.self) = rw c.if-not-branch.true at c.in_ok-step.ensures.moved in
    stays _ _ (c.steps.invariant.comes ∙ repeated-stuck b s m c.args.proc (c.args.times - c.steps.step) (omega arith) (stayed _ _ h))

pub steps-preserved : goal.steps-preserved
steps-preserved g c =
    let b = g.M.Machine.begins in
    let s = g.M.Machine.steps in
    let m = moment_of c.steps.self in
    let h : ComesTo (stepped b s m c.args.proc) true (moment_of c.step.new.self) = rw c.if-not-branch.false at c.in_ok-step.ensures.moved in
    let less : c.args.times - c.steps.step - 1 ≡ c.args.times - (c.steps.step + 1) = omega arith in
    record {
      comes = c.steps.invariant.comes ∙ repeated-more b s m (moment_of c.step.new.self) c.args.proc (c.args.times - c.steps.step) (omega arith) (came _ _ h) ∙ ap (repeated b s (moment_of c.step.new.self) c.args.proc) less;
      holds = c.in_ok-step.ensures.holds;
    }

pub returns-clause-moved : goal.returns-clause-moved
returns-clause-moved g c =
    let b = g.M.Machine.begins in
    let s = g.M.Machine.steps in
    comes (repeated b s (moment_of c.args.self.now) c.args.proc c.args.times) (moment_of c.steps.self)
    (c.steps.invariant.comes ∙ repeated-none b s (moment_of c.steps.self) c.args.proc (c.args.times - c.steps.step) (omega arith))
