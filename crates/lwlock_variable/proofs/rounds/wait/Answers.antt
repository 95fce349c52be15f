use Rattle.std.proofs.Common.{◌++◌, ap, ◌∙◌, append_assoc}
use Rattle.lw_core.specs.declared.view.View.{View}
use Rattle.lwlock_variable.proofs.Looks.{ends_before}
use Rattle.lwlock_variable.proofs.rounds.wait.Goals as goal

pub returns-in-Ended-clause-ends : goal.returns-in-Ended-clause-ends
returns-in-Ended-clause-ends g c = let went = c.loop.invariant.view in
    ends_before c.args.lock c.args.old c.in-Ended.answer c.args.seat.now.view c.loop.seat.view c.run_round.new.seat.view c.in-Ended.ensures.answer went.0 (ap (λ (a : View). a.steps) went.1)

pub returns-in-Some-compare-clause-ends : goal.returns-in-Some-compare-clause-ends
returns-in-Some-compare-clause-ends g c = let v : View = c.args.seat.now.view in let went = c.loop.invariant.view in let slept = c.in-Woken.ensures.view.0 in
    let before = ap (λ (a : View). a.steps) slept.1 ∙ (ap (λ (a : View). a.steps ++ slept.0) went.1 ∙ append_assoc v.steps went.0 slept.0) in
    ends_before c.args.lock c.args.old c.in-Some-compare.answer v c.run_round.new.seat.view c.compare.new.seat.view c.in-Some-compare.ensures.finds (went.0 ++ slept.0) before
