use Rattle.std.proofs.Common.{List, [], ◌∷◌, ◌++◌, ap, ◌∙◌, append_assoc}
use Rattle.lw_core.specs.declared.step.LwStep.TheVariants.{SetReleaseOk}
use Rattle.lw_core.specs.declared.view.Made.{Made}
use Rattle.lw_core.specs.declared.view.View.{View}
use Rattle.lw_core.specs.Machine.{made}
use Rattle.lwlock_variable.proofs.Looks.{ends_within}
use Rattle.lwlock_variable.proofs.rounds.run_round.Goals as goal

pub returns-in-Some-clause-answer : goal.returns-in-Some-clause-answer
returns-in-Some-clause-answer g c =
    let l = c.args.lock in let old = c.args.old in let v : View = c.args.seat.now.view in let s = c.step.new.seat.view in let u = c.compare.new.seat.view in let w = c.dequeue-surplus.new.seat.view in
    let queued = c.queue.ensures.view in let left = c.dequeue-surplus.ensures.view in let allowed : List Made = made (SetReleaseOk l) c.step.result.old ∷ [] in
    let before = ap (λ (a : View). a.steps) c.step.ensures.view ∙ (ap (λ (a : View). a.steps ++ allowed) queued.1 ∙ append_assoc v.steps queued.0 allowed) in
    ends_within l old c.in-Some.answer v s u w c.in-Some.ensures.finds (queued.0 ++ allowed) left.0 before (ap (λ (a : View). a.steps) left.1)
