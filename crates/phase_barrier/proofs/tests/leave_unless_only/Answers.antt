use Rattle.std.proofs.Common.{◌+◌, cond, ap, ◌∙◌}
use Rattle.wait_core.specs.declared.view.WaitView.{WaitView}
use Rattle.wait_core.specs.Jobs.{at_phase, away_from}
use Rattle.wait_core.specs.Parties.{phase_of}
use Rattle.wait_core.proofs.Attachments.{away_here}
use Rattle.phase_barrier.specs.Calls.{attaching}
use Rattle.phase_barrier.proofs.tests.leave_unless_only.Goals as goal

pub invariant_of-result-else-only : goal.invariant_of-result-else-only
invariant_of-result-else-only g c =
    let there = c.args.there in let d = c.in-Ok.ensures.left.3 in let view = d.view ∙ (λ i. attaching there.seat.view (cond (c.if-only.false i) (at_phase there.bar (d.phase + 1) there.seat.view.attached) (away_from there.bar there.seat.view.attached)) d.more) in record {
      seated = c.in-Ok.ensures.table.0 ∙ there.seated;
      idle = (ap (λ (y : WaitView _). y.place) view, ap (λ (y : WaitView _). y.target) view ∙ there.idle.1);
      away = ap (λ (y : WaitView _). phase_of y.attached there.bar) view ∙ away_here there.bar there.seat.view.attached;
      room = there.room;
    }
