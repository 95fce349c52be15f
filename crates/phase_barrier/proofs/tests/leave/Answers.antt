use Rattle.std.proofs.Common.{ap, ◌∙◌}
use Rattle.wait_core.specs.declared.view.WaitView.{WaitView}
use Rattle.wait_core.specs.Jobs.{is_awaited}
use Rattle.wait_core.specs.Parties.{phase_of}
use Rattle.wait_core.proofs.Attachments.{away_here}
use Rattle.phase_barrier.proofs.Walks.{no_target}
use Rattle.phase_barrier.proofs.tests.leave.Goals as goal

pub invariant_of-result : goal.invariant_of-result
invariant_of-result g c =
    let there = c.args.there in let d = c.detach-last.ensures.detached in let view = d.3.view in record {
      seated = c.detach-last.ensures.table.0 ∙ there.seated;
      idle = (ap (λ (y : WaitView _). y.place) view, ap (λ (y : WaitView _). y.target) view ∙ no_target (is_awaited d.0) there.seat.view.target there.idle.1);
      away = ap (λ (y : WaitView _). phase_of y.attached there.bar) view ∙ away_here there.bar there.seat.view.attached;
      room = there.room;
    }
