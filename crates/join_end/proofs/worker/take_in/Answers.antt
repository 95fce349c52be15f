use Rattle.std.proofs.Common.{sym, subst}
use Rattle.row_model.specs.declared.Side.{Side}
use Rattle.wait_core.specs.declared.view.WaitView.{WaitView}
use Rattle.join_law.specs.declared.view.HashView.{HashView}
use Rattle.join_party.specs.Claims.{MayStillEnd}
use Rattle.join_end.proofs.Gathers.{may_still_end}
use Rattle.join_end.proofs.worker.take_in.Goals as goal

pub invariant_of-into : goal.invariant_of-into
invariant_of-into c =
    record { ends = subst (λ (y : WaitView HashView). (side : Side) → MayStillEnd y.client side) (sym c.join-2.ensures.view) (may_still_end c.args.into.now.wait.view.client c.args.from.wait.view.client c.args.into.now.ends) }
