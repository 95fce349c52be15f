use Rattle.std.proofs.Common.{ap, ◌∙◌, get_or, None}
use Rattle.lw_core.specs.Machine.{mode_in}
use Rattle.lw_core.proofs.SeatLemmas.{mode_at}
use Rattle.lw_core.proofs.seat.LwSeat.mode_of.Goals as goal

pub returns : goal.returns
returns c = (λ i. get_or (c.self.invariant.modes_are i) (c.number.ensures.number i) None) ∙ (mode_at c.self.inside.seat.me.0.holds c.args.lock ∙ ap (λ t. mode_in c.args.lock t.view) c.self.view_is)
