use Rattle.signal_core.proofs.Openings.{opening_kept}
use Rattle.signal_core.proofs.laws.opening_holds.Goals as goal

pub returns : goal.returns
returns g c = λ s h. opening_kept g.K.Kinds.shows c.args.about s h
