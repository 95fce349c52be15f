use Rattle.signal_core.proofs.KeptOverRuns.{emissions_kept}
use Rattle.signal_core.proofs.laws.emissions_are_kept.Goals as goal

pub returns : goal.returns
returns g c = emissions_kept g.K.Kinds.shows c.args.about
