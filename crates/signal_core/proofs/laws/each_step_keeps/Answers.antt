use Rattle.signal_core.proofs.RunsKept.{step_holds}
use Rattle.signal_core.proofs.laws.each_step_keeps.Goals as goal

pub returns : goal.returns
returns g c = step_holds g.K.Kinds.shows c.args.about
