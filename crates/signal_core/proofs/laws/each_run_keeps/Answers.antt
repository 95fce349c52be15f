use Rattle.signal_core.proofs.RunsKept.{run_holds}
use Rattle.signal_core.proofs.laws.each_run_keeps.Goals as goal

pub returns : goal.returns
returns g c = run_holds g.K.Kinds.shows c.args.about
