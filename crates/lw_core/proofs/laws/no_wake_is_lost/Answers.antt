use Rattle.lw_core.specs.NoLostWake.{NoWakeIsLost}
use Rattle.lw_core.proofs.NoLostWake.{no_wake_is_lost}
use Rattle.lw_core.proofs.InRuns.{in_runs}
use Rattle.lw_core.proofs.laws.no_wake_is_lost.Goals as goal

pub returns : goal.returns
returns g c = in_runs g.G.Guarded.lawful c.args.size g.G.Guarded.zeros c.requires.locks c.requires.procs.0 c.requires.procs.1 (NoWakeIsLost c.args.size) (no_wake_is_lost g.G.Guarded.lawful c.args.size)
