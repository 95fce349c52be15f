use Rattle.lw_core.specs.NoLostWake.{NoStaleSleep}
use Rattle.lw_core.proofs.NoLostWake.{no_stale_sleep}
use Rattle.lw_core.proofs.InRuns.{in_runs}
use Rattle.lw_core.proofs.laws.variables_are_announced.Goals as goal

pub returns : goal.returns
returns g c = in_runs g.G.Guarded.lawful c.args.size g.G.Guarded.zeros c.requires.locks c.requires.procs.0 c.requires.procs.1 (NoStaleSleep c.args.size) (no_stale_sleep g.G.Guarded.lawful c.args.size)
