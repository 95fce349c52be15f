use Rattle.lw_core.specs.Promises.{HoldersAgree}
use Rattle.lw_core.proofs.Exclusion.{exclusion}
use Rattle.lw_core.proofs.InRuns.{in_runs}
use Rattle.lw_core.proofs.laws.holders_exclude.Goals as goal

pub returns : goal.returns
returns g c = in_runs g.G.Guarded.lawful c.args.size g.G.Guarded.zeros c.requires.locks c.requires.procs.0 c.requires.procs.1 (HoldersAgree c.args.size) (exclusion g.G.Guarded.lawful c.args.size)
