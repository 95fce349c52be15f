use Rattle.lw_core.specs.Promises.{EachCallGoesOn}
use Rattle.lw_core.proofs.GoesOn.{each_goes_on}
use Rattle.lw_core.proofs.InRuns.{in_runs}
use Rattle.lw_core.proofs.laws.each_call_goes_on.Goals as goal

pub returns-clause-state : goal.returns-clause-state
returns-clause-state g c = each_goes_on g.G.Guarded.lawful c.args.size

pub returns-clause-runs : goal.returns-clause-runs
returns-clause-runs g c =
    in_runs g.G.Guarded.lawful c.args.size g.G.Guarded.zeros c.requires.locks c.requires.procs.0 c.requires.procs.1 (EachCallGoesOn g.G.Guarded.lawful c.args.size) (each_goes_on g.G.Guarded.lawful c.args.size)
