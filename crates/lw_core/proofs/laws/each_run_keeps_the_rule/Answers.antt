use Rattle.lw_core.proofs.InRuns.{opening_meets}
use Rattle.lw_core.proofs.RuleKeeps.{run_keeps}
use Rattle.lw_core.proofs.laws.each_run_keeps_the_rule.Goals as goal

pub returns-clause-opening : goal.returns-clause-opening
returns-clause-opening g c = opening_meets g.G.Guarded.lawful c.args.size g.G.Guarded.zeros c.requires.locks c.requires.procs.0 c.requires.procs.1

pub returns-clause-run : goal.returns-clause-run
returns-clause-run g c = run_keeps g.G.Guarded.lawful c.args.size
