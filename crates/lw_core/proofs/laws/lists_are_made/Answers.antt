use Rattle.lw_core.specs.Rule.{EachListIsMade}
use Rattle.lw_core.proofs.ListsAreMade.{steps_decide}
use Rattle.lw_core.proofs.InRuns.{in_runs}
use Rattle.lw_core.proofs.RuleKeeps.{turn_keeps}
use Rattle.lw_core.proofs.laws.lists_are_made.Goals as goal

pub returns-clause-step : goal.returns-clause-step
returns-clause-step g c = λ s t e r turn. (turn_keeps g.G.Guarded.lawful c.args.size s t e r turn).lists_made

pub returns-clause-runs : goal.returns-clause-runs
returns-clause-runs g c = in_runs g.G.Guarded.lawful c.args.size g.G.Guarded.zeros c.requires.locks c.requires.procs.0 c.requires.procs.1 (EachListIsMade c.args.size) (λ s r. r.lists_made)

pub returns-clause-decided : goal.returns-clause-decided
returns-clause-decided g c = steps_decide c.args.size
