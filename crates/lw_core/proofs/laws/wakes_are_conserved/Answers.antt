use Rattle.lw_core.proofs.RuleKeeps.{turn_keeps}
use Rattle.lw_core.proofs.laws.wakes_are_conserved.Goals as goal

pub returns-clause-balance : goal.returns-clause-balance
returns-clause-balance g c = λ s t e r turn. (turn_keeps g.G.Guarded.lawful c.args.size s t e r turn).wakes

pub returns-clause-markers : goal.returns-clause-markers
returns-clause-markers g c = λ s t e r turn. (turn_keeps g.G.Guarded.lawful c.args.size s t e r turn).markers
