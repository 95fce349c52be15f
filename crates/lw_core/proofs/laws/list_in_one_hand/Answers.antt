use Rattle.lw_core.proofs.RuleKeeps.{turn_keeps}
use Rattle.lw_core.proofs.laws.list_in_one_hand.Goals as goal

pub returns-clause-one : goal.returns-clause-one
returns-clause-one g c = λ s t e r turn. (turn_keeps g.G.Guarded.lawful c.args.size s t e r turn).lists

pub returns-clause-inside : goal.returns-clause-inside
returns-clause-inside g c = λ s t e r turn. (turn_keeps g.G.Guarded.lawful c.args.size s t e r turn).hands
