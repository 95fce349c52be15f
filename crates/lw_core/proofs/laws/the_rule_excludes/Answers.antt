use Rattle.lw_core.proofs.Exclusion.{exclusion, unheld, last}
use Rattle.lw_core.proofs.laws.the_rule_excludes.Goals as goal

pub returns-clause-exclusion : goal.returns-clause-exclusion
returns-clause-exclusion g c = exclusion g.G.Guarded.lawful c.args.size

pub returns-clause-lawful : goal.returns-clause-lawful
returns-clause-lawful g c = unheld g.G.Guarded.lawful c.args.size

pub returns-clause-last : goal.returns-clause-last
returns-clause-last g c = last g.G.Guarded.lawful c.args.size
