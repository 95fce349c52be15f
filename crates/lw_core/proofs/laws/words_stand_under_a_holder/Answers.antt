use Rattle.lw_core.proofs.Exclusion.{stand}
use Rattle.lw_core.proofs.laws.words_stand_under_a_holder.Goals as goal

pub returns : goal.returns
returns g c = stand g.G.Guarded.lawful c.args.size
