use Rattle.lw_core.proofs.RuleKeeps.{turn_keeps}
use Rattle.lw_core.proofs.laws.frames_stand.Goals as goal

pub returns : goal.returns
returns g c = λ s t e r turn. (turn_keeps g.G.Guarded.lawful c.args.size s t e r turn).frames
