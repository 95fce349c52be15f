use Rattle.signal_core.proofs.RuleKept.{machine_kept}
use Rattle.signal_core.proofs.laws.machine_step_keeps.Goals as goal

pub returns : goal.returns
returns g c = λ s id o v x r at own ok. machine_kept g.K.Kinds.shows c.args.about s r id v o at own x ok
