use Rattle.signal_core.proofs.RuleKept.{slot_published}
use Rattle.signal_core.proofs.RunsKept.{reached_holds}
use Rattle.signal_core.proofs.laws.slots_are_published.Goals as goal

pub returns-clause-states : goal.returns-clause-states
returns-clause-states g c = λ s r id o v t at own slot. slot_published g.K.Kinds.shows c.args.about s r id v o at own t slot

pub returns-clause-runs : goal.returns-clause-runs
returns-clause-runs g c = λ s reached id o v t at own slot. slot_published g.K.Kinds.shows c.args.about s (reached_holds g.K.Kinds.shows c.args.about s reached) id v o at own t slot
