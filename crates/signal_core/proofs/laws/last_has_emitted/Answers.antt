use Rattle.signal_core.proofs.LastEmitted.{last_emitted}
use Rattle.signal_core.proofs.RunsKept.{reached_holds}
use Rattle.signal_core.proofs.laws.last_has_emitted.Goals as goal

pub returns-clause-states : goal.returns-clause-states
returns-clause-states g c = λ s r id v at. last_emitted g.K.Kinds.shows c.args.about s r id v at

pub returns-clause-runs : goal.returns-clause-runs
returns-clause-runs g c = λ s reached id v at. last_emitted g.K.Kinds.shows c.args.about s (reached_holds g.K.Kinds.shows c.args.about s reached) id v at
