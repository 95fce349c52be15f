use Rattle.signal_core.proofs.RunsKept.{step_holds, reached_holds}
use Rattle.signal_core.proofs.laws.places_fit.Goals as goal

pub returns-clause-step : goal.returns-clause-step
returns-clause-step g c = λ s t e r turn. (step_holds g.K.Kinds.shows c.args.about s t e r turn).places

pub returns-clause-runs : goal.returns-clause-runs
returns-clause-runs g c = λ s reached. (reached_holds g.K.Kinds.shows c.args.about s reached).places
