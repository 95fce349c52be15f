use Rattle.join_party.specs.Joins.{join}
use Rattle.join_end.proofs.Gathers.{quiet_ended}
use Rattle.join_end.proofs.laws.quiet_is_ended.Goals as goal

pub returns : goal.returns
returns c = λ p. quiet_ended (join p)
