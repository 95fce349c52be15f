use Rattle.join_end.proofs.Whole.{stopped_over}
use Rattle.join_end.proofs.laws.stopped_is_over.Goals as goal

pub returns : goal.returns
returns c = stopped_over
