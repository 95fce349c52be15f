use Rattle.join_end.proofs.Whole.{rows_ended}
use Rattle.join_end.proofs.laws.rows_are_ended.Goals as goal

pub returns : goal.returns
returns c = rows_ended
