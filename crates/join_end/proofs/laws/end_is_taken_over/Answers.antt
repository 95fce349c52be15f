use Rattle.join_end.proofs.Gathers.{done_both}
use Rattle.join_end.proofs.laws.end_is_taken_over.Goals as goal

pub returns : goal.returns
returns c = done_both
