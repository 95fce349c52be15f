use Rattle.join_end.proofs.Gathers.{did_both}
use Rattle.join_end.proofs.laws.works_add.Goals as goal

pub returns : goal.returns
returns c = did_both
