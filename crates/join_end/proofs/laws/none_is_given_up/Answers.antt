use Rattle.join_end.proofs.Whole.{none_given}
use Rattle.join_end.proofs.laws.none_is_given_up.Goals as goal

pub returns : goal.returns
returns c = none_given
