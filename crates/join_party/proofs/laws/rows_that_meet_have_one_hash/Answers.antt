use Rattle.join_party.proofs.RowsMeeting.{rows_meet}
use Rattle.join_party.proofs.laws.rows_that_meet_have_one_hash.Goals as goal

pub returns : goal.returns
returns c = rows_meet
