use Rattle.join_law.proofs.Learned.{inner_end_found, outer_end_found}
use Rattle.join_party.proofs.laws.ended_cursors_stay.Goals as goal

pub returns-clause-inner : goal.returns-clause-inner
returns-clause-inner c = λ j words views phases id v n h s ended found. inner_end_found j words views phases h id v s n found ended

pub returns-clause-outer : goal.returns-clause-outer
returns-clause-outer c = λ j words views phases id v n h s ended found. outer_end_found j words views phases h id v s n found ended
