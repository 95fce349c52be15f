use Rattle.wait_event_set.proofs.Found.{below}
use Rattle.wait_event_set.proofs.set.EventSet.occurred.Goals as goal

pub member-member-requires : goal.member-member-requires
member-member-requires c = below _ _ _ c.requires.here
