use Rattle.join_party.specs.Joins.{join}
use Rattle.hash_build.proofs.Moving.{may_take_still}
use Rattle.hash_build.proofs.moves.empty_head.Goals as goal

pub take_old-requires-clause-turn : goal.take_old-requires-clause-turn
take_old-requires-clause-turn g c = may_take_still (join c.args.tables.now.waits.party) c.args.seats.now.wait.view c.loop.seats.wait.view c.args.growth c.args.turn c.loop.invariant.4 c.requires.turn
