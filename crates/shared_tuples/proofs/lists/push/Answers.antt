use Rattle.std.proofs.Common.{ℕ, refl}
use Rattle.join_party.specs.Joins.{join}
use Rattle.shared_tuples.proofs.Tuples.{linked_to, may_push}
use Rattle.shared_tuples.proofs.lists.push.Goals as goal

pub loop-init : goal.loop-init
loop-init g c = (refl, refl, c.args.seat.now.view.client.linked, refl)

pub client-pushed-requires-clause-may : goal.client-pushed-requires-clause-may
client-pushed-requires-clause-may g c κs =
    let v = c.args.seat.now.view in
    let y = c.client.new.seat.view in
    let found : ℕ = c.client-first.result.old in
    let linked = linked_to v c.loop.seat.view c.client-first.new.seat.view y c.loop.invariant.2 c.args.row found c.loop.invariant.3 c.client-first.ensures.view c.client.ensures.view in
    may_push (join c.args.waits.now.party) v y c.args.row c.args.head found c.requires.may linked
