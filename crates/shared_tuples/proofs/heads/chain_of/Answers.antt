use Rattle.std.proofs.Common.{ap, arith}
use Rattle.wait_core.specs.Seating.{party_of}
use Rattle.join_party.specs.Joins.{join}
use Rattle.join_party.specs.declared.party.HashParty.{HashParty}
use Rattle.shared_tuples.proofs.Chains.{chain_fits, hash_route}
use Rattle.shared_tuples.proofs.heads.chain_of.Goals as goal

pub chain_place-requires-clause-index : goal.chain_place-requires-clause-index
chain_place-requires-clause-index c =
    let j = join c.args.waits.now.party in
    let v = party_of c.args.seat.now.view in
    let sizes = c.read_sizes-sizes in
    let leads = hash_route j v sizes.result c.of-route.result c.args.hash sizes.ensures.sizes c.of-route.ensures.bucket c.of-route.ensures.batch in
    (omega arith, (chain_fits j v sizes.result c.of-route.result c.party.result.now.chains sizes.ensures.sizes leads (ap (λ (p : HashParty). p.chains) c.party.ensures)).1)
