use Rattle.std.proofs.Common.{ap, arith}
use Rattle.wait_core.specs.Seating.{party_of}
use Rattle.join_party.specs.Joins.{join}
use Rattle.join_party.specs.declared.party.HashParty.{HashParty}
use Rattle.shared_tuples.proofs.Chains.{chain_fits}
use Rattle.shared_tuples.proofs.heads.chain_head.Goals as goal

pub chain_place-requires-clause-half : goal.chain_place-requires-clause-half
chain_place-requires-clause-half c = (chain_fits (join c.args.waits.now.party) (party_of c.args.seat.now.view) c.read_sizes-sizes.result c.args.route c.party.result.now.chains c.read_sizes-sizes.ensures.sizes c.requires.route (ap (λ (p : HashParty). p.chains) c.party.ensures)).0

pub chain_place-requires-clause-index : goal.chain_place-requires-clause-index
chain_place-requires-clause-index c = (omega arith, (chain_fits (join c.args.waits.now.party) (party_of c.args.seat.now.view) c.read_sizes-sizes.result c.args.route c.party.result.now.chains c.read_sizes-sizes.ensures.sizes c.requires.route (ap (λ (p : HashParty). p.chains) c.party.ensures)).1)
