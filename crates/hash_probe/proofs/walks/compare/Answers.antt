use Rattle.std.proofs.Common.{◌≡◌, ℕ, sym, ap, ◌∙◌, arith, Some}
use Rattle.wait_core.specs.Seating.{party_of}
use Rattle.join_party.specs.Joins.{join}
use Rattle.join_law.proofs.Learned.{walk_hash_found}
use Rattle.hash_probe.proofs.Walking.{reached_is}
use Rattle.hash_probe.proofs.Comparing.{not_met, one_agrees}
use Rattle.hash_probe.proofs.walks.compare.Goals as goal

pub returns-then-found-from-clause-pairs : goal.returns-then-found-from-clause-pairs
returns-then-found-from-clause-pairs g c =
    let j = join c.args.waits.now.party in
    let v = party_of c.args.seat.now.view in
    let stood = c.client-found.ensures.stood in
    let n : ℕ = c.client-found.result.old in
    let q = reached_is v.client.walk c.args.inner c.requires.reached in
    let hash = walk_hash_found j _ _ _ stood.rule.client _ v stood.step q.0 c.args.inner n q.1 q.2 stood.read in
    not_met j stood.rule.client.parts.meet c.args.row c.args.inner c.args.hash n c.args.pairs.now.items c.requires.row.key hash.1 (λ same. c.if-found-from.true (same ∙ sym c.from.ensures))

pub returns-clause-looks : goal.returns-clause-looks
returns-clause-looks g c =
    let p = c.args.waits.now.party in
    let j = join p in
    let v = party_of c.args.seat.now.view in
    let stood = c.client-found.ensures.stood in
    let n : ℕ = c.client-found.result.old in
    let q = reached_is v.client.walk c.args.inner c.requires.reached in
    let hash = walk_hash_found j _ _ _ stood.rule.client _ v stood.step q.0 c.args.inner n q.1 q.2 stood.read in
    let same : n ≡ c.args.hash = c.if-found-from.false ∙ c.from.ensures in
    let one = one_agrees p c.args.hash c.args.inner c.requires.inner (hash.1 ∙ ap Some same) in
    let look = c.confirm.ensures.look in
    omega arith
