use Rattle.std.proofs.Common.{◌≡◌, ℕ, ◌+◌, ◌-◌, ◌*◌, ◌<◌, ◌≤◌, sym, ap, ◌∙◌, arith}
use Rattle.wait_core.specs.Seating.{party_of}
use Rattle.join_party.specs.Joins.{join}
use Rattle.join_party.specs.declared.party.HashParty.{HashParty}
use Rattle.shared_tuples.proofs.OldHeads.{few_old, may_take_old, old_chain, old_store}
use Rattle.shared_tuples.proofs.heads.old_source.Goals as goal
use Rattle.shared_tuples.proofs.heads.old_source.Goals.{then-turn-old, else-turn-old}

pub chain_place-head-requires-clause-half : goal.chain_place-head-requires-clause-half
chain_place-head-requires-clause-half c =
    (few_old (join c.args.waits.now.party) (party_of c.args.seat.now.view) c.read_sizes.result c.before-old.result c.args.growth c.args.turn c.party-party.result.now.first_batches
    c.read_sizes.ensures.sizes c.before-old.ensures.sizes (sym (ap (λ (p : HashParty). p.first_batches) c.party-party.ensures)) c.requires.turn).0

pub chain_place-head-requires-clause-index : goal.chain_place-head-requires-clause-index
chain_place-head-requires-clause-index c =
    let few = few_old (join c.args.waits.now.party) (party_of c.args.seat.now.view) c.read_sizes.result c.before-old.result c.args.growth c.args.turn c.party-party.result.now.first_batches
    c.read_sizes.ensures.sizes c.before-old.ensures.sizes (sym (ap (λ (p : HashParty). p.first_batches) c.party-party.ensures)) c.requires.turn in
    let buckets = few.4 in
    let chains = ap (λ (p : HashParty). p.chains) c.party-party.ensures in
    let low = c.if-turn-old.true in
    (omega arith, omega arith)

pub overflow_mul-head-else-turn-old : goal.overflow_mul-head-else-turn-old
overflow_mul-head-else-turn-old c =
    let few = few_old (join c.args.waits.now.party) (party_of c.args.seat.now.view) c.read_sizes.result c.before-old.result c.args.growth c.args.turn c.party-party.result.now.first_batches
    c.read_sizes.ensures.sizes c.before-old.ensures.sizes (sym (ap (λ (p : HashParty). p.first_batches) c.party-party.ensures)) c.requires.turn in
    let half = few.0 in omega arith

pub overflow_add-head-else-turn-old : goal.overflow_add-head-else-turn-old
overflow_add-head-else-turn-old c =
    let few = few_old (join c.args.waits.now.party) (party_of c.args.seat.now.view) c.read_sizes.result c.before-old.result c.args.growth c.args.turn c.party-party.result.now.first_batches
    c.read_sizes.ensures.sizes c.before-old.ensures.sizes (sym (ap (λ (p : HashParty). p.first_batches) c.party-party.ensures)) c.requires.turn in
    let half = few.0 in let batches = few.2 in let turn = few.3 in let past = c.if-turn-old.false in omega arith

pub overflow_add-head-else-turn-old-2 : goal.overflow_add-head-else-turn-old-2
overflow_add-head-else-turn-old-2 c =
    let few = few_old (join c.args.waits.now.party) (party_of c.args.seat.now.view) c.read_sizes.result c.before-old.result c.args.growth c.args.turn c.party-party.result.now.first_batches
    c.read_sizes.ensures.sizes c.before-old.ensures.sizes (sym (ap (λ (p : HashParty). p.first_batches) c.party-party.ensures)) c.requires.turn in
    let half = few.0 in let batches = few.2 in let turn = few.3 in let past = c.if-turn-old.false in omega arith

pub returns-clause-may : goal.returns-clause-may
returns-clause-may c =
    let j = join c.args.waits.now.party in
    let v = party_of c.args.seat.now.view in
    let old = c.before-old.result in
    let turn : ℕ = c.args.turn in
    let first = sym (ap (λ (p : HashParty). p.first_batches) c.party-party.ensures) in
    let read = c.read_sizes.ensures.sizes in
    let before = c.before-old.ensures.sizes in
    let sizes = c.read_sizes.result in
    let from = c.party-party.result.now.first_batches in
    let chains = ap (λ (p : HashParty). p.chains) c.party-party.ensures in
    let few = few_old j v sizes old c.args.growth turn from read before first c.requires.turn in
    let may = may_take_old j v sizes old c.args.growth turn from read before first c.requires.turn c.bar.result c.if-turn-old.head c.bar.ensures in
    elim c.if-turn-old.branch [
      | then-turn-old w ↦
          let placed = w.head-is ∙ (w.chain_place-head.ensures.place ∙ ap (λ (n : ℕ). old.half * n + (0 * old.buckets + turn)) chains) in
          let below = w.chain_place-head.ensures.below in
          let is = w.head-is in
          may (placed ∙ old_chain j v sizes old c.args.growth turn from read before first c.requires.turn w.if-turn-old.true) (omega arith)
      | else-turn-old w ↦
          let placed = w.head-is ∙ ap (λ (n : ℕ). 2 * n + (old.half * 64 + (turn - old.buckets + 1))) chains in
          let half = few.0 in let batches = few.2 in let low = few.3 in let past = w.if-turn-old.false in let is = w.head-is in
          may (placed ∙ old_store j v sizes old c.args.growth turn from read before first c.requires.turn (omega arith)) (omega arith)
    ]
