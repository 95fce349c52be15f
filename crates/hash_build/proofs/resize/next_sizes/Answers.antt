use Rattle.std.proofs.Common.{◌≡◌, ℕ, ◌*◌, ◌≤◌, sym, ap, ◌∙◌, subst, arith}
use Rattle.std.specs.Int.{IsPowerOfTwo}
use Rattle.join_party.specs.declared.party.HashParty.{HashParty}
use Rattle.join_party.specs.Joins.{join}
use Rattle.shared_tuples.specs.declared.sizes.Sizes.{Sizes}
use Rattle.shared_tuples.specs.Growing.{grown_sizes}
use Rattle.hash_build.proofs.Resizing.{may_grow, other_half, same_sizes}
use Rattle.hash_build.proofs.resize.next_sizes.Goals as goal

pub returns-clause-next : goal.returns-clause-next
returns-clause-next c =
    let p : HashParty = c.args.tables.now.waits.party in
    let s : Sizes = c.args.sizes in
    let growth = c.args.growth in
    let first : ℕ = c.party.result.now.first_batches in
    let first_is : p.first_batches ≡ first = sym (ap (λ (q : HashParty). q.first_batches) c.party.ensures) in
    let is : c.grown-grown.result ≡ grown_sizes s growth first = c.grown-grown.ensures.sizes in
    let within = subst (λ (n : ℕ). ((grown_sizes s growth n).buckets ≤ 262144) × ((grown_sizes s growth n).batches ≤ 64) × ((grown_sizes s growth n).buckets * (grown_sizes s growth n).batches ≤ p.chains)) first_is (c.has_room.ensures.within c.if-not-has_room.false) in
    let room = subst (λ (x : Sizes). (x.buckets ≤ 262144) × (x.batches ≤ 64) × (x.buckets * x.batches ≤ p.chains)) (sym is) within in
    let half = ap (λ (x : Sizes). x.half) is ∙ other_half growth s first in
    may_grow (join p) growth s c.before-2.result c.grown-grown.result first c.requires.fit is c.before-2.ensures.sizes first_is (same_sizes c.before-2.result s (sym c.ne.ensures ∙ c.if-ne.false))
    (subst IsPowerOfTwo first_is c.args.tables.now.power) (subst (λ (n : ℕ). 2 ≤ n) first_is c.args.tables.now.first.0) room.0 room.1 (omega arith) room.2
