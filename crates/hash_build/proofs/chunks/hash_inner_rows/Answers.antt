use Rattle.std.proofs.Common.{◌∙◌, sym, ap, subst}
use Rattle.wait_core.specs.declared.view.WaitView.{WaitView}
use Rattle.join_law.specs.declared.view.HashView.{HashView}
use Rattle.join_party.specs.Joins.{join}
use Rattle.hash_build.specs.Growths.{AreAt}
use Rattle.hash_build.proofs.Passing.{hashes_at_elect, reads_sizes_there}
use Rattle.hash_build.proofs.Reaching.{reached_chunk, reached_growth}
use Rattle.hash_build.proofs.chunks.hash_inner_rows.Goals as goal

pub hash_inner_chunk-wanted-requires-clause-phase : goal.hash_inner_chunk-wanted-requires-clause-phase
hash_inner_chunk-wanted-requires-clause-phase g c =
    let w = c.claim.new.seats.wait.view in
    let at = subst (AreAt c.loop.at) (sym (ap (λ (y : WaitView HashView). y.attached) c.in-Some-claim.ensures.claimed.view)) c.loop.invariant.0.attached in
    (hashes_at_elect c.loop.at w at c.loop.invariant.2, reads_sizes_there c.loop.at w at)

pub loop-preserved-in-Some-wanted : goal.loop-preserved-in-Some-wanted
loop-preserved-in-Some-wanted g c =
    let v = c.args.seats.now in
    let l = c.loop.seats in
    let a = c.claim.new.seats in
    let b = c.hash_inner_chunk-wanted.new.seats in
    let w = c.take_part-at.new.seats in
    let claim = c.claim.ensures in
    let chunk = c.hash_inner_chunk-wanted.ensures in
    let grown = c.take_part-at.ensures in
    let reached = reached_chunk (join c.args.tables.now.waits.party) v l a b c.in-Some-claim.chunk.first c.in-Some-claim.chunk.count c.args.steps.now c.loop.steps c.hash_inner_chunk-wanted.new.steps c.loop.invariant.3 c.in-Some-claim.ensures.claimed
    claim.others.0 claim.others.1 chunk.view chunk.only.0 chunk.only.1 chunk.hand chunk.free.0 chunk.free.1 chunk.holds chunk.grants chunk.signal chunk.looks in (
      grown.growing.0,
      grown.growing.1 ∙ (chunk.table.1 ∙ (claim.table.1 ∙ c.loop.invariant.1)),
      grown.elect,
      reached_growth c.args.tables.now v b w c.take_part-at.result c.args.steps.now c.hash_inner_chunk-wanted.new.steps reached grown.grows grown.growing.0,
    )
