use Rattle.std.proofs.Common.{◌≡◌, ◌≤◌, ◌-◌, ℕ, suc, List, length, sym, ap, ◌∙◌, subst, arith}
use Rattle.std.proofs.lemmas.List.{append-nil}
use Rattle.wait_core.specs.declared.view.WaitView.{WaitView}
use Rattle.wait_core.specs.Seating.{party_of}
use Rattle.join_law.specs.declared.view.HashView.{HashView}
use Rattle.join_law.specs.Views.{partners}
use Rattle.join_party.specs.Joins.{join}
use Rattle.hash_probe.specs.Looks.{agreeing_among, walk_of}
use Rattle.hash_probe.specs.Walks.{MayWalk, walking}
use Rattle.hash_probe.proofs.Probing.{row_keyed, knows_sizes, may_walk, how_many, looks_few, probed_row, results_fit, count_few}
use Rattle.hash_probe.proofs.rows.probe_row.Goals as goal

pub chain_of-head-requires-clause-known : goal.chain_of-head-requires-clause-known
chain_of-head-requires-clause-known g c = knows_sizes (join c.args.waits.now.party) (party_of c.args.seat.now.view) c.args.row c.requires.row

pub walk-requires-clause-row : goal.walk-requires-clause-row
walk-requires-clause-row g c = row_keyed c.args.waits.now.party (party_of c.args.seat.now.view) c.args.row c.args.hash c.requires.row c.requires.hash

pub walk-requires-clause-may : goal.walk-requires-clause-may
walk-requires-clause-may g c =
    let j = join c.args.waits.now.party in
    let head = c.chain_of-head in
    subst (λ (y : WaitView HashView). MayWalk j (party_of y) c.args.row head.result) (sym head.ensures.view)
    (may_walk j (party_of c.args.seat.now.view) c.args.row c.args.hash head.result c.requires.row c.requires.hash head.ensures.inside head.ensures.head)

pub overflow_add-result : goal.overflow_add-result
overflow_add-result g c =
    let p = c.args.waits.now.party in
    let end = c.in-Ok.ensures.walked in
    let count : ℕ = c.len.result - c.len-before.result in
    let more = how_many (join p) c.args.row end.passed c.args.pairs.now.items c.walk.new.pairs.items end.pairs in
    let many : count ≡ length (partners (join p) c.args.row end.passed) = omega arith in
    let stood = c.client-results.ensures.stood in
    let few = results_fit p _ _ _ stood.rule.client _ c.walk.new.seat.view stood.step c.chain_of-head.new.seat.view c.args.row count c.client-results.result.old end.passed end.view many stood.read in omega arith

pub returns-in-Ok-clause-probed : goal.returns-in-Ok-clause-probed
returns-in-Ok-clause-probed g c =
    let p = c.args.waits.now.party in
    let row = c.args.row in
    let end = c.in-Ok.ensures.walked in
    let count : ℕ = c.len.result - c.len-before.result in
    let more = how_many (join p) row end.passed c.args.pairs.now.items c.walk.new.pairs.items end.pairs in
    let many : count ≡ length (partners (join p) row end.passed) = omega arith in
    let stood = c.client-results.ensures.stood in
    let at = end.view ∙ ap (λ (y : WaitView HashView). walking y row end.passed 0) c.chain_of-head.ensures.view in
    probed_row p _ _ _ stood.rule.client _ c.walk.new.seat.view stood.step c.args.seat.now.view c.client-results.new.seat.view row count c.client-results.result.old end.passed c.args.pairs.now.items c.walk.new.pairs.items c.requires.row.hand at end.pairs many stood.read c.client-results.ensures.view

pub returns-in-Ok-clause-few : goal.returns-in-Ok-clause-few
returns-in-Ok-clause-few g c =
    let p = c.args.waits.now.party in
    let row = c.args.row in
    let end = c.in-Ok.ensures.walked in
    let count : ℕ = c.len.result - c.len-before.result in
    let more = how_many (join p) row end.passed c.args.pairs.now.items c.walk.new.pairs.items end.pairs in
    let many : count ≡ length (partners (join p) row end.passed) = omega arith in
    let stood = c.client-results.ensures.stood in
    let at = end.view ∙ ap (λ (y : WaitView HashView). walking y row end.passed 0) c.chain_of-head.ensures.view in
    count_few p _ _ _ stood.rule.client _ c.walk.new.seat.view stood.step c.args.seat.now.view row count c.client-results.result.old end.passed c.requires.row at many stood.read

pub returns-in-Ok-clause-looks : goal.returns-in-Ok-clause-looks
returns-in-Ok-clause-looks g c =
    let p = c.args.waits.now.party in
    let hash : ℕ = c.args.hash in
    let end = c.in-Ok.ensures.walked in
    let key = row_keyed p (party_of c.args.seat.now.view) c.args.row hash c.requires.row c.requires.hash in
    let stood = c.client-results.ensures.stood in
    let few = looks_few p _ _ _ stood.rule.client _ c.walk.new.seat.view stood.step c.chain_of-head.new.seat.view c.args.row hash 0 end.passed key end.view in
    let few' : agreeing_among p.inner.now p.buckets hash end.passed ≤ walk_of p.outer.now p.inner.now p.buckets c.args.row = subst (λ (l : List ℕ). agreeing_among p.inner.now p.buckets hash l ≤ walk_of p.outer.now p.inner.now p.buckets c.args.row) (append-nil end.passed) few in
    let looks = end.looks in omega arith

pub returns-in-Err-clause-looks : goal.returns-in-Err-clause-looks
returns-in-Err-clause-looks g c =
    let p = c.args.waits.now.party in
    let hash : ℕ = c.args.hash in
    let short = c.in-Err.ensures.walked in
    let key = row_keyed p (party_of c.args.seat.now.view) c.args.row hash c.requires.row c.requires.hash in
    let stood = c.client.ensures.stood in
    let few = looks_few p _ _ _ stood.rule.client _ c.walk.new.seat.view stood.step c.chain_of-head.new.seat.view c.args.row hash (suc short.at) short.passed key short.view in
    let looks = short.looks in omega arith
