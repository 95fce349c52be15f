use Rattle.std.proofs.Common.{◌≡◌, ◌-◌, ℕ, suc, List, ◌∷◌, [], ◌++◌, sym, ap, ◌∙◌, arith}
use Rattle.std.proofs.lemmas.Result.{MatchResult-from_err}
use Rattle.wait_core.specs.Seating.{party_of}
use Rattle.join_party.specs.Joins.{join}
use Rattle.hash_probe.specs.Walks.{pairs_among, walking}
use Rattle.hash_probe.proofs.Walking.{walk_begins, walk_goes_on, walked_more}
use Rattle.hash_probe.proofs.Comparing.{agreeing_append, pairs_more}
use Rattle.hash_probe.proofs.walks.walk.Goals as goal

pub loop-init : goal.loop-init
loop-init g c =
    let p = c.args.waits.now.party in
    let j = join p in
    let v = c.args.seat.now.view in
    let stood = c.client-next.ensures.stood in
    let n : ℕ = c.client-next.result.old in (
      c.client-next.ensures.table.0,
      c.client-next.ensures.table.1,
      walk_begins j _ _ _ stood.rule.client _ (party_of v) stood.step c.args.row c.args.head n c.requires.may stood.read,
      [],
      c.client-next.ensures.view,
      sym (Rattle.std.proofs.lemmas.List.append-nil c.args.pairs.now.items),
      omega arith,
    )

pub returns-in_err-compare-clause-walked : goal.returns-in_err-compare-clause-walked
returns-in_err-compare-clause-walked g c =
    let p = c.args.waits.now.party in
    let before = c.loop.invariant in
    let inner : ℕ = c.loop.next - 1 in
    let some : c.loop.next ≡ suc inner = omega arith in
    let look = c.compare.ensures.looks in
    let sum = agreeing_append p.inner.now p.buckets c.args.hash before.3 (inner ∷ []) in
    let was = before.6 in
    MatchResult-from_err _ _ _ c.from_residual.ensures.0 (λ _. record {
      passed = before.3;
      at = inner;
      more = pairs_among (join p) c.args.row before.3;
      view = c.compare.ensures.view ∙ (before.4 ∙ ap (walking c.args.seat.now.view c.args.row before.3) some);
      pairs = c.in_err-compare.ensures.kept ∙ before.5;
      looks = omega arith;
    })

pub loop-preserved : goal.loop-preserved
loop-preserved g c =
    let p = c.args.waits.now.party in
    let j = join p in
    let v = c.args.seat.now.view in
    let row = c.args.row in
    let before = c.loop.invariant in
    let passed : List ℕ = before.3 in
    let inner : ℕ = c.loop.next - 1 in
    let n : ℕ = c.client-next-in-loop.result.old in
    let stood = c.client-next-in-loop.ensures.stood in
    let some : c.loop.next ≡ suc inner = omega arith in
    let at = c.compare.ensures.view ∙ before.4 in
    let look = c.compare.ensures.looks in
    let sum = agreeing_append p.inner.now p.buckets c.args.hash passed (inner ∷ []) in
    let was = before.6 in (
      c.client-next-in-loop.ensures.table.0 ∙ (c.compare.ensures.table.0 ∙ before.0),
      c.client-next-in-loop.ensures.table.1 ∙ (c.compare.ensures.table.1 ∙ before.1),
      walk_goes_on j _ _ _ stood.rule.client _ (party_of c.compare.new.seat.view) stood.step row inner c.loop.next n passed (ap (λ y. y.client.walk) at) some stood.read,
      passed ++ inner ∷ [],
      walked_more j v c.compare.new.seat.view c.client-next-in-loop.new.seat.view row inner c.loop.next n passed at c.client-next-in-loop.ensures.view,
      pairs_more j row inner passed c.args.pairs.now.items c.loop.pairs.items c.compare.new.pairs.items before.5 c.in_ok-compare.ensures.pairs,
      omega arith,
    )
