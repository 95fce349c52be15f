use Rattle.std.proofs.Common.{◌∙◌, refl, arith}
use Rattle.join_engine.specs.Joins.{sizes_of}
use Rattle.pg_sync.proofs.MakeFacts.{made_pairs-is, made_sizes-is}
use Rattle.pg_sync.proofs.TallyFacts.{pairs-joined, sizes-joined}
use Rattle.pg_sync.proofs.make.pairs_by.Goals as goal

pub join_rows-requires-clause-buckets : goal.join_rows-requires-clause-buckets
join_rows-requires-clause-buckets g c κs within = ((10, refl), omega arith)

pub returns-in-Ok-clause-pairs : goal.returns-in-Ok-clause-pairs
returns-in-Ok-clause-pairs g c =
    let all = made_pairs-is c.args.rows c.args.start c.in_ok-inner.state c.in_ok-inner.inner c.in_ok-outer.outer c.in_ok-inner.ensures.table c.in_ok-inner.ensures.state c.in_ok-outer.ensures.table in
    c.close.ensures ∙ (pairs-joined c.in-Ok.joined _ _ _ c.in-Ok.ensures.joined c.in-Ok.ensures.tables ∙ all)

pub returns-in-Ok-clause-few : goal.returns-in-Ok-clause-few
returns-in-Ok-clause-few g c =
    let all = made_pairs-is c.args.rows c.args.start c.in_ok-inner.state c.in_ok-inner.inner c.in_ok-outer.outer c.in_ok-inner.ensures.table c.in_ok-inner.ensures.state c.in_ok-outer.ensures.table in
    rw all at c.in-Ok.ensures.few

pub returns-in-Ok-clause-told : goal.returns-in-Ok-clause-told
returns-in-Ok-clause-told g c =
    let sizes = made_sizes-is c.args.rows c.args.start c.args.workers c.in_ok-inner.state c.in_ok-inner.inner c.in_ok-outer.outer c.in_ok-inner.ensures.table c.in_ok-inner.ensures.state c.in_ok-outer.ensures.table in
    (c.joined.ensures.joins, sizes_of c.in-Ok.joined, c.joined.ensures.last, sizes-joined c.in-Ok.joined _ _ _ c.in-Ok.ensures.joined c.in-Ok.ensures.tables ∙ sizes)

pub returns-clause-too_many : goal.returns-clause-too_many
returns-clause-too_many g c =
    let all = made_pairs-is c.args.rows c.args.start c.in_ok-inner.state c.in_ok-inner.inner c.in_ok-outer.outer c.in_ok-inner.ensures.table c.in_ok-inner.ensures.state c.in_ok-outer.ensures.table in
    rw all at c.in-Err.ensures.too_many
