use Rattle.std.proofs.Common.{◌∙◌}
use Rattle.pg_sync.proofs.MakeFacts.{made_pairs-is}
use Rattle.pg_sync.proofs.make.made_pairs.Goals as goal

pub returns-in-Ok-clause-pairs : goal.returns-in-Ok-clause-pairs
returns-in-Ok-clause-pairs g c =
    let all = made_pairs-is c.args.rows c.args.start c.in_ok-inner.state c.in_ok-inner.inner c.in_ok-outer.outer c.in_ok-inner.ensures.table c.in_ok-inner.ensures.state c.in_ok-outer.ensures.table in
    c.in-Ok.ensures.pairs ∙ all

pub returns-in-Ok-clause-few : goal.returns-in-Ok-clause-few
returns-in-Ok-clause-few g c =
    let all = made_pairs-is c.args.rows c.args.start c.in_ok-inner.state c.in_ok-inner.inner c.in_ok-outer.outer c.in_ok-inner.ensures.table c.in_ok-inner.ensures.state c.in_ok-outer.ensures.table in
    rw all at c.in-Ok.ensures.few

pub returns-clause-too_many : goal.returns-clause-too_many
returns-clause-too_many g c =
    let all = made_pairs-is c.args.rows c.args.start c.in_ok-inner.state c.in_ok-inner.inner c.in_ok-outer.outer c.in_ok-inner.ensures.table c.in_ok-inner.ensures.state c.in_ok-outer.ensures.table in
    rw all at c.in-Err.ensures.too_many
