-- What a join that is done is of, and what is told of it.
use Rattle.std.proofs.Common.{◌≡◌, ◌∙◌, length}
use denote.Ref.{Bor}
use Rattle.row_model.specs.declared.Plan.{Plan}
use Rattle.row_model.specs.Table.{Table, nested_loop}
use Rattle.join_engine.specs.declared.joined.Joined.{Joined}
use Rattle.join_engine.specs.Joins.{IsJoined, IsOf, sizes_of}
use Rattle.pg_sync.specs.Tallies.{table_sizes}

pub pairs-joined : (j : Joined) (inner outer : Bor Table) (plan : Plan) → IsJoined j → IsOf inner outer plan j → j.pairs.items ≡ nested_loop outer.now inner.now
pairs-joined j inner outer plan done is = done.pairs ∙ (λ i. nested_loop (is.outer i).now (is.inner i).now)

pub sizes-joined : (j : Joined) (inner outer : Bor Table) (plan : Plan) → IsJoined j → IsOf inner outer plan j → sizes_of j ≡ table_sizes inner.now outer.now plan.workers
sizes-joined j inner outer plan done is =
    let pairs = pairs-joined j inner outer plan done is in
    λ i. record { inner = length (is.inner i).now.rows; outer = length (is.outer i).now.rows; workers = (is.plan i).workers; pairs = length (pairs i) }
