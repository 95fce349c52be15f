use Rattle.std.proofs.Common.{ℕ, ◌+◌, ◌∙◌, arith}
use Rattle.hash_build.proofs.Hashing.{claims_none, first_gone, hashes_on, keeps_sizes, view_on}
use Rattle.hash_build.proofs.chunks.hash_chunk.Goals as goal

pub loop-row-preserved : goal.loop-row-preserved
loop-row-preserved g c =
    let v = c.args.seats.now.wait.view in
    let l = c.loop-row.seats.wait.view in
    let w = c.hash_row-batch.new.seats.wait.view in
    let row : ℕ = c.loop-row.row in
    let inv = c.loop-row.invariant in
    let hashed = c.hash_row-batch.ensures in
    let less = c.loop-row-test.true in (
      hashed.table.0 ∙ inv.0,
      hashed.table.1 ∙ inv.1,
      hashed.others.0 ∙ inv.2,
      hashed.others.1 ∙ inv.3,
      view_on v l w inv.4 hashed.view,
      hashes_on v.client l.client w.client inv.5 hashed.only.0,
      claims_none v.client l.client w.client inv.6 hashed.only.1,
      keeps_sizes v.client l.client w.client inv.7 hashed.only.2,
      first_gone row (c.args.chunk.first + c.args.chunk.count) l.client.hand w.client.hand less inv.8 hashed.hand,
      omega arith,
    )
