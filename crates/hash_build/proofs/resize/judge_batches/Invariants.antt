use Rattle.std.proofs.Common.{◌≡◌}
use Rattle.hash_build.proofs.resize.judge_batches.Given as goal

abbrev pub invariant-loop-batch : goal.invariant-loop-batch
invariant-loop-batch l = (l.seats.wait.table_id ≡ l.fn.seats.wait.table_id) × (l.seats.wait.id ≡ l.fn.seats.wait.id) × (l.seats.lock ≡ l.fn.seats.lock) × (l.seats.signal ≡ l.fn.seats.signal)
    × (l.seats.wait.view ≡ l.fn.seats.wait.view)
