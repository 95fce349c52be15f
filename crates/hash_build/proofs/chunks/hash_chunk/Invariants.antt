use Rattle.std.proofs.Common.{◌≡◌, ◌+◌, ◌-◌}
use Rattle.wait_core.specs.Seating.{client_moved}
use Rattle.join_law.specs.Views.{stretch}
use Rattle.hash_build.specs.Hashing.{ClaimsNone, HashesOnly, KeepsSizes}
use Rattle.hash_build.proofs.chunks.hash_chunk.Given as goal

abbrev pub invariant-loop-row : goal.invariant-loop-row
invariant-loop-row g l = (l.seats.wait.table_id ≡ l.fn.seats.wait.table_id) × (l.seats.wait.id ≡ l.fn.seats.wait.id) × (l.seats.lock ≡ l.fn.seats.lock) × (l.seats.signal ≡ l.fn.seats.signal)
    × (l.seats.wait.view ≡ client_moved l.fn.seats.wait.view l.seats.wait.view.client)
    × HashesOnly l.fn.seats.wait.view.client l.seats.wait.view.client × ClaimsNone l.fn.seats.wait.view.client l.seats.wait.view.client × KeepsSizes l.fn.seats.wait.view.client l.seats.wait.view.client
    × (l.seats.wait.view.client.hand ≡ stretch l.row (l.row-end - l.row))
    × (l.steps ≡ l.fn.steps + (l.row - l.fn.chunk.first))
