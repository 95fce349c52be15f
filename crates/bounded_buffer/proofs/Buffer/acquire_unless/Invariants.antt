use Rattle.std.proofs.Common.{◌≡◌, []}
use Rattle.wait_core.specs.Fits.{IsTarget}
use Rattle.bounded_buffer.specs.Backends.{IsIn}
use Rattle.bounded_buffer.proofs.Buffer.acquire_unless.Given as goal

abbrev pub invariant-loop : goal.invariant-loop
invariant-loop g l = (l.backend.lock.table_id ≡ l.self.locks.table_id) × (l.backend.wait.table_id ≡ l.self.conditions.table_id)
    × IsIn l.self.lock l.backend.lock.view × (l.backend.wait.view.place ≡ []) × IsTarget l.self.conditions.cvs l.backend.wait.view.target
