use Rattle.std.proofs.Common.{◌≡◌, []}
use Rattle.condition_variable.proofs.tests.threads.set_around.Given as goal

abbrev pub invariant-loop : goal.invariant-loop
invariant-loop g l = (l.seat.table_id ≡ l.table.table_id) × (l.seat.view.place ≡ [])
