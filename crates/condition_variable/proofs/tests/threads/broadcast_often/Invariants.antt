use Rattle.std.proofs.Common.{◌≡◌, [], Some}
use Rattle.condition_variable.proofs.tests.threads.broadcast_often.Given as goal

abbrev pub invariant-loop : goal.invariant-loop
invariant-loop g l = (l.seat.table_id ≡ l.table.table_id) × (l.seat.view.place ≡ []) × (l.seat.view.target ≡ Some l.done)
