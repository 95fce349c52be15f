use Rattle.std.proofs.Common.{◌≡◌, [], Some}
use Rattle.condition_variable.proofs.tests.threads.wait_for_all.Given as goal

abbrev pub invariant-loop : goal.invariant-loop
invariant-loop g l = (l.seat.table_id ≡ l.fn.seat.table_id) × (l.seat.view.place ≡ []) × (l.seat.view.target ≡ Some l.done)
