use Rattle.std.proofs.Common.{◌≡◌, []}
use Rattle.condition_variable.proofs.tests.threads.signal_somebody.Given as goal

abbrev pub invariant-loop : goal.invariant-loop
invariant-loop g l = (l.seat.table_id ≡ l.fn.seat.table_id) × (l.seat.view.place ≡ []) × (l.seat.view.target ≡ l.fn.seat.view.target)
