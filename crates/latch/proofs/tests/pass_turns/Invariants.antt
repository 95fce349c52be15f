use Rattle.std.proofs.Common.{◌≡◌, []}
use Rattle.latch.proofs.tests.pass_turns.Given as goal

abbrev pub invariant-loop : goal.invariant-loop
invariant-loop g l = (l.seat.table_id ≡ l.initial.seat.table_id) × (l.seat.view.place ≡ [])
