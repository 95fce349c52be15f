use Rattle.std.proofs.Common.{◌≡◌, [], None}
use Rattle.generation_barrier.proofs.tests.threads.emit_all.Given as goal

abbrev pub invariant-loop-turn : goal.invariant-loop-turn
invariant-loop-turn g l = (l.seat.table_id ≡ l.table.table_id) × (l.seat.view.place ≡ None) × (l.seat.view.slot ≡ None)
    × (l.wait_seat.table_id ≡ l.waits.table_id) × (l.wait_seat.view.place ≡ []) × (l.wait_seat.view.target ≡ None)
