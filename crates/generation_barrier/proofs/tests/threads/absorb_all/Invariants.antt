use Rattle.std.proofs.Common.{◌≡◌, [], None}
use Rattle.signal_core.specs.Machine.{IsJoined}
use Rattle.generation_barrier.proofs.tests.threads.absorb_all.Given as goal

abbrev pub invariant-loop : goal.invariant-loop
invariant-loop g l = (l.seat.table_id ≡ l.table.table_id) × (l.seat.view.place ≡ None) × IsJoined l.seat.view.slot
    × (l.wait_seat.table_id ≡ l.waits.table_id) × (l.wait_seat.view.place ≡ []) × (l.wait_seat.view.target ≡ None)
