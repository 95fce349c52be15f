use Rattle.std.proofs.Common.{◌≡◌, ℕ, List}
use Rattle.wait_core.specs.declared.view.Made.{Made}
use Rattle.latch.specs.Reads.{later}
use Rattle.wait_event_set.specs.Calls.{WokenInVain}
use Rattle.wait_event_set.proofs.wait.wait_shutdown.Given as goal

abbrev pub invariant-loop : goal.invariant-loop
invariant-loop g l = (l.seat.table_id ≡ l.fn.seat.table_id) × (l.seat.id ≡ l.fn.seat.id) × ((n : ℕ) × (more : List Made) × (l.seat.view ≡ later l.fn.seat.view more) × WokenInVain l.fn.own n more)
