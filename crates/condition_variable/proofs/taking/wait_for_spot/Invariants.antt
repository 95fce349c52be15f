use Rattle.std.proofs.Common.{◌≡◌, List}
use Rattle.wait_core.specs.declared.view.Made.{Made}
use Rattle.latch.specs.Reads.{went}
use Rattle.condition_variable.specs.Visits.{OnlySpins}
use Rattle.condition_variable.proofs.taking.wait_for_spot.Given as goal

abbrev pub invariant-loop : goal.invariant-loop
invariant-loop g l = (l.seat.table_id ≡ l.fn.seat.table_id) × (l.seat.id ≡ l.fn.seat.id)
    × ((spins : List Made) × (l.seat.view ≡ went l.fn.seat.view l.fn.seat.view.place spins) × OnlySpins l.spot spins)
