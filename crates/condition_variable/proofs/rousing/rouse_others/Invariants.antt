use Rattle.std.proofs.Common.{◌≡◌, ℕ, List}
use Rattle.wait_core.specs.declared.view.Made.{Made}
use Rattle.wait_core.specs.Machine.{number_of}
use Rattle.latch.specs.Reads.{went}
use Rattle.condition_variable.specs.Calls.{Rounds}
use Rattle.condition_variable.proofs.rousing.rouse_others.Given as goal

abbrev pub invariant-loop : goal.invariant-loop
invariant-loop g l = (l.seat.table_id ≡ l.fn.seat.table_id) × (l.seat.id ≡ l.fn.seat.id)
    × ((n : ℕ) × (before : List Made) × (l.seat.view ≡ went l.fn.seat.view l.fn.seat.view.place before) × Rounds (number_of l.fn.seat.view.own) l.cv n before)
