use Rattle.std.proofs.Common.{◌≡◌, ℕ, Bool, List, []}
use Rattle.signal_core.specs.declared.view.Made.{Made}
use Rattle.wait_core.specs.declared.view.Made as wait
use Rattle.wait_core.specs.Machine.{number_of}
use Rattle.condition_variable.specs.Visits.{stands}
use Rattle.generation_barrier.specs.Absorbing.{went}
use Rattle.generation_barrier.specs.Waiting.{IsBehind, notice_at, target_after}
use Rattle.generation_barrier.proofs.waiting.wait_for_slot.Given as goal

abbrev pub invariant-loop : goal.invariant-loop
invariant-loop g l = (l.seat.table_id ≡ l.fn.seat.table_id) × (l.seat.id ≡ l.fn.seat.id) × (l.wait_seat.table_id ≡ l.fn.wait_seat.table_id) × (l.wait_seat.id ≡ l.fn.wait_seat.id)
    × ((n : ℕ) × (looks : List Made) × (sleeps : List wait.Made) × (heeds : Bool) × IsBehind (number_of l.fn.wait_seat.view.own) l.generation l.slot l.fn.wait_seat.view.target n looks sleeps
    × (l.seat.view ≡ went l.fn.seat.view looks l.fn.seat.view.slot l.fn.seat.view.absorbed) × (l.wait_seat.view ≡ stands l.fn.wait_seat.view [] (target_after (notice_at l.slot) n l.fn.wait_seat.view.target) heeds sleeps))
