use Rattle.std.proofs.Common.{◌≡◌, Bool, List, []}
use Rattle.signal_core.specs.declared.view.Made.{Made}
use Rattle.wait_core.specs.declared.view.Made as wait
use Rattle.wait_core.specs.Machine.{number_of}
use Rattle.condition_variable.specs.Visits.{stands}
use Rattle.generation_barrier.specs.Absorbing.{went}
use Rattle.generation_barrier.specs.Waiting.{AwaitsBelow, target_past}
use Rattle.generation_barrier.proofs.waiting.wait_for.Given as goal

abbrev pub invariant-loop-q : goal.invariant-loop-q
invariant-loop-q g l = (l.seat.table_id ≡ l.fn.seat.table_id) × (l.seat.id ≡ l.fn.seat.id) × (l.wait_seat.table_id ≡ l.fn.wait_seat.table_id) × (l.wait_seat.id ≡ l.fn.wait_seat.id)
    × ((looks : List Made) × (sleeps : List wait.Made) × (heeds : Bool) × AwaitsBelow (number_of l.fn.wait_seat.view.own) l.generation l.fn.wait_seat.view.target l.q looks sleeps
    × (l.seat.view ≡ went l.fn.seat.view looks l.fn.seat.view.slot l.fn.seat.view.absorbed) × (l.wait_seat.view ≡ stands l.fn.wait_seat.view [] (target_past l.q l.fn.wait_seat.view.target) heeds sleeps))
