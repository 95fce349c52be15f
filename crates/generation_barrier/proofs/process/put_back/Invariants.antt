use Rattle.std.proofs.Common.{◌≡◌, ◌<◌, List, Some}
use Rattle.signal_core.specs.declared.view.Made.{Made}
use Rattle.generation_barrier.specs.Absorbing.{PutBack}
use Rattle.generation_barrier.proofs.HowFar.{Backing}
use Rattle.generation_barrier.proofs.process.put_back.Given as goal

abbrev pub invariant-loop-kind : goal.invariant-loop-kind
invariant-loop-kind g l = (l.seat.table_id ≡ l.fn.seat.table_id) × (l.seat.id ≡ l.fn.seat.id) × (l.own < l.table.procs) × (l.seat.view.own ≡ Some l.own)
    × ((more : List Made) × PutBack l.own l.failed l.kind more × Backing l.fn.seat.view more l.failed l.kind l.carried l.seat.view)
