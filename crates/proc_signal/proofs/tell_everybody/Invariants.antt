use Rattle.std.proofs.Common.{◌≡◌, List}
use Rattle.signal_core.specs.declared.view.Made.{Made}
use Rattle.signal_core.specs.Seats.{about_of}
use Rattle.proc_signal.specs.Signals.{went, Told, telling}
use Rattle.proc_signal.proofs.tell_everybody.Given as goal

abbrev pub invariant-loop-q : goal.invariant-loop-q
invariant-loop-q g l = (l.seat.table_id ≡ l.fn.seat.table_id) × (l.seat.id ≡ l.fn.seat.id)
    × ((more : List Made) × Told l.q more × (l.seat.view ≡ record (went l.fn.seat.view more l.fn.seat.view.slot l.fn.seat.view.emissions) { place = telling (about_of l.table) l.q }))
