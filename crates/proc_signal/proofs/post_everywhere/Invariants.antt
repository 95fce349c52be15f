use Rattle.std.proofs.Common.{◌≡◌, List}
use Rattle.signal_core.specs.declared.view.Made.{Made}
use Rattle.signal_core.specs.Seats.{about_of}
use Rattle.proc_signal.specs.Signals.{went, Posted, posting}
use Rattle.proc_signal.proofs.post_everywhere.Given as goal

abbrev pub invariant-loop-q : goal.invariant-loop-q
invariant-loop-q g l = (l.seat.table_id ≡ l.fn.seat.table_id) × (l.seat.id ≡ l.fn.seat.id)
    × ((more : List Made) × Posted l.kind l.q more × (l.seat.view ≡ record (went l.fn.seat.view more l.fn.seat.view.slot l.fn.seat.view.emissions) { place = posting (about_of l.table) l.kind l.number l.q }))
