use Rattle.hash_probe.proofs.Signals.{told_unheard, tells_now}
use Rattle.hash_probe.proofs.marks.tell_over.Goals as goal

pub returns-clause-tells : goal.returns-clause-tells
returns-clause-tells c = tells_now c.args.tables.now.signals.procs c.args.count c.args.seats.now.signal.view c.emit-generation.new.seat.view c.emit-generation.result c.emit-generation.ensures.emitted

pub returns-clause-unheard : goal.returns-clause-unheard
returns-clause-unheard c = told_unheard c.args.tables.now.signals.procs c.args.count c.args.seats.now.signal.view c.emit-generation.new.seat.view c.emit-generation.result c.emit-generation.ensures.emitted
