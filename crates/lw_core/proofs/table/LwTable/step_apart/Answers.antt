use Rattle.lw_core.specs.Closing.{size_of}
use Rattle.lw_core.proofs.SeatLemmas.{allowed_in, seated_after, holds_long}
use Rattle.lw_core.proofs.table.LwTable.step_apart.Goals as goal

pub invariant_of-seat : goal.invariant_of-seat
invariant_of-seat g c =
    seated_after g.G.Guarded.lawful (size_of c.args.self.now) c.seat.inside.seat c.make-old.new.seat _ _ _ _ _ c.args.step c.make-old.result c.seat.invariant
    (allowed_in g.G.Guarded.lawful c.args.step c.seat.inside.seat _ _ c.seat.view_is c.requires.allowed) c.make-old.ensures.table.0 c.make-old.ensures.told c.keep_mode.ensures c.pokes.ensures

pub returns-clause-holds : goal.returns-clause-holds
returns-clause-holds g c = holds_long c.make-old.new.seat c.seat.inside.number _ _ (invariant_of-seat g c)
