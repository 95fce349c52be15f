use Rattle.std.proofs.Common.{rules}
use Rattle.lw_core.specs.Closing.{size_of}
use Rattle.lw_core.proofs.SeatLemmas.{allowed_in, seated_taken, seated_emptied, taken_slot}
use Rattle.lw_core.proofs.table.LwTable.take_list.Goals as goal

pub exchange-seat-inside-requires : goal.exchange-seat-inside-requires
exchange-seat-inside-requires g c = (
  search rules,
  taken_slot g.G.Guarded.lawful (size_of c.args.self.now) c.seat.inside.seat c.make-old.new.seat _ _ _ _ _ c.args.step c.make-old.result c.requires.step c.seat.invariant
      (allowed_in g.G.Guarded.lawful c.args.step c.seat.inside.seat _ _ c.seat.view_is c.requires.allowed) c.number-slot.ensures.number c.make-old.ensures.table.0 c.make-old.ensures.told c.if-old-eq0.true,
)

pub invariant_of-seat : goal.invariant_of-seat
invariant_of-seat g c =
    seated_emptied g.G.Guarded.lawful (size_of c.args.self.now) c.seat.inside.seat c.make-old.new.seat _ _ _ _ _ c.args.step c.make-old.result c.requires.step c.seat.invariant
    (allowed_in g.G.Guarded.lawful c.args.step c.seat.inside.seat _ _ c.seat.view_is c.requires.allowed) c.number-slot.ensures.number c.make-old.ensures.table.0 c.make-old.ensures.told
    c.exchange-seat-inside.new.seat c.new.result c.if-old-eq0.true c.exchange-seat-inside.ensures.0 c.exchange-seat-inside.ensures.3

pub invariant_of-seat-else-old-eq0 : goal.invariant_of-seat-else-old-eq0
invariant_of-seat-else-old-eq0 g c =
    seated_taken g.G.Guarded.lawful (size_of c.args.self.now) c.seat.inside.seat c.make-old.new.seat _ _ _ _ _ c.args.step c.make-old.result c.requires.step c.seat.invariant
    (allowed_in g.G.Guarded.lawful c.args.step c.seat.inside.seat _ _ c.seat.view_is c.requires.allowed) c.number-slot.ensures.number c.make-old.ensures.table.0 c.make-old.ensures.told
