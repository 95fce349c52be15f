use Rattle.std.proofs.Common.{rules, ap, sym, ◌∙◌}
use Rattle.lw_core.specs.Machine.{next}
use Rattle.lw_core.specs.Closing.{size_of}
use Rattle.lw_core.proofs.SeatLemmas.{allowed_in, seated_sent, seated_failed, sent_view, failed_slot, holds_long}
use Rattle.lw_core.proofs.table.LwTable.send_list.Goals as goal

pub invariant_of-seat-else-not-exchanges : goal.invariant_of-seat-else-not-exchanges
invariant_of-seat-else-not-exchanges g c =
    seated_sent g.G.Guarded.lawful (size_of c.args.self.now) c.seat.inside.seat c.exchange.new.seat c.make-old.new.seat _ _ _ _ _ _ c.args.step c.make-old.result c.requires.step c.seat.invariant
    (allowed_in g.G.Guarded.lawful c.args.step c.seat.inside.seat _ _ c.seat.view_is c.requires.allowed) c.number-slot.ensures.number c.exchange.ensures.0 c.exchange.ensures.3 c.make-old.ensures.table.0 c.make-old.ensures.told

pub invariant_of-seat : goal.invariant_of-seat
invariant_of-seat g c =
    seated_failed g.G.Guarded.lawful (size_of c.args.self.now) c.seat.inside.seat c.exchange.new.seat c.make-old.new.seat _ _ _ _ _ _ c.args.step c.make-old.result c.requires.step c.seat.invariant
    (allowed_in g.G.Guarded.lawful c.args.step c.seat.inside.seat _ _ c.seat.view_is c.requires.allowed) c.number-slot.ensures.number c.exchange.ensures.0 c.exchange.ensures.3 c.make-old.ensures.table.0 c.make-old.ensures.told
    c.exchange-seat-inside.new.seat c.new-then-not-exchanges.result (sym c.exchanges.ensures ∙ c.if-not-exchanges.true) c.exchange-seat-inside.ensures.0 c.exchange-seat-inside.ensures.3

pub returns-else-not-exchanges-clause-holds : goal.returns-else-not-exchanges-clause-holds
returns-else-not-exchanges-clause-holds g c = holds_long c.make-old.new.seat c.seat.inside.number c.seat.inside.modes c.seat.inside.pokes (invariant_of-seat-else-not-exchanges g c)

pub exchange-seat-inside-requires : goal.exchange-seat-inside-requires
exchange-seat-inside-requires g c = (
  search rules,
  failed_slot g.G.Guarded.lawful (size_of c.args.self.now) c.seat.inside.seat c.exchange.new.seat c.make-old.new.seat _ _ _ _ _ _ c.args.step c.make-old.result c.requires.step c.seat.invariant
      (allowed_in g.G.Guarded.lawful c.args.step c.seat.inside.seat _ _ c.seat.view_is c.requires.allowed) c.number-slot.ensures.number c.exchange.ensures.0 c.exchange.ensures.3 c.make-old.ensures.table.0 c.make-old.ensures.told
      (sym c.exchanges.ensures ∙ c.if-not-exchanges.true),
)

pub returns-then-not-exchanges-clause-holds : goal.returns-then-not-exchanges-clause-holds
returns-then-not-exchanges-clause-holds g c = holds_long c.exchange-seat-inside.new.seat c.seat.inside.number c.seat.inside.modes c.seat.inside.pokes (invariant_of-seat g c)

pub returns-else-not-exchanges-clause-view : goal.returns-else-not-exchanges-clause-view
returns-else-not-exchanges-clause-view g c = sent_view g.G.Guarded.lawful (size_of c.args.self.now) c.seat.inside.seat c.exchange.new.seat c.make-old.new.seat _ _ _ _ _ _ c.args.step c.make-old.result c.requires.step c.seat.invariant
    (allowed_in g.G.Guarded.lawful c.args.step c.seat.inside.seat _ _ c.seat.view_is c.requires.allowed) c.number-slot.ensures.number c.exchange.ensures.0 c.exchange.ensures.3 c.make-old.ensures.table.0 c.make-old.ensures.told c.replace-list.new.dest.items
    ∙ ap (λ v. next c.args.step v.view c.make-old.result c.replace-list.new.dest.items) c.seat.view_is
