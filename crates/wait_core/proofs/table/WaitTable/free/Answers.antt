use Rattle.std.proofs.Common.{arith, rules, ◌<◌, ◌+◌, ℕ, ap, sym, ◌∙◌, subst}
use Rattle.wait_core.specs.Seats.{IsSeated, size_of}
use Rattle.wait_core.specs.Sending.{SendsHome}
use Rattle.wait_core.specs.Words.{byte_at, client_base}
use Rattle.wait_core.specs.Machine.{Allowed, Permits}
use Rattle.wait_core.specs.Seating.{party_of}
use Rattle.wait_core.specs.Barriers.{waits_at}
use Rattle.wait_core.specs.Told.{TellsBarrier}
use Rattle.wait_core.proofs.Asks.{step_turns}
use Rattle.wait_core.proofs.RuleKept.{word_below}
use Rattle.wait_core.proofs.SeatLemmas.{freed_slot, freeing_suits, seated_filled, filled_slot, allowed_still, seated_after}
use Rattle.wait_core.proofs.table.WaitTable.free.Goals as goal

pub exchange-requires : goal.exchange-requires
exchange-requires g c = (
  search rules,
  freed_slot (size_of c.args.self.now) c.seat.inside.seat _ _ c.args.step _ c.seat.invariant (subst (λ v. Allowed (size_of c.args.self.now) c.args.step v.view) (sym c.seat.view_is) c.requires.place) c.requires.step c.slot-slot.ensures,
)

pub make-old-requires-clause-table : goal.make-old-requires-clause-table
make-old-requires-clause-table g c κs within =
    let t = c.args.self.now in
    let seat = c.seat.inside.seat in
    let id = ap (λ (v : _). v.table_id) c.seat.view_is ∙ c.requires.table in
    let ok = subst (λ v. Allowed (size_of t) c.args.step v.view) (sym c.seat.view_is) c.requires.place in
    let mine = subst (λ x. Permits (size_of t) c.args.step x seat.me.0.target seat.me.0.place) c.seat.invariant.own ok in (
      c.exchange.ensures.0 ∙ id,
      subst (λ (n : ℕ). n < t.table_id.words) (sym c.step_word-word.ensures)
          (word_below (size_of t) c.seat.inside.number c.self.inside.about.count t.table_id.words c.args.step (let few = c.self.invariant.1.cvs in let same = ap (λ v. v.cvs) c.self.view_is in omega arith) seat.me.0.target seat.me.0.place (subst (λ v. byte_at c.seat.inside.number < v.words) id c.seat.invariant.inside)
          (ap (λ v. v.table_id.words) (sym c.self.view_is) ∙ (c.self.invariant.1.words ∙ ap (λ v. client_base (size_of v) + c.self.inside.about.count) c.self.view_is)) mine),
    )

pub make-old-requires-clause-told : goal.make-old-requires-clause-told
make-old-requires-clause-told g c κs within =
    let t = c.args.self.now in
    let z = size_of t in
    let s = c.seat.inside.seat in
    let u = c.exchange.new.seat in
    let ok = subst (λ v. Allowed z c.args.step v.view) (sym c.seat.view_is) c.requires.place in
    let home = subst (λ v. SendsHome c.args.step v) (sym c.seat.view_is) c.requires.hand in
    let laws = g.met.P.Party g.world.𝓛 g.world.𝓜 g.world.𝓡 ((λ s x. x), (λ x. x), (λ x. x), λ x. x) in
    step_turns (g.P.Party.means t.party) z t.phase (g.P.Party.word_count t.party) (record { enter = laws.enter_keeps t.party; notice = laws.notice_keeps t.party; elect = laws.elect_keeps t.party; pass = laws.pass_keeps t.party; leave = laws.leave_keeps t.party }) t.table_id.slots u.id u.me c.step_word-word.result c.seat.inside.number c.args.step c.op.result c.step_word-word.ensures c.op.ensures
    (seated_filled z s _ _ c.args.step _ c.seat.invariant ok c.requires.step c.slot-slot.ensures u _ c.exchange.ensures.0 c.exchange.ensures.3).own
    (allowed_still z s _ _ c.args.step _ c.seat.invariant ok c.requires.step c.slot-slot.ensures u _ c.exchange.ensures.0 c.exchange.ensures.3)
    (freeing_suits (g.P.Party.means t.party) c.args.step u.me.0 c.requires.step)
    (filled_slot z s _ _ c.args.step _ c.seat.invariant ok c.requires.step c.slot-slot.ensures u _ c.exchange.ensures.0 c.exchange.ensures.3 c.seat.inside.list.items.items c.seat.inside.found (search rules) home)

pub invariant_of-seat : goal.invariant_of-seat
invariant_of-seat g c =
    let z = size_of c.args.self.now in
    let s = c.seat.inside.seat in
    let u = c.exchange.new.seat in
    let ok = subst (λ v. Allowed z c.args.step v.view) (sym c.seat.view_is) c.requires.place in
    subst (IsSeated c.make-old.new.seat c.seat.inside.number) (sym c.target_then-seat-inside.ensures)
    (seated_after z (let t = c.args.self.now in TellsBarrier (g.P.Party.means t.party) (size_of t) t.phase (g.P.Party.word_count t.party) c.args.step u.id (waits_at u.me.0.place) (party_of u.me.0)) u c.make-old.new.seat c.seat.inside.number c.seat.inside.target c.args.step c.make-old.result
    (seated_filled z s _ _ c.args.step _ c.seat.invariant ok c.requires.step c.slot-slot.ensures u _ c.exchange.ensures.0 c.exchange.ensures.3)
    (allowed_still z s _ _ c.args.step _ c.seat.invariant ok c.requires.step c.slot-slot.ensures u _ c.exchange.ensures.0 c.exchange.ensures.3)
    c.make-old.ensures.table.0 c.make-old.ensures.told)
