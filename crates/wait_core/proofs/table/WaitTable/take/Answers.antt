use Rattle.std.proofs.Common.{arith, rules, ◌<◌, ◌+◌, ℕ, ap, sym, ◌∙◌, subst}
use Rattle.wait_core.specs.Seats.{size_of}
use Rattle.wait_core.specs.Words.{byte_at, client_base}
use Rattle.wait_core.specs.Machine.{Allowed, Permits}
use Rattle.wait_core.specs.Barriers.{StepSuits, waits_at}
use Rattle.wait_core.specs.Seating.{party_of}
use Rattle.wait_core.specs.Told.{TellsBarrier}
use Rattle.wait_core.proofs.Asks.{step_turns}
use Rattle.wait_core.proofs.RuleKept.{word_below}
use Rattle.wait_core.proofs.SeatLemmas.{taking_slot, taken_slot, seated_emptied, seated_taken}
use Rattle.wait_core.proofs.table.WaitTable.take.Goals as goal

pub make-old-requires-clause-table : goal.make-old-requires-clause-table
make-old-requires-clause-table g c κs within =
    let t = c.args.self.now in
    let seat = c.seat.inside.seat in
    let id = ap (λ (v : _). v.table_id) c.seat.view_is ∙ c.requires.table in
    let ok = subst (λ v. Allowed (size_of t) c.args.step v.view) (sym c.seat.view_is) c.requires.place in
    let mine = subst (λ x. Permits (size_of t) c.args.step x seat.me.0.target seat.me.0.place) c.seat.invariant.own ok in (
      id,
      subst (λ (n : ℕ). n < t.table_id.words) (sym c.step_word-word.ensures)
          (word_below (size_of t) c.seat.inside.number c.self.inside.about.count t.table_id.words c.args.step (let few = c.self.invariant.1.cvs in let same = ap (λ v. v.cvs) c.self.view_is in omega arith) seat.me.0.target seat.me.0.place (subst (λ v. byte_at c.seat.inside.number < v.words) id c.seat.invariant.inside)
          (ap (λ v. v.table_id.words) (sym c.self.view_is) ∙ (c.self.invariant.1.words ∙ ap (λ v. client_base (size_of v) + c.self.inside.about.count) c.self.view_is)) mine),
    )

pub make-old-requires-clause-told : goal.make-old-requires-clause-told
make-old-requires-clause-told g c κs within =
    let t = c.args.self.now in
    let seat = c.seat.inside.seat in
    let laws = g.met.P.Party g.world.𝓛 g.world.𝓜 g.world.𝓡 ((λ s x. x), (λ x. x), (λ x. x), λ x. x) in
    step_turns (g.P.Party.means t.party) (size_of t) t.phase (g.P.Party.word_count t.party) (record { enter = laws.enter_keeps t.party; notice = laws.notice_keeps t.party; elect = laws.elect_keeps t.party; pass = laws.pass_keeps t.party; leave = laws.leave_keeps t.party }) t.table_id.slots seat.id seat.me c.step_word-word.result c.seat.inside.number c.args.step c.op.result c.step_word-word.ensures c.op.ensures c.seat.invariant.own
    (subst (λ v. Allowed (size_of t) c.args.step v.view) (sym c.seat.view_is) c.requires.place) (subst (λ v. StepSuits (g.P.Party.means t.party) c.args.step v.view) (sym c.seat.view_is) c.requires.client) (taking_slot (size_of t) c.args.step seat.me.0 seat.me.1 c.requires.step c.seat.invariant.carries)

pub exchange-kept-requires : goal.exchange-kept-requires
exchange-kept-requires g c = (
  search rules,
  taken_slot (size_of c.args.self.now) (let t = c.args.self.now in TellsBarrier (g.P.Party.means t.party) (size_of t) t.phase (g.P.Party.word_count t.party) c.args.step c.seat.inside.seat.id (waits_at c.seat.inside.seat.me.0.place) (party_of c.seat.inside.seat.me.0)) c.seat.inside.seat c.make-old.new.seat _ _ c.args.step c.make-old.result _ c.seat.invariant (subst (λ v. Allowed (size_of c.args.self.now) c.args.step v.view) (sym c.seat.view_is) c.requires.place)
      c.make-old.ensures.table.0 c.make-old.ensures.told c.requires.step c.slot-slot.ensures c.if-old-eq0.true,
)

pub invariant_of-seat : goal.invariant_of-seat
invariant_of-seat g c =
    seated_emptied (size_of c.args.self.now) (let t = c.args.self.now in TellsBarrier (g.P.Party.means t.party) (size_of t) t.phase (g.P.Party.word_count t.party) c.args.step c.seat.inside.seat.id (waits_at c.seat.inside.seat.me.0.place) (party_of c.seat.inside.seat.me.0)) c.seat.inside.seat c.make-old.new.seat _ _ c.args.step c.make-old.result _ c.seat.invariant (subst (λ v. Allowed (size_of c.args.self.now) c.args.step v.view) (sym c.seat.view_is) c.requires.place)
    c.make-old.ensures.table.0 c.make-old.ensures.told c.requires.step c.slot-slot.ensures c.exchange-kept.new.seat c.nothing.result c.if-old-eq0.true c.exchange-kept.ensures.0 c.exchange-kept.ensures.3

pub invariant_of-seat-else-old-eq0 : goal.invariant_of-seat-else-old-eq0
invariant_of-seat-else-old-eq0 g c =
    seated_taken (size_of c.args.self.now) (let t = c.args.self.now in TellsBarrier (g.P.Party.means t.party) (size_of t) t.phase (g.P.Party.word_count t.party) c.args.step c.seat.inside.seat.id (waits_at c.seat.inside.seat.me.0.place) (party_of c.seat.inside.seat.me.0)) c.seat.inside.seat c.make-old.new.seat _ _ c.args.step c.make-old.result _ c.seat.invariant (subst (λ v. Allowed (size_of c.args.self.now) c.args.step v.view) (sym c.seat.view_is) c.requires.place)
    c.make-old.ensures.table.0 c.make-old.ensures.told c.requires.step c.slot-slot.ensures
