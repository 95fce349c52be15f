use Rattle.std.proofs.Common.{rules, ◌+◌, ◌%◌, ◌^◌, arith, ap, ◌∙◌}
use Rattle.atomic_table.specs.Table.{step}
use mathlib.Core.Option.{none}
use Rattle.wait_core.specs.Seats.{size_of}
use Rattle.wait_core.specs.Told.{Turns, draws}
use Rattle.seat_roster.proofs.Stretches.{for_same}
use Rattle.wait_core.proofs.Asks.{looks_allowed, draws_allowed, cuts_allowed}
use Rattle.wait_core.proofs.table.WaitTable.seat.Goals as goal

pub make-next-requires-clause-told : goal.make-next-requires-clause-told
make-next-requires-clause-told g c κs within =
    let t = c.args.self.now in
    let seat = c.from.inside.seat in
    looks_allowed (g.P.Party.means t.party) (size_of t) t.phase (g.P.Party.word_count t.party) t.table_id.slots seat.id seat.me

pub fetch_add-requires : goal.fetch_add-requires
fetch_add-requires g c =
    let seat = c.make-next.new.seat in
    let about = c.self.inside.about in
    let wide = c.self.invariant.1.words in
    let is = c.make-next.ensures.told.0 in
    let zero_is = ap (λ (t : _). t.view.own) c.from.view_is ∙ c.requires.first in (
      search rules,
      omega arith,
      for_same _ _ c.self.invariant.0 (λ a. Turns (g.P.Party.means a.party) a.size a.phase a.count c.self.inside.table.shared.table_id.slots seat.id seat.me 0 (λ n. (n + 1) % 2 ^ 64) (draws (step 0 0 0 0 none) seat.me))
          (draws_allowed (g.P.Party.means about.party) about.size about.phase about.count c.self.inside.table.shared.table_id.slots seat.id seat.me (step 0 0 0 0 none) (λ n. (n + 1) % 2 ^ 64)
          (ap (λ v. v.own) is ∙ zero_is) (ap (λ v. v.pending) is ∙ c.from.invariant.settled)
          (let found = c.make-next.ensures.told.2 zero_is in let same = ap (λ v. v.drawn) is in let few = c.from-2.ensures in let below = c.if-next-from.false in omega arith)
          (λ n small. omega arith)),
    )

pub split-seat-requires-clause-rule : goal.split-seat-requires-clause-rule
split-seat-requires-clause-rule g c κs within =
    let t = c.args.self.now in
    let seat = c.fetch_add.new.seat in
    let laws = g.met.P.Party g.world.𝓛 g.world.𝓜 g.world.𝓡 ((λ s x. x), (λ x. x), (λ x. x), λ x. x) in
    cuts_allowed (g.P.Party.means t.party) (size_of t) t.phase (g.P.Party.word_count t.party) seat.id seat.me.0 _ (ap (λ v. v.pending) c.fetch_add.ensures.2.0) (g.P.Party.first t.party)
    (λ words views phases proc kept at. laws.draw_keeps t.party words views phases proc kept at)
