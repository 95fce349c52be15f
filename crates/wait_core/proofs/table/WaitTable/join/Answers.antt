use Rattle.std.proofs.Common.{rules, arith, ap, ◌∙◌}
use Rattle.wait_core.specs.Seating.{took_in, spent_view}
use Rattle.wait_core.specs.Told.{Glues}
use Rattle.seat_roster.proofs.Stretches.{for_same}
use Rattle.wait_core.specs.Stances.{hand_at}
use Rattle.wait_core.proofs.Asks.{glues_allowed}
use Rattle.wait_core.proofs.SeatLemmas.{no_slot}
use Rattle.wait_core.proofs.table.WaitTable.join.Goals as goal

pub join_seat-requires : goal.join_seat-requires
join_seat-requires g c =
    let into = c.into.inside.seat in
    let from = c.from.inside.seat in
    let about = c.self.inside.about in
    let still = ap (λ (t : _). t.view.place) c.from.view_is ∙ c.requires.free.0 in
    let wide = c.self.invariant.1.words in
    let laws = g.met.P.Party g.world.𝓛 g.world.𝓜 g.world.𝓡 ((λ s x. x), (λ x. x), (λ x. x), λ x. x) in (
      search rules,
      search rules,
      no_slot (hand_at from.me.0.place) from.me.1 c.from.invariant.carries (ap hand_at still),
      omega arith,
      for_same _ _ c.self.invariant.0 (λ a. Glues (g.P.Party.means a.party) a.size a.phase a.count into.id into.me.0 from.id from.me.0 (took_in g.P.Party.both into.me.0 from.me.0) (spent_view g.P.Party.spent))
          (glues_allowed (g.P.Party.means about.party) about.size about.phase about.count into.id into.me.0 c.into.inside.number c.into.invariant.own (ap (λ (t : _). t.view.place) c.into.view_is ∙ c.requires.into) from.id from.me.0
          still (ap (λ (t : _). t.view.target) c.from.view_is ∙ c.requires.free.1, ap (λ (t : _). t.view.attached) c.from.view_is ∙ c.requires.free.2) c.from.invariant.settled g.P.Party.both g.P.Party.spent
          (λ words views phases kept at. laws.join_keeps about.party words views phases _ _ _ _ kept at)),
    )
