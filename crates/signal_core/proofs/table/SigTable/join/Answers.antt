use Rattle.std.proofs.Common.{rules, arith, ap, sym, ◌≡◌, ◌∙◌, Option, Some, None, ℕ}
use Rattle.signal_core.specs.Seating.{took_in, spent_view}
use Rattle.signal_core.specs.Told.{Glues}
use Rattle.seat_roster.proofs.Stretches.{for_same}
use Rattle.signal_core.proofs.Asks.{glues_allowed}
use Rattle.signal_core.proofs.table.SigTable.join.Goals as goal

some_none : (o : Option ℕ) (n : ℕ) → o ≡ Some n → o ≡ None → ⊥
some_none o n a b = let e : Some n ≡ None = sym a ∙ b in absurd (cc)

pub join_seat-requires : goal.join_seat-requires
join_seat-requires g c =
    let into = c.into.inside.seat in
    let from = c.from.inside.seat in
    let wide = c.self.invariant.1 in (
      search rules,
      search rules,
      c.from.invariant.0,
      omega arith,
      for_same _ _ c.self.invariant.0 (λ a. Glues g.K.Kinds.shows a into.id into.me.0 from.id from.me.0 (took_in into.me.0 from.me.0) spent_view)
          (glues_allowed g.K.Kinds.shows c.self.inside.about into.id into.me.0 from.id from.me.0 (some_none _ _ c.into.invariant.1)
          (ap (λ (t : _). t.view.place) c.from.view_is ∙ c.requires.free.0) (ap (λ (t : _). t.view.slot) c.from.view_is ∙ c.requires.free.1) c.from.invariant.2),
    )
