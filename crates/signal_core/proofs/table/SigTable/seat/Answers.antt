use Rattle.std.proofs.Common.{rules, ◌+◌, ◌%◌, ◌^◌, arith, ap, ◌∙◌}
use Rattle.atomic_table.specs.Table.{step}
use mathlib.Core.Option.{none}
use Rattle.signal_core.specs.Seating.{stays, comes}
use Rattle.signal_core.specs.Seats.{about_of}
use Rattle.signal_core.specs.Told.{Turns, Cuts, draws}
use Rattle.seat_roster.proofs.Stretches.{for_same}
use Rattle.signal_core.proofs.Asks.{looks_allowed, draws_allowed, cuts_allowed}
use Rattle.signal_core.proofs.table.SigTable.seat.Goals as goal

pub make-next-requires-clause-told : goal.make-next-requires-clause-told
make-next-requires-clause-told g c =
    let t = c.args.self.now in
    let seat = c.from.inside.seat in
    looks_allowed g.K.Kinds.shows (about_of t) t.table_id.slots seat.id seat.me

pub fetch_add-requires : goal.fetch_add-requires
fetch_add-requires g c =
    let seat = c.make-next.new.seat in
    let wide = c.self.invariant.1 in
    let is = c.make-next.ensures.told.0 in
    let zero_is = ap (λ (t : _). t.view.own) c.from.view_is ∙ c.requires.first in (
      search rules,
      omega arith,
      for_same _ _ c.self.invariant.0 (λ a. Turns g.K.Kinds.shows a c.self.inside.table.shared.table_id.slots seat.id seat.me 0 (λ n. (n + 1) % 2 ^ 64) (draws (step 0 0 0 0 none) seat.me))
          (draws_allowed g.K.Kinds.shows c.self.inside.about c.self.inside.table.shared.table_id.slots seat.id seat.me (step 0 0 0 0 none) (λ n. (n + 1) % 2 ^ 64)
          (ap (λ v. v.own) is ∙ zero_is) (ap (λ v. v.pending) is ∙ c.from.invariant.2)
          (let found = c.make-next.ensures.told.2 zero_is in let same = ap (λ v. v.drawn) is in let few = c.from-2.ensures in let below = c.if-next-from.false in omega arith)
          (λ n small. omega arith)),
    )

pub split_seat-seat-requires : goal.split_seat-seat-requires
split_seat-seat-requires g c =
    let seat = c.fetch_add.new.seat in
    let wide = c.self.invariant.1 in (
      search rules,
      omega arith,
      for_same _ _ c.self.invariant.0 (λ a. Cuts g.K.Kinds.shows a seat.id seat.me.0 (stays seat.me.0) (comes seat.me.0))
          (cuts_allowed g.K.Kinds.shows c.self.inside.about seat.id seat.me.0 _ (ap (λ v. v.pending) c.fetch_add.ensures.2.0)),
    )
