use Rattle.std.proofs.Common.{rules, ap, ◌∙◌, arith}
use Rattle.lw_core.specs.Machine.{mode_in}
use Rattle.lw_core.specs.Stances.{hand_at}
use Rattle.lw_core.specs.Told.{lock_in_hand}
use Rattle.lw_core.proofs.Asks.{joins_allowed}
use Rattle.lw_core.proofs.SeatLemmas.{no_slot}
use Rattle.lw_core.proofs.table.LwTable.join.Goals as goal

pub join_seat-requires : goal.join_seat-requires
join_seat-requires g c = let wide = c.self.invariant.words in (
  search rules,
  search rules,
  no_slot (hand_at c.from.inside.seat.me.0.place) c.from.inside.seat.me.1 c.from.invariant.carries (ap (λ t. lock_in_hand (hand_at t.view.place)) c.from.view_is ∙ ap (λ p. lock_in_hand (hand_at p)) c.requires.idle),
  omega arith,
  joins_allowed g.G.Guarded.lawful _ _ _ _ _ c.from.invariant.settled (ap (λ t. t.view.place) c.from.view_is ∙ c.requires.idle) (λ l. ap (λ t. mode_in l t.view) c.from.view_is ∙ c.requires.empty l),
)
