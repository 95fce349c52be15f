use Rattle.std.proofs.Common.{rules, ap, ◌∙◌, arith}
use Rattle.lw_core.proofs.Asks.{draws_allowed, splits_allowed}
use Rattle.lw_core.specs.Machine.{mode_in}
use Rattle.lw_core.specs.Told.{Sat}
use Rattle.lw_core.proofs.Touches.{fresh_mode}
use Rattle.lw_core.proofs.table.LwTable.seat.Goals as goal

pub fetch_add-requires : goal.fetch_add-requires
fetch_add-requires g c = let wide = c.self.invariant.words in let is = c.next_number-next.ensures.seat in let zero_is = ap (λ t. t.view.own) c.from.view_is ∙ c.requires.zero in (
  search rules,
  omega arith,
  draws_allowed g.G.Guarded.lawful _ _ _ _ (ap (λ (m : Sat). m.0.own) is ∙ zero_is) (ap (λ (m : Sat). m.0.pending) is ∙ c.from.invariant.settled)
      (let found = c.next_number-next.ensures.next in let same = ap (λ (m : Sat). m.0.drawn) is in let sized = ap (λ z. z.procs) c.self.invariant.keyed in omega arith),
)

pub split_seat-seat-requires : goal.split_seat-seat-requires
split_seat-seat-requires g c = let wide = c.self.invariant.words in (search rules, omega arith, splits_allowed g.G.Guarded.lawful _ _ _)

pub returns-clause-empty : goal.returns-clause-empty
returns-clause-empty g c = λ l. ap (λ t. mode_in l t.view) c.new-2.ensures ∙ (ap (λ (m : Sat). mode_in l m.0) c.split_seat-seat.ensures.4 ∙ fresh_mode c.fetch_add.new.seat.me.0.pending l)
