use Rattle.std.proofs.Common.{rules, arith, ◌≡◌, None, is_some, ap, sym, ◌∙◌, get_or}
use Rattle.lw_core.specs.Machine.{mode_in}
use Rattle.lw_core.proofs.SeatLemmas.{mode_at, held_nowhere}
use Rattle.lw_core.proofs.seat.LwSeat.holds_nothing.Goals as goal

pub returns-then-is_some : goal.returns-then-is_some
returns-then-is_some c = (
  λ no. absurd (cc),
  λ none. let free : get_or c.self.inside.modes c.loop-mode.mode-index None ≡ None = ap (λ m. get_or m c.loop-mode.mode-index None) c.self.invariant.modes_are
      ∙ (mode_at c.self.inside.seat.me.0.holds c.loop-mode.mode-index ∙ (ap (λ t. mode_in c.loop-mode.mode-index t.view) c.self.view_is ∙ none c.loop-mode.mode-index)) in
      sym (ap is_some free) ∙ (sym c.is_some.ensures ∙ c.if-is_some.true),
)

pub returns : goal.returns
returns c = (
  λ _ l. ap (λ t. mode_in l t.view) (sym c.self.view_is) ∙ (sym (mode_at c.self.inside.seat.me.0.holds l) ∙ (ap (λ m. get_or m l None) (sym c.self.invariant.modes_are)
      ∙ held_nowhere c.self.inside.modes c.loop-mode.mode-index (let long = c.self.invariant.long in omega arith) c.loop-mode.invariant l)),
  λ _. search rules,
)
