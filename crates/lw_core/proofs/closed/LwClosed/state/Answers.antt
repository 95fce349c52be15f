use Rattle.std.proofs.Common.{◌<◌, slice_index, ℕ, List, ap, sym, subst, ◌∙◌, arith}
use Rattle.std.specs.Slots.{slots_items}
use Rattle.lw_core.specs.Words.{state_at}
use Rattle.seat_roster.proofs.Stretches.{index_at}
use Rattle.lw_core.proofs.closed.LwClosed.state.Goals as goal

pub overflow_cast-result : goal.overflow_cast-result
overflow_cast-result c = let small = c.self.invariant.0.states c.args.lock (subst (λ (n : ℕ). c.args.lock < n) (ap (λ v. v.locks) (sym c.self.view_is)) c.requires) in
    let is = index_at (slots_items c.self.inside.closed.words) c.state_word.result _ c.word.ensures in let at = ap (slice_index (slots_items c.self.inside.closed.words)) c.state_word.ensures in omega arith

pub returns : goal.returns
returns c = let xs : List ℕ = slots_items c.self.inside.closed.words in sym (index_at xs c.state_word.result _ c.word.ensures) ∙ (ap (slice_index xs) c.state_word.ensures ∙ ap (λ v. slice_index v.words (state_at c.args.lock)) c.self.view_is)
