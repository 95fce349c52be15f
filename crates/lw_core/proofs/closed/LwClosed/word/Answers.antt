use Rattle.std.proofs.Common.{slice_index, ℕ, List, ap, sym, ◌∙◌}
use Rattle.std.specs.Slots.{slots_items}
use Rattle.lw_core.specs.Words.{guard_at}
use Rattle.seat_roster.proofs.Stretches.{index_at}
use Rattle.lw_core.proofs.closed.LwClosed.word.Goals as goal

pub returns : goal.returns
returns c = let xs : List ℕ = slots_items c.self.inside.closed.words in sym (index_at xs c.guarded_word.result _ c.word.ensures) ∙ (ap (slice_index xs) c.guarded_word.ensures ∙ ap (λ v. slice_index v.words (guard_at c.args.lock c.args.at)) c.self.view_is)
