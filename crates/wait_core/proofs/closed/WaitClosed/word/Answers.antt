use Rattle.std.proofs.Common.{sym, ◌∙◌, ap, slice_index}
use Rattle.std.specs.Slots.{slots_items}
use Rattle.std.proofs.lemmas.List.{get_or-drop}
use Rattle.seat_roster.proofs.Stretches.{index_at}
use Rattle.wait_core.proofs.closed.WaitClosed.word.Goals as goal

pub returns : goal.returns
returns c = let it = c.self.inside in sym (index_at (slots_items it.closed.words) _ _ c.word.ensures) ∙ (sym (get_or-drop it.base (slots_items it.closed.words) c.args.at 0) ∙ ap (λ l. slice_index l c.args.at) c.self.view_is)
