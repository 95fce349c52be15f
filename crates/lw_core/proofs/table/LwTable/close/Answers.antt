use Rattle.std.proofs.Common.{ℕ, ◌<◌, ◌^◌, List, length, slice_index, ap, sym, subst, ◌∙◌}
use Rattle.lw_core.specs.Words.{state_at, word_count}
use Rattle.lw_core.proofs.table.LwTable.close.Goals as goal

pub invariant_of-result : goal.invariant_of-result
invariant_of-result g c = let f = c.close_with.ensures.values.2 in let rule = f.1.0 in let key = c.self.invariant.keyed in (
  record {
    long = ap length (sym f.2) ∙ (rule.sized.long ∙ ap word_count key);
    states = λ l below. subst (λ (ws : List ℕ). slice_index ws (state_at l) < 2 ^ 32) f.2 (rule.counts l (subst (λ (n : ℕ). l < n) (ap (λ z. z.locks) (sym key)) below)).fits;
  },
  c.close_with.ensures.values.0,
  c.close_with.ensures.values.1,
)
