use Rattle.std.proofs.Common.{rules, ◌≡◌, ◌∙◌, ℕ, ◌+◌, ◌≤◌, List, map, ap, arith, subst}
use Rattle.atomic_table.proofs.Lists.{at_map}
use Rattle.wait_core.specs.Seating.{party_of}
use Rattle.wait_core.proofs.SeatsKept.{few_drawn}
use Rattle.two_words.specs.Balance.{progress, added, Balanced}
use Rattle.two_words.specs.Laws.{two_done}
use Rattle.two_words.specs.declared.Progress.{Progress}
use Rattle.two_words.proofs.runs.two_turns.Goals as goal

pub returns : goal.returns
returns c =
    let ends = c.close-closed.ensures.ends in
    let views = ends.state.views in
    let zero : Progress = c.take_turn-2.new.seat.view.client in
    let one : Progress = c.take_turn.new.seat.view.client in
    let z : zero ≡ progress 0 0 1 = search rules in
    let o : one ≡ progress 0 0 1 = search rules in
    let v = c.join.new.into.view in
    let both : v.client ≡ added zero one = ap (λ w. w.client) c.join.ensures.view in
    let own : v.own ≡ Rattle.std.proofs.Common.Some 0 = search rules in
    let drawn : v.drawn ≡ 1 = search rules in
    let few = few_drawn _ _ _ _ ends.state ends.rule _ v ends.last own in
    let balanced = subst (λ (ws : List ℕ). Balanced ws (map party_of views)) ends.same ends.rule.client in
    let done = two_done _ (map party_of views) _ (party_of v) balanced (at_map party_of views _ v ends.last) (both ∙ (λ i. added (z i) (o i))) (omega arith) in
    (c.word.ensures ∙ done.0, c.word-2.ensures ∙ done.1)
