use Rattle.std.proofs.Common.{◌∙◌, ◌++◌, ◌==◌, ℕ, cond, [], ◌∷◌, List, sym, ap, arith}
use Rattle.std.proofs.lemmas.List.FromFn.{map-range_with_len_more}
use Rattle.signal_core.specs.Words.{opened}
use Rattle.signal_script.proofs.signals.first_words.Goals as goal

pub words-preserved : goal.words-preserved
words-preserved c =
    let f : ℕ → ℕ = λ i. cond (i == 0) c.args.about.procs (opened c.args.about i) in
    let more = map-range_with_len_more f 0 c.words.word c.words.word (omega arith) in
    c.in_ok-push.ensures.items ∙ ap (λ (x : ℕ). c.words.words.items ++ x ∷ []) c.first_word.ensures ∙ ap (λ (t : List ℕ). t ++ f c.words.word ∷ []) c.words.invariant ∙ sym more
