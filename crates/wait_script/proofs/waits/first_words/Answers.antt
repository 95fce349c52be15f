use Rattle.std.proofs.Common.{◌≡◌, ◌∙◌, ◌++◌, ◌==◌, ℕ, cond, [], ◌∷◌, List, map, sym, ap, arith}
use Rattle.std.specs.List.{range_with_len}
use Rattle.std.proofs.lemmas.List.FromFn.{map-range_with_len_more}
use Rattle.wait_core.specs.Words.{client_base}
use Rattle.wait_script.proofs.waits.first_words.Goals as goal

pub words-preserved : goal.words-preserved
words-preserved c =
    let f : ℕ → ℕ = λ i. cond (i == 0) c.args.size.procs 0 in
    let more = map-range_with_len_more f 0 c.words.word c.words.word (omega arith) in
    c.in_ok-push.ensures.items ∙ ap (λ (x : ℕ). c.words.words.items ++ x ∷ []) c.first_word.ensures ∙ ap (λ (t : List ℕ). t ++ f c.words.word ∷ []) c.words.invariant ∙ sym more

pub returns : goal.returns
returns c =
    let f : ℕ → ℕ = λ i. cond (i == 0) c.args.size.procs 0 in
    let all : c.words.word ≡ client_base c.args.size = omega arith in
    c.words.invariant ∙ ap (λ (n : ℕ). map f (range_with_len 0 n)) all
