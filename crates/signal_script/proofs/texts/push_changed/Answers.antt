use Rattle.std.proofs.Common.{◌≡◌, ◌∙◌, ◌++◌, ◌+◌, List, ℕ, [], drop, get_or, sym, ap, append_assoc, append-nil, arith}
use Rattle.signal_script.specs.Signals.{changed_word, changed_words}
use Rattle.signal_script.proofs.KindFacts.{changed_words-more, changed_words-none}
use Rattle.signal_script.proofs.texts.push_changed.Goals as goal

pub words-preserved : goal.words-preserved
words-preserved c =
    let z = c.args.about in
    let ws = c.args.words.now in
    let w = c.words.word in
    let rest = changed_words z (drop (w + 1) ws) (w + 1) in
    c.words.invariant ∙ ap (λ (t : List ℕ). c.words.out.items ++ t) (changed_words-more z ws w w c.words-test.true)
    ∙ sym (append_assoc c.words.out.items (changed_word z (get_or ws w 0) w) rest) ∙ ap (λ (t : List ℕ). t ++ rest) (sym c.in_ok-push_changed_word.ensures)

pub returns : goal.returns
returns c =
    let none : changed_words c.args.about (drop c.words.word c.args.words.now) c.words.word ≡ [] = changed_words-none c.args.about c.args.words.now c.words.word c.words.word (omega arith) in
    sym (c.words.invariant ∙ rw none (append-nil c.words.out.items))
