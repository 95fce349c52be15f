use Rattle.std.proofs.Common.{◌≡◌, ◌∙◌, ◌++◌, ◌+◌, List, ℕ, [], drop, get_or, sym, ap, append_assoc, append-nil, arith}
use Rattle.lock_script.specs.Locks.{changed_word}
use Rattle.script_play.specs.Texts.{texts_of}
use Rattle.script_play.proofs.TextFacts.{texts-more, texts-none}
use Rattle.lock_script.proofs.texts.push_changed.Goals as goal

pub words-preserved : goal.words-preserved
words-preserved c =
    let text = changed_word c.args.size in
    let ws = c.args.words.now in
    let w = c.words.word in
    let rest = texts_of text (drop (w + 1) ws) (w + 1) in
    c.words.invariant ∙ ap (λ (t : List ℕ). c.words.out.items ++ t) (texts-more text ws w w 0 c.words-test.true)
    ∙ sym (append_assoc c.words.out.items (changed_word c.args.size w (get_or ws w 0)) rest) ∙ ap (λ (t : List ℕ). t ++ rest) (sym c.in_ok-push_changed_word.ensures)

pub returns : goal.returns
returns c =
    let none : texts_of (changed_word c.args.size) (drop c.words.word c.args.words.now) c.words.word ≡ [] = texts-none (changed_word c.args.size) c.args.words.now c.words.word c.words.word (omega arith) in
    sym (c.words.invariant ∙ rw none (append-nil c.words.out.items))
