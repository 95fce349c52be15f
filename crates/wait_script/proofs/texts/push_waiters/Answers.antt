use Rattle.std.proofs.Common.{◌≡◌, ◌∙◌, ◌++◌, ◌+◌, List, ℕ, [], drop, get_or, sym, ap, append_assoc, append-nil, arith}
use Rattle.wait_script.specs.Waits.{waiter_text}
use Rattle.script_play.specs.Texts.{texts_of}
use Rattle.script_play.proofs.TextFacts.{texts-more, texts-none}
use Rattle.wait_script.proofs.texts.push_waiters.Goals as goal

pub waiters-preserved : goal.waiters-preserved
waiters-preserved c =
    let ws = c.args.list.now in
    let w = c.waiters.at in
    let rest = texts_of waiter_text (drop (w + 1) ws) (w + 1) in
    c.waiters.invariant ∙ ap (λ (t : List ℕ). c.waiters.out.items ++ t) (texts-more waiter_text ws w w 0 c.waiters-test.true)
    ∙ sym (append_assoc c.waiters.out.items (waiter_text w (get_or ws w 0)) rest) ∙ ap (λ (t : List ℕ). t ++ rest) (sym (c.in_ok-push_waiter.ensures w))

pub returns : goal.returns
returns c =
    let none : texts_of waiter_text (drop c.waiters.at c.args.list.now) c.waiters.at ≡ [] = texts-none waiter_text c.args.list.now c.waiters.at c.waiters.at (omega arith) in
    sym (c.waiters.invariant ∙ rw none (append-nil c.waiters.out.items))
