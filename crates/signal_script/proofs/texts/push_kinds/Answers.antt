use Rattle.std.proofs.Common.{◌≡◌, ◌∙◌, ◌++◌, ℕ, List, ap, append_assoc, arith}
use Rattle.std.specs.Int.{bit_at}
use Rattle.signal_script.specs.Signals.{kinds_text}
use Rattle.signal_script.proofs.KindFacts.{kinds_in-all, kinds_text-more}
use Rattle.signal_script.proofs.texts.push_kinds.Goals as goal

pub kinds-preserved : goal.kinds-preserved
kinds-preserved c = rw (kinds_text-more (bit_at c.args.found) c.kinds.kind, ← append_assoc, ← c.kinds.invariant) c.in_ok-push_kind.ensures

pub returns : goal.returns
returns c =
    let e : c.kinds.kind ≡ 32 = omega (arith, c.kinds-test.false) in
    c.kinds.invariant ∙ ap (λ (ks : List ℕ). c.args.out.now.items ++ kinds_text ks) (kinds_in-all c.args.found c.kinds.kind e)
