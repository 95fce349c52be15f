use Rattle.std.proofs.Common.{◌∙◌, ◌++◌, [], ◌∷◌, List, sym, ap, arith}
use Rattle.std.proofs.lemmas.List.FromFn.{map-range_with_len_more}
use Rattle.signal_script.specs.declared.signals.Backend.{Backend}
use Rattle.signal_script.specs.SignalSketch.{idle}
use Rattle.signal_script.proofs.signals.first_backends.Goals as goal

pub backends-preserved : goal.backends-preserved
backends-preserved c =
    let more = map-range_with_len_more (λ _. idle) 0 c.backends.backend c.backends.backend (omega arith) in
    c.in_ok-push.ensures.items ∙ ap (λ (t : List Backend). t ++ idle ∷ []) c.backends.invariant ∙ sym more
