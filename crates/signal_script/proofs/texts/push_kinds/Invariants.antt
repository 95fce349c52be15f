use Rattle.std.proofs.Common.{◌≡◌, ◌++◌}
use Rattle.std.specs.Int.{bit_at}
use Rattle.signal_core.specs.Machine.{kinds_below}
use Rattle.signal_script.specs.Signals.{kinds_text}
use Rattle.signal_script.proofs.texts.push_kinds.Given as goal

abbrev pub invariant-kinds : goal.invariant-kinds
invariant-kinds l = l.out.items ≡ l.initial.out.items ++ kinds_text (kinds_below l.kind (bit_at l.found))
