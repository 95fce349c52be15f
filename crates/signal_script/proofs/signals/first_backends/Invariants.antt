use Rattle.std.proofs.Common.{◌≡◌, map}
use Rattle.std.specs.List.{range_with_len}
use Rattle.signal_script.specs.SignalSketch.{idle}
use Rattle.signal_script.proofs.signals.first_backends.Given as goal

abbrev pub invariant-backends : goal.invariant-backends
invariant-backends l = l.backends.items ≡ map (λ _. idle) (range_with_len 0 l.backend)
