use Rattle.std.proofs.Common.{◌≡◌, ◌-◌}
use Rattle.signal_script.specs.Signals.{lowest}
use Rattle.signal_script.proofs.steps.lowest.Given as goal

abbrev pub invariant-kinds : goal.invariant-kinds
invariant-kinds l = lowest l.failed (32 - l.initial.done) ≡ lowest l.failed (32 - l.kind)
