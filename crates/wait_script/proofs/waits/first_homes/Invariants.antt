use Rattle.std.proofs.Common.{◌≡◌, map}
use Rattle.std.specs.List.{range_with_len}
use Rattle.wait_script.specs.WaitScripts.{first_home}
use Rattle.wait_script.specs.WaitSketch.{kept_of}
use Rattle.wait_script.proofs.waits.first_homes.Given as goal

abbrev pub invariant-slots : goal.invariant-slots
invariant-slots l = map kept_of l.homes.items ≡ map (λ _. first_home l.opening.phase) (range_with_len 0 l.slot)
