use Rattle.std.proofs.Common.{◌≡◌, map}
use Rattle.std.specs.Prelude.{All}
use Rattle.std.specs.List.{range_with_len}
use Rattle.lock_script.specs.LockSketch.{BackendFits, idle, stand_of}
use Rattle.lock_script.proofs.locks.first_backends.Given as goal

abbrev pub invariant-backends : goal.invariant-backends
invariant-backends l = record {
  stands : map stand_of l.backends.items ≡ map (λ _. idle) (range_with_len 0 l.backend);
  fits : All (BackendFits l.size) l.backends.items;
}
