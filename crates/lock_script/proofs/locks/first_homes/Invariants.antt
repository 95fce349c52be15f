use Rattle.std.proofs.Common.{◌≡◌, map, []}
use Rattle.std.specs.List.{range_with_len}
use Rattle.lock_script.proofs.locks.first_homes.Given as goal

abbrev pub invariant-locks : goal.invariant-locks
invariant-locks l = map (λ h. h.items) l.homes.items ≡ map (λ _. []) (range_with_len 0 l.lock)
