use Rattle.std.proofs.Common.{◌≡◌, length}
use Rattle.pg_sync.proofs.counters.counters.Given as goal

abbrev pub invariant-counters : goal.invariant-counters
invariant-counters g l = length l.counters.items ≡ l.made
