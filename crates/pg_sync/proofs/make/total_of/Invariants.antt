use Rattle.std.proofs.Common.{◌≡◌, take}
use Rattle.std.specs.Prelude.{fold}
use Rattle.pg_sync.specs.Make.{add_pair}
use Rattle.pg_sync.proofs.make.total_of.Given as goal

abbrev pub invariant-pairs : goal.invariant-pairs
invariant-pairs l = l.total ≡ fold add_pair 0 (take l.pair-index l.pairs)
