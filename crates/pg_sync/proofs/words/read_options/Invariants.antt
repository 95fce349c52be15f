use Rattle.std.proofs.Common.{◌≡◌, map, length, string_bytes}
use Rattle.pg_sync.specs.Words.{IsPlan, plan_of, options_at, no_options, read_options}
use Rattle.pg_sync.proofs.words.read_options.Given as goal

abbrev pub invariant-options : goal.invariant-options
invariant-options l = record {
  reads : read_options (options_at l.given) (map string_bytes l.left) ≡ read_options no_options (map string_bytes l.initial.left);
  plan : IsPlan (plan_of (options_at l.given));
}

abbrev pub decreases-options : goal.decreases-options
decreases-options l = length l.left
