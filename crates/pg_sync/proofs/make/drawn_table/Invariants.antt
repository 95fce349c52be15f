use Rattle.std.proofs.Common.{◌≡◌}
use Rattle.pg_sync.specs.Make.{state_after, states_after}
use Rattle.pg_sync.proofs.MakeFacts.{drawing, drawn_records}
use Rattle.pg_sync.proofs.make.drawn_table.Given as goal

abbrev pub invariant-draws : goal.invariant-draws
invariant-draws l = record {
  built : l.builder ≡ drawing (drawn_records l.keys (states_after l.start l.drawn));
  state : l.state ≡ state_after l.start l.drawn;
}
