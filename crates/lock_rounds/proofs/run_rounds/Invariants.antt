use Rattle.std.proofs.Common.{◌≡◌, [], None}
use Rattle.lw_core.specs.Machine.{mode_in}
use Rattle.lock_rounds.proofs.run_rounds.Given as goal

abbrev pub invariant-loop-round : goal.invariant-loop-round
invariant-loop-round g l = record {
  table : l.seat.table_id ≡ l.fn.seat.table_id;
  idle : (l.seat.view.place ≡ []) × (mode_in l.lock l.seat.view ≡ None);
}
