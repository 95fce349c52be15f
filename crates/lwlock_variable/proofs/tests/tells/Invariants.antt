use Rattle.std.proofs.Common.{◌≡◌, [], drop}
use Rattle.lw_core.specs.Machine.{telling}
use Rattle.lwlock.specs.Calls.{Went}
use Rattle.lwlock_variable.proofs.tests.tells.Given as goal

abbrev pub invariant-loop-waiter : goal.invariant-loop-waiter
invariant-loop-waiter g l = record {
  table : l.seat.table_id ≡ l.fn.seat.table_id;
  view : Went (telling (drop l.waiter-index l.waiter-items) []) l.fn.seat.view l.seat.view;
}
