use Rattle.std.proofs.Common.{◌≡◌, [], ◌++◌, List, drop}
use Rattle.lw_core.specs.declared.view.Made.{Made}
use Rattle.lw_core.specs.Machine.{telling}
use Rattle.lw_core.specs.Programs.{BeginsNone}
use Rattle.lwlock.specs.Calls.{went}
use Rattle.lwlock.specs.Wakes.{kinds, told_by}
use Rattle.lwlock.proofs.wake.tell.Given as goal

abbrev pub invariant-loop-waiter : goal.invariant-loop-waiter
invariant-loop-waiter g l = record {
  table : (l.seat.table_id ≡ l.fn.seat.table_id) × (l.seat.id ≡ l.fn.seat.id);
  view : (more : List Made) × ((l.seat.view ≡ went l.fn.seat.view (telling (drop l.waiter-index l.waiter-items) []) more) × (kinds more ++ told_by (drop l.waiter-index l.waiter-items) ≡ told_by l.waiter-items));
  program : BeginsNone l.fn.seat.view l.seat.view;
}
