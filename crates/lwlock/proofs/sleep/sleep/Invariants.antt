use Rattle.std.proofs.Common.{◌≡◌, ◌+◌}
use Rattle.semaphore.specs.Calls.{StoresNone}
use Rattle.lw_core.specs.Programs.{BeginsNone}
use Rattle.lwlock.specs.Calls.{WentWith}
use Rattle.lwlock.proofs.sleep.sleep.Given as goal

abbrev pub invariant-loop : goal.invariant-loop
invariant-loop g l = record {
  table : (l.seat.table_id ≡ l.fn.seat.table_id) × (l.seat.id ≡ l.fn.seat.id);
  view : WentWith l.fn.seat.view.place (l.fn.seat.view.surplus + l.surplus) l.fn.seat.view l.seat.view;
  stores : StoresNone l.fn.seat.view l.seat.view;
  program : BeginsNone l.fn.seat.view l.seat.view;
}
