use Rattle.std.proofs.Common.{◌≡◌}
use Rattle.lw_core.specs.Programs.{BeginsNone}
use Rattle.lwlock.specs.Calls.{Went}
use Rattle.lwlock.specs.Wakes.{OnlyTook}
use Rattle.lwlock.proofs.queue.wait_for_list.Given as goal

abbrev pub invariant-loop : goal.invariant-loop
invariant-loop g l = record {
  table : (l.seat.table_id ≡ l.fn.seat.table_id) × (l.seat.id ≡ l.fn.seat.id);
  view : Went l.fn.seat.view.place l.fn.seat.view l.seat.view;
  program : BeginsNone l.fn.seat.view l.seat.view;
  took : OnlyTook l.fn.seat.view l.seat.view;
}
