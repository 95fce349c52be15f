use Rattle.std.proofs.Common.{◌≡◌, ◌<◌, ◌^◌}
use Rattle.lw_core.specs.Programs.{BeginsNone}
use Rattle.lwlock.specs.Calls.{WentWith}
use Rattle.lwlock_variable.specs.Waits.{queues}
use Rattle.lwlock_variable.proofs.rounds.wait.Given as goal

abbrev pub invariant-loop : goal.invariant-loop
invariant-loop g l = record {
  table : (l.seat.table_id ≡ l.fn.seat.table_id) × (l.seat.id ≡ l.fn.seat.id);
  small : l.surplus < 2 ^ 32;
  view : WentWith (queues l.lock l.old) l.surplus l.fn.seat.view l.seat.view;
  program : BeginsNone l.fn.seat.view l.seat.view;
}
