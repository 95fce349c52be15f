use Rattle.std.proofs.Common.{◌≡◌, ◌<◌, ◌^◌, List, Some}
use Rattle.lw_core.specs.declared.view.Made.{Made}
use Rattle.lw_core.specs.declared.view.Frame.TheVariants.{Trying}
use Rattle.lw_core.specs.Machine.{top, outer}
use Rattle.semaphore.specs.Calls.{StoresNone}
use Rattle.lw_core.specs.Programs.{BeginsNone}
use Rattle.lwlock.specs.Calls.{went}
use Rattle.lwlock.proofs.attempt.attempt.Given as goal

abbrev pub invariant-loop : goal.invariant-loop
invariant-loop g l = record {
  table : (l.seat.table_id ≡ l.fn.seat.table_id) × (l.seat.id ≡ l.fn.seat.id);
  word : l.word < 2 ^ 32;
  place : top l.seat.view.place ≡ Some (Trying l.lock l.mode l.word);
  outer : outer l.seat.view.place ≡ outer l.fn.seat.view.place;
  view : (more : List Made) × (l.seat.view ≡ went l.fn.seat.view l.seat.view.place more);
  stores : StoresNone l.fn.seat.view l.seat.view;
  program : BeginsNone l.fn.seat.view l.seat.view;
}
