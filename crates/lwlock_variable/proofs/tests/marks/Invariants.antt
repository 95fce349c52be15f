use Rattle.std.proofs.Common.{◌≡◌, [], ◌∷◌, take, drop}
use Rattle.lw_core.specs.declared.view.Frame.TheVariants.{Calling}
use Rattle.lwlock.specs.Calls.{Went}
use Rattle.lwlock.specs.Wakes.{found_at}
use Rattle.lwlock_variable.proofs.tests.marks.Given as goal

abbrev pub invariant-loop-waiter : goal.invariant-loop-waiter
invariant-loop-waiter g l = record {
  table : l.seat.table_id ≡ l.fn.seat.table_id;
  list : l.seat.list ≡ l.fn.seat.list;
  view : Went (Calling l.fn.lock (found_at l.fn.seat.view.place) (take l.waiter-index l.waiter-items) (drop l.waiter-index l.waiter-items) ∷ []) l.fn.seat.view l.seat.view;
}
