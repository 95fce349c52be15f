use Rattle.std.proofs.Common.{◌≡◌, false, [], ◌∷◌, take, drop}
use Rattle.lw_core.specs.declared.view.Frame.TheVariants.{Marking}
use Rattle.lwlock.specs.Calls.{Went}
use Rattle.lwlock.specs.Wakes.{found_at}
use Rattle.lwlock.proofs.tests.runs.marks.Given as goal

abbrev pub invariant-loop-waiter : goal.invariant-loop-waiter
invariant-loop-waiter g l = record {
  table : (l.seat.table_id ≡ l.fn.seat.table_id) × (l.seat.id ≡ l.fn.seat.id);
  list : l.seat.list ≡ l.fn.seat.list;
  view : Went (Marking l.fn.lock false (found_at l.fn.seat.view.place) (take l.waiter-index l.waiter-items) (drop l.waiter-index l.waiter-items) ∷ []) l.fn.seat.view l.seat.view;
}
