use Rattle.std.proofs.Common.{◌≡◌, [], ◌∷◌, ◌++◌, List, take, drop}
use Rattle.lw_core.specs.declared.view.Made.{Made}
use Rattle.lw_core.specs.Programs.{BeginsNone}
use Rattle.lwlock.specs.Calls.{went}
use Rattle.lwlock.specs.Wakes.{found_at, kinds, marked_by, marking, updated_at, is_calling}
use Rattle.lwlock.proofs.wake.mark.Given as goal

abbrev pub invariant-loop-waiter : goal.invariant-loop-waiter
invariant-loop-waiter g l = record {
  table : (l.seat.table_id ≡ l.fn.seat.table_id) × (l.seat.id ≡ l.fn.seat.id);
  list : l.seat.list ≡ l.fn.seat.list;
  view : (more : List Made)
      × ((l.seat.view ≡ went l.fn.seat.view (marking (is_calling l.fn.seat.view.place) l.fn.lock (updated_at l.fn.seat.view.place) (found_at l.fn.seat.view.place) (take l.waiter-index l.waiter-items) (drop l.waiter-index l.waiter-items) ∷ []) more)
      × (kinds more ++ marked_by (drop l.waiter-index l.waiter-items) ≡ marked_by l.waiter-items));
  program : BeginsNone l.fn.seat.view l.seat.view;
}
