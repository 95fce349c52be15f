use Rattle.std.proofs.Common.{◌≡◌, ◌==◌, cond, List, ◌∷◌, ◌++◌}
use Rattle.lw_core.specs.declared.view.Frame.TheVariants.{Asleep, Downing}
use Rattle.lw_core.specs.declared.view.Made.{Made}
use Rattle.lw_core.specs.Machine.{outer}
use Rattle.lw_core.specs.Programs.{MakesFrom}
use Rattle.semaphore.specs.Calls.{StoresNone}
use Rattle.semaphore.proofs.take_down.Given as goal

abbrev pub invariant-loop : goal.invariant-loop
invariant-loop g l = record {
  table : (l.seat.table_id ≡ l.fn.seat.table_id) × (l.seat.id ≡ l.fn.seat.id);
  list : l.seat.list ≡ l.fn.seat.list;
  place : l.seat.view.place ≡ cond (l.count == 0) (Asleep ∷ outer l.fn.seat.view.place) (Downing ∷ outer l.fn.seat.view.place);
  view : (more : List Made) × (l.seat.view ≡ record l.fn.seat.view { place = l.seat.view.place; steps = l.fn.seat.view.steps ++ more });
  stores : StoresNone l.fn.seat.view l.seat.view;
  program : MakesFrom l.fn.begins l.fn.seat.view l.seat.view;
}
