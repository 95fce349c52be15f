use Rattle.std.proofs.Common.{◌≡◌, ◌<◌, ◌^◌, List, [], ◌∷◌}
use Rattle.lw_core.specs.declared.view.Frame.TheVariants.{Detaching}
use Rattle.lw_core.specs.declared.view.Made.{Made}
use Rattle.lw_core.specs.Programs.{BeginsNone}
use Rattle.lwlock.specs.Calls.{went}
use Rattle.lwlock.specs.Wakes.{AllSeek, found_at, updated_at}
use Rattle.lwlock.proofs.wake.detach.Given as goal

abbrev pub invariant-loop : goal.invariant-loop
invariant-loop g l = record {
  table : (l.seat.table_id ≡ l.fn.seat.table_id) × (l.seat.id ≡ l.fn.seat.id);
  word : l.word < 2 ^ 32;
  list : l.seat.list ≡ l.fn.seat.list;
  view : (more : List Made) × ((l.seat.view ≡ went l.fn.seat.view (Detaching l.lock (updated_at l.fn.seat.view.place) (found_at l.fn.seat.view.place) l.word ∷ []) more) × AllSeek more);
  program : BeginsNone l.fn.seat.view l.seat.view;
}
