use Rattle.std.proofs.Common.{◌≡◌, ◌↔◌, ℕ, ◌<◌, ◌^◌, IsTrue, [], ◌∷◌}
use Rattle.lw_core.specs.declared.view.Frame.TheVariants.{Trying, Unqueued}
use Rattle.lw_core.specs.Machine.{want_of}
use Rattle.lw_core.specs.Programs.{BeginsNone}
use Rattle.lwlock.specs.Calls.{RefusedInCall}
use Rattle.lwlock.specs.Rounds.{Stands}
use Rattle.lwlock.proofs.rounds.try_until_granted.Given as goal

abbrev pub invariant-loop : goal.invariant-loop
invariant-loop g l = record {
  table : (l.seat.table_id ≡ l.fn.seat.table_id) × (l.seat.id ≡ l.fn.seat.id);
  word : l.word < 2 ^ 32;
  small : l.surplus < 2 ^ 32;
  refused : IsTrue l.waited → RefusedInCall l.lock l.mode l.fn.seat.view l.seat.view;
  view : (sleeps : ℕ) × ((IsTrue l.waited ↔ (0 < sleeps)) × Stands (Trying l.lock l.mode l.word ∷ Unqueued l.lock l.mode (want_of l.mode) l.waited ∷ []) sleeps l.surplus l.fn.seat.view l.seat.view);
  program : BeginsNone l.fn.seat.view l.seat.view;
}
