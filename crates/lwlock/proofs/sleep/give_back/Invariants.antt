use Rattle.std.proofs.Common.{◌≡◌, ◌-◌, [], ◌∷◌}
use Rattle.lw_core.specs.declared.view.Frame.TheVariants.{GivingBack}
use Rattle.lw_core.specs.Machine.{resumed}
use Rattle.lw_core.specs.Programs.{BeginsNone}
use Rattle.lwlock.specs.Calls.{WentWith}
use Rattle.lwlock.proofs.sleep.give_back.Given as goal

abbrev pub invariant-loop-given : goal.invariant-loop-given
invariant-loop-given g l = record {
  table : (l.seat.table_id ≡ l.fn.seat.table_id) × (l.seat.id ≡ l.fn.seat.id);
  view : WentWith (resumed (l.surplus - l._given) (GivingBack ∷ [])) (l.surplus - l._given) l.fn.seat.view l.seat.view;
  program : BeginsNone l.fn.seat.view l.seat.view;
}
