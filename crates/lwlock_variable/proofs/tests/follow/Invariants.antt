use Rattle.std.proofs.Common.{◌≡◌, [], None}
use Rattle.lw_core.specs.Machine.{mode_in}
use Rattle.lwlock_variable.proofs.tests.follow.Given as goal

abbrev pub invariant-loop : goal.invariant-loop
invariant-loop g l = (l.seat.table_id ≡ l.initial.seat.table_id) × (l.seat.view.place ≡ []) × (mode_in l.lock l.seat.view ≡ None)
