use Rattle.std.proofs.Common.{◌≡◌, [], None}
use Rattle.lw_core.specs.Machine.{mode_in}
use Rattle.lwlock.proofs.tests.or_wait.has_done.Given as goal

abbrev pub invariant-loop : goal.invariant-loop
invariant-loop g l = (l.seat.table_id ≡ l.fn.seat.table_id) × (l.seat.view.place ≡ []) × (mode_in l.lock l.seat.view ≡ None)
