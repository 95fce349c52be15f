use Rattle.std.proofs.Common.{◌≡◌, [], None}
use Rattle.lw_core.specs.Machine.{mode_in}
use Rattle.lwlock.proofs.tests.threads.work.Given as goal

abbrev pub invariant-loop-round : goal.invariant-loop-round
invariant-loop-round g l = (l.seat.table_id ≡ l.initial.seat.table_id) × (l.seat.view.place ≡ []) × (mode_in l.lock l.seat.view ≡ None)
