use Rattle.std.proofs.Common.{◌≡◌, [], Some}
use Rattle.proc_table.specs.declared.Mode.TheVariants.{Exclusive}
use Rattle.lw_core.specs.Machine.{mode_in}
use Rattle.lwlock_variable.proofs.tests.publish.Given as goal

abbrev pub invariant-loop-n : goal.invariant-loop-n
invariant-loop-n g l = (l.seat.table_id ≡ l.initial.seat.table_id) × (l.seat.view.place ≡ []) × (mode_in l.lock l.seat.view ≡ Some Exclusive)
