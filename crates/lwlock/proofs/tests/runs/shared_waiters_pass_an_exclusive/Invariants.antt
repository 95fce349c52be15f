use Rattle.std.proofs.Common.{◌≡◌, [], Some}
use Rattle.proc_table.specs.declared.Mode.TheVariants.{Exclusive}
use Rattle.lw_core.specs.Machine.{mode_in}
use Rattle.lwlock.proofs.tests.runs.shared_waiters_pass_an_exclusive.Given as goal

abbrev pub invariant-loop-mode : goal.invariant-loop-mode
invariant-loop-mode g l = record {
  table : l.zero.table_id ≡ l.initial.zero.table_id;
  own : l.zero.view.own ≡ Some 0;
  held : (l.zero.view.place ≡ []) × (mode_in l.lock l.zero.view ≡ Some Exclusive);
}
