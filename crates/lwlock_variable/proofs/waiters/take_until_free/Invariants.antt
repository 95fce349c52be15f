use Rattle.std.proofs.Common.{◌≡◌, ◌≤◌, ◌++◌, cond, [], length, drop}
use Rattle.lw_core.specs.WaitLists.{lockers_from, until_free_from}
use Rattle.lwlock_variable.proofs.waiters.take_until_free.Given as goal

abbrev pub invariant-loop-waiter : goal.invariant-loop-waiter
invariant-loop-waiter l = record {
  taken : l.taken.items ++ cond l.behind [] (until_free_from (drop l.waiter-index l.waiter-items)) ≡ until_free_from l.waiter-items;
  kept : l.kept.items ++ cond l.behind (drop l.waiter-index l.waiter-items) (lockers_from (drop l.waiter-index l.waiter-items)) ≡ lockers_from l.waiter-items;
  room : (length l.taken.items ≤ l.waiter-index) × (length l.kept.items ≤ l.waiter-index);
}
