use Rattle.std.proofs.Common.{◌≡◌, ◌≤◌, ◌++◌, cond, [], length, drop}
use Rattle.lw_core.specs.WaitLists.{taken_after, kept_after, taken_from, kept_from}
use Rattle.lwlock.proofs.wake.part.Given as goal

abbrev pub invariant-loop-waiter : goal.invariant-loop-waiter
invariant-loop-waiter l = record {
  taken : l.taken.items ++ cond l.done [] (taken_after l.locker (drop l.waiter-index l.waiter-items)) ≡ taken_from l.waiter-items;
  kept : l.kept.items ++ cond l.done (drop l.waiter-index l.waiter-items) (kept_after l.locker (drop l.waiter-index l.waiter-items)) ≡ kept_from l.waiter-items;
  room : (length l.taken.items ≤ l.waiter-index) × (length l.kept.items ≤ l.waiter-index);
}
