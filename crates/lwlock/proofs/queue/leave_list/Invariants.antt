use Rattle.std.proofs.Common.{◌≡◌, ◌≤◌, ◌++◌, length, drop}
use Rattle.lw_core.specs.WaitLists.{without}
use Rattle.lwlock.proofs.queue.leave_list.Given as goal

abbrev pub invariant-loop-waiter : goal.invariant-loop-waiter
invariant-loop-waiter l = record {
  rest : l.rest.items ++ without l.proc (drop l.waiter-index l.waiter-items) ≡ without l.proc l.waiter-items;
  room : length l.rest.items ≤ l.waiter-index;
}
