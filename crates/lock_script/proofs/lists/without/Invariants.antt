use Rattle.std.proofs.Common.{◌≡◌, ◌++◌, drop}
use Rattle.lw_core.specs.WaitLists.{without}
use Rattle.lock_script.proofs.lists.without.Given as goal

abbrev pub invariant-waiters : goal.invariant-waiters
invariant-waiters l = l.others.items ++ without l.own (drop l.waiter-index l.list) ≡ without l.own l.list
