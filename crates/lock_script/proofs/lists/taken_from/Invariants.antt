use Rattle.std.proofs.Common.{◌≡◌, ◌++◌, drop}
use Rattle.lw_core.specs.WaitLists.{taken_after, taken_from}
use Rattle.lock_script.proofs.lists.taken_from.Given as goal

abbrev pub invariant-walk : goal.invariant-walk
invariant-walk l = l.taken.items ++ taken_after l.took_shared (drop l.waiter-index l.list) ≡ taken_from l.list
