use Rattle.std.proofs.Common.{◌≡◌, ◌++◌, drop}
use Rattle.lw_core.specs.WaitLists.{kept_after, kept_from}
use Rattle.lock_script.proofs.lists.kept_from.Given as goal

abbrev pub invariant-walk : goal.invariant-walk
invariant-walk l = l.kept.items ++ kept_after l.took_shared (drop l.at l.list) ≡ kept_from l.list
