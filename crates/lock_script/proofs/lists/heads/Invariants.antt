use Rattle.std.proofs.Common.{◌≡◌, ◌++◌, take, drop}
use Rattle.lw_core.specs.WaitLists.{lockers_from, until_free_from}
use Rattle.lock_script.proofs.lists.heads.Given as goal

abbrev pub invariant-heads : goal.invariant-heads
invariant-heads l = record {
  taken : until_free_from l.list ≡ take l.at l.list ++ until_free_from (drop l.at l.list);
  left : lockers_from l.list ≡ lockers_from (drop l.at l.list);
}
