use Rattle.std.proofs.Common.{◌≡◌, drop}
use Rattle.lw_core.specs.WaitLists.{has_locker}
use Rattle.lwlock.proofs.wake.locker_among.Given as goal

abbrev pub invariant-loop-waiter : goal.invariant-loop-waiter
invariant-loop-waiter l = has_locker (drop l.waiter-index l.waiter-items) ≡ has_locker l.waiter-items
