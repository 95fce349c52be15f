use Rattle.std.proofs.Common.{arith}
use Rattle.lw_core.specs.WaitLists.{waiter}
use Rattle.lock_script.proofs.LockLists.{joined_below}
use Rattle.lock_script.proofs.places.Turn.append.Goals as goal

pub returns-clause-below : goal.returns-clause-below
returns-clause-below c =
    rw (c.in_ok-home.ensures.list, c.as_slice.ensures.value) (joined_below c.args.self.now.size.procs (waiter c.number.result c.args.want) c.args.list.items (omega (arith, c.number.ensures.number, c.requires.own)) c.requires.list)
