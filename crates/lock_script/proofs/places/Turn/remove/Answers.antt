use Rattle.lock_script.proofs.LockLists.{without_below}
use Rattle.lock_script.proofs.places.Turn.remove.Goals as goal

pub returns-in_ok-home-clause-below : goal.returns-in_ok-home-clause-below
returns-in_ok-home-clause-below c = rw (c.in_ok-home.ensures.list, c.as_slice.ensures.value) (without_below c.args.self.now.size.procs c.number.result c.args.list.items c.requires.list)
