use Rattle.lw_core.proofs.Below.{until_free_below}
use Rattle.lock_script.proofs.places.Turn.publish.Goals as goal

pub returns-clause-fits : goal.returns-clause-fits
returns-clause-fits c = (c.requires.lock, c.requires.list, rw (c.in_ok-taken.ensures.list, c.as_slice.ensures.value) (until_free_below c.args.self.now.size.procs c.args.list.items c.requires.list))
