use Rattle.std.proofs.Common.{false}
use Rattle.lw_core.proofs.Below.{taken_below}
use Rattle.lock_script.proofs.places.Turn.hold.Goals as goal

pub returns-in_ok-taken-in-Wake-clause-fits : goal.returns-in_ok-taken-in-Wake-clause-fits
returns-in_ok-taken-in-Wake-clause-fits c = (c.requires.lock, c.requires.list, rw (c.in_ok-taken-in-Wake.ensures.list, c.as_slice.ensures.value) (taken_below c.args.self.now.size.procs false c.args.list.items c.requires.list))
