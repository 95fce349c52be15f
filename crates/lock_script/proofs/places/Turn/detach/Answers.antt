use Rattle.lw_core.proofs.Below.{taken_below}
use Rattle.std.proofs.Common.{false}
use Rattle.lock_script.proofs.LockLists.{kept_below}
use Rattle.lock_script.proofs.places.Turn.detach.Goals as goal

pub clear-requires : goal.clear-requires
clear-requires c = record { taken = rw (c.in_ok-taken.ensures.list, c.as_slice.ensures.value) (taken_below c.args.self.now.size.procs false c.args.list.items c.requires.list) }

pub returns-clause-below : goal.returns-clause-below
returns-clause-below c = rw (c.in_ok-home.ensures.list, c.as_slice-2.ensures.value) (kept_below c.args.self.now.size.procs false c.args.list.items c.requires.list)
