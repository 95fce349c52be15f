use Rattle.std.proofs.Common.{arith}
use Rattle.lock_script.proofs.LockLists.{at_below, no_one}
use Rattle.lock_script.proofs.steps.next_of.Goals as goal

pub backend_of-requires : goal.backend_of-requires
backend_of-requires c = omega (arith, at_below c.args.size.procs c.args.taken.now c.args.told no_one c.requires.taken c.if-told-taken.true, c.requires.size.procs.1)

pub returns-then-told-taken-clause-within : goal.returns-then-told-taken-clause-within
returns-then-told-taken-clause-within c = omega (arith, at_below c.args.size.procs c.args.taken.now c.args.told no_one c.requires.taken c.if-told-taken.true)
