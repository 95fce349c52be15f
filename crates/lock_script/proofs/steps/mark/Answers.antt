use Rattle.std.proofs.Common.{refl}
use Rattle.lock_script.proofs.LockLists.{drop-at, no_one}
use Rattle.lock_script.proofs.steps.mark.Goals as goal

pub returns-then-told-taken-clause-step : goal.returns-then-told-taken-clause-step
returns-then-told-taken-clause-step c = rw (c.next_of.ensures.next, drop-at c.args.taken.now c.args.told no_one c.if-told-taken.true) refl
