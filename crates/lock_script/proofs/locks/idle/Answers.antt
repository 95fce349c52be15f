use Rattle.std.proofs.Common.{refl}
use Rattle.lock_script.specs.LockSketch.{no_modes}
use Rattle.lock_script.proofs.locks.idle.Goals as goal

pub returns-clause-stand : goal.returns-clause-stand
unfolding no_modes
returns-clause-stand c = refl
