use Rattle.lw_core.specs.NoLostWake.{NoFreeLockIsSleptFor}
use Rattle.lw_core.proofs.NoLostWake.{no_free_lock_is_slept_for}
use Rattle.lw_core.proofs.InRuns.{in_runs}
use Rattle.lw_core.proofs.laws.free_locks_are_answered.Goals as goal

pub returns : goal.returns
returns g c = in_runs g.G.Guarded.lawful c.args.size g.G.Guarded.zeros c.requires.locks c.requires.procs.0 c.requires.procs.1 (NoFreeLockIsSleptFor c.args.size) (no_free_lock_is_slept_for g.G.Guarded.lawful c.args.size)
