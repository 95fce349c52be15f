use Rattle.std.proofs.Common.{◌+◌, ◌*◌, length}
use Rattle.join_engine.proofs.workers.+workers.Given as goal

abbrev pub decreases-run_last : goal.decreases-run_last
decreases-run_last g l = 2 * length l.steps.now

abbrev pub decreases-join_mut+arg3 : goal.decreases-join_mut+arg3
decreases-join_mut+arg3 g l = 2 * length l.rest.now + 1
