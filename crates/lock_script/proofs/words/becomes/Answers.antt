use Rattle.lw_core.proofs.Flags.{or_locked, or_ok, or_waiters}
use Rattle.lock_script.proofs.words.becomes.Goals as goal

pub returns-in-Lock : goal.returns-in-Lock
returns-in-Lock c = rw c.in-Lock.is (or_locked c.args.found)

pub returns-in-Flag : goal.returns-in-Flag
returns-in-Flag c = rw c.in-Flag.is (or_waiters c.args.found)

pub returns-in-SetReleaseOk : goal.returns-in-SetReleaseOk
returns-in-SetReleaseOk c = rw c.in-SetReleaseOk.is (or_ok c.args.found)
