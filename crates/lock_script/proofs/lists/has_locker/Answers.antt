use Rattle.std.proofs.Common.{sym}
use Rattle.lock_script.proofs.LockLists.{heads-locker}
use Rattle.lock_script.proofs.lists.has_locker.Goals as goal

pub returns : goal.returns
returns c = sym (heads-locker c.args.list.now c.heads.result c.heads.ensures.left c.heads.ensures.within)
