use Rattle.std.proofs.Common.{◌≡◌, ◌++◌, drop}
use Rattle.lock_script.specs.Locks.{waiter_text}
use Rattle.script_play.specs.Texts.{texts_of}
use Rattle.lock_script.proofs.texts.push_waiters.Given as goal

abbrev pub invariant-waiters : goal.invariant-waiters
invariant-waiters l = l.initial.out.items ++ texts_of waiter_text l.list 0 ≡ l.out.items ++ texts_of waiter_text (drop l.at l.list) l.at
