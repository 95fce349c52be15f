use Rattle.std.proofs.Common.{◌≡◌, ◌++◌, drop}
use Rattle.wait_script.specs.Waits.{waiter_text}
use Rattle.script_play.specs.Texts.{texts_of}
use Rattle.wait_script.proofs.texts.push_waiters.Given as goal

abbrev pub invariant-waiters : goal.invariant-waiters
invariant-waiters l = l.initial.out.items ++ texts_of waiter_text l.list 0 ≡ l.out.items ++ texts_of waiter_text (drop l.at l.list) l.at
