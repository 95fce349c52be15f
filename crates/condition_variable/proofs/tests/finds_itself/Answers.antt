use Rattle.std.proofs.Common.{arith}
use Rattle.condition_variable.proofs.Walks.{all_wide}
use Rattle.condition_variable.proofs.tests.finds_itself.Goals as goal

pub pop-popped-requires-clause-below : goal.pop-popped-requires-clause-below
pop-popped-requires-clause-below g c = λ _. all_wide c.args.table.now.procs 64 c.step.new.seat.list (omega (arith, c.requires.table.2)) (c.step.ensures.list c.expect.ensures).all
