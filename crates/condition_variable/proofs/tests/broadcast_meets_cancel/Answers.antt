use Rattle.std.proofs.Common.{arith}
use Rattle.condition_variable.proofs.Walks.{all_wide}
use Rattle.condition_variable.proofs.tests.broadcast_meets_cancel.Goals as goal

pub pop-requires-clause-below : goal.pop-requires-clause-below
pop-requires-clause-below g c κs = all_wide c.args.table.now.procs 64 c.step.new.seat.list (omega (arith, c.requires.table.2)) (c.step.ensures.list c.expect.ensures).all
