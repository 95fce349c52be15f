use Rattle.join_engine.proofs.Gathering.{worker_ready}
use Rattle.join_engine.proofs.workers.draw.Goals as goal

pub returns-clause-ready : goal.returns-clause-ready
returns-clause-ready c = worker_ready c.args.leader.now c.worker.new.from c.in-Ok.worker c.args.number c.requires.leader c.in-Ok.ensures.drawn
