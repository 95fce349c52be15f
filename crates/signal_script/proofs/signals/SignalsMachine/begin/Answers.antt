use Rattle.signal_script.specs.SignalSketch.{begins}
use Rattle.script_play.proofs.PlayFacts.{silent-prints}
use Rattle.signal_script.proofs.signals.SignalsMachine.begin.Goals as goal

pub returns-clause-begun : goal.returns-clause-begun
returns-clause-begun c = silent-prints (begins c.args.self.now c.args.proc c.args.call.now) c.begin_call.result c.begin_call.new.self c.args._out.now.items c.begin_call.ensures.begun
