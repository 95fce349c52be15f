use Rattle.signal_core.specs.Machine.{IsPart}
use Rattle.generation_barrier.specs.Absorbing.{Asks}
use Rattle.generation_barrier.proofs.process.ask.Given as goal

abbrev pub invariant-loop-kind : goal.invariant-loop-kind
invariant-loop-kind g l = Asks g.A.Absorber.meets l.found l.kind l.fn.absorber l.failed l.absorber × IsPart l.failed l.found
