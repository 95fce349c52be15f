use Rattle.bounded_buffer.specs.Backends.{IsIdle}
use Rattle.bounded_buffer.proofs.tests.put_all.Given as goal

abbrev pub invariant-loop-item : goal.invariant-loop-item
invariant-loop-item g l = IsIdle l.buffer l.backend
