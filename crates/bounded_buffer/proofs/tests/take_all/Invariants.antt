use Rattle.bounded_buffer.specs.Backends.{IsIdle}
use Rattle.bounded_buffer.proofs.tests.take_all.Given as goal

abbrev pub invariant-loop : goal.invariant-loop
invariant-loop g l = IsIdle l.buffer l.backend
