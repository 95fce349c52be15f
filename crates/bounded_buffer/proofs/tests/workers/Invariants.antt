use Rattle.bounded_buffer.specs.Backends.{IsFirst, IsIdle}
use Rattle.bounded_buffer.proofs.tests.workers.Given as goal

abbrev pub invariant-loop-role : goal.invariant-loop-role
invariant-loop-role l = IsIdle l.buffer l.first × IsFirst l.first
