use Rattle.std.proofs.Common.{arith}
use Rattle.join_law.proofs.Standing.{stand_hashed}
use Rattle.join_law.specs.Phases.{build, RUN}
use Rattle.join_party.proofs.laws.rows_are_hashed.Goals as goal

pub returns-clause-from_run : goal.returns-clause-from_run
returns-clause-from_run c = stand_hashed

pub returns-clause-attached : goal.returns-clause-attached
returns-clause-attached c = λ j words views phases id v h s on. let here = s.here build RUN on in stand_hashed j words views phases h (omega arith)
