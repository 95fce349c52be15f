use Rattle.hash_build.specs.Growths.{IsGrowing}
use Rattle.hash_build.proofs.tests.threads.under_way.hash_until_wanted.Given as goal

abbrev pub invariant-loop : goal.invariant-loop
invariant-loop g l = IsGrowing l.tables l.seats l.fn.phases
