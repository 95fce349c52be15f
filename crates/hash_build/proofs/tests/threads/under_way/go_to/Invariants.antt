use Rattle.hash_build.specs.Growths.{IsGrowing, SameOther}
use Rattle.hash_build.proofs.tests.threads.under_way.go_to.Given as goal

abbrev pub invariant-loop : goal.invariant-loop
invariant-loop g l = IsGrowing l.tables l.seats l.at × SameOther l.growth l.fn.phases l.at
