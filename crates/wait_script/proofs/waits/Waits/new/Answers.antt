use Rattle.wait_script.proofs.WaitFacts.{counts-opening, opening-fits}
use Rattle.wait_script.proofs.waits.Waits.new.Goals as goal

pub invariant_of-result : goal.invariant_of-result
invariant_of-result c = opening-fits c.args.opening _ _ _ c.requires c.in_ok-first_words.ensures c.in_ok-first_homes.ensures c.in_ok-first_backends.ensures.stands c.in_ok-first_backends.ensures.fits

pub returns-clause-counts : goal.returns-clause-counts
returns-clause-counts c = rw (c.in_ok-first_words.ensures, c.in_ok-first_homes.ensures, c.in_ok-first_backends.ensures.stands) (counts-opening c.args.opening c.requires)
