use Rattle.lock_script.proofs.LockFacts.{counts-opening, opening-fits}
use Rattle.lock_script.proofs.locks.Locks.new.Goals as goal

pub invariant_of-result : goal.invariant_of-result
invariant_of-result c = opening-fits c.args.size _ _ _ c.requires c.in_ok-first_words.ensures c.in_ok-first_homes.ensures c.in_ok-first_backends.ensures.stands c.in_ok-first_backends.ensures.fits

pub returns-clause-counts : goal.returns-clause-counts
returns-clause-counts c = rw (c.in_ok-first_words.ensures, c.in_ok-first_homes.ensures, c.in_ok-first_backends.ensures.stands) (counts-opening c.args.size c.requires)
