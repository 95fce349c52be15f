use Rattle.signal_script.proofs.SignalFacts.{opening-fits}
use Rattle.signal_script.proofs.signals.Signals.new.Goals as goal

pub invariant_of-result : goal.invariant_of-result
invariant_of-result c = rw (c.in_ok-first_words.ensures, c.in_ok-first_backends.ensures) (opening-fits c.args.about c.requires.procs c.requires.generation)
