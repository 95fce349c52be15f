use Rattle.signal_core.proofs.OpeningWords.{OpensBelow}
use Rattle.signal_core.proofs.words.opening_words.Given as goal

abbrev pub invariant-loop-p : goal.invariant-loop-p
invariant-loop-p l = OpensBelow l.p l.fn.about l.words.items
