use Rattle.std.proofs.Common.{◌≡◌, length}
use Rattle.lw_core.specs.Words.{word_count, Opens}
use Rattle.lw_core.proofs.words.opening_words.Given as goal

abbrev pub invariant-loop-l : goal.invariant-loop-l
invariant-loop-l l = (length l.words.items ≡ word_count l.fn.size) × Opens l.l l.words.items
