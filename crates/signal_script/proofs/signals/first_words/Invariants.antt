use Rattle.std.proofs.Common.{◌≡◌, ◌==◌, cond, map}
use Rattle.std.specs.List.{range_with_len}
use Rattle.signal_core.specs.Words.{opened}
use Rattle.signal_script.proofs.signals.first_words.Given as goal

abbrev pub invariant-words : goal.invariant-words
invariant-words l = l.words.items ≡ map (λ i. cond (i == 0) l.about.procs (opened l.about i)) (range_with_len 0 l.word)
