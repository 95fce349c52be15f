use Rattle.std.proofs.Common.{◌≡◌, ◌==◌, cond, map}
use Rattle.std.specs.List.{range_with_len}
use Rattle.lock_script.specs.Locks.{opened}
use Rattle.lock_script.proofs.locks.first_words.Given as goal

abbrev pub invariant-words : goal.invariant-words
invariant-words l = l.words.items ≡ map (λ i. cond (i == 0) l.size.procs (opened l.size i)) (range_with_len 0 l.word)
