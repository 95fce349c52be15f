-- How many pairs a join may have, and what a fault of a join shows of them.
use Rattle.std.specs.Prelude.{ℕ, ◌<◌, ◌≤◌}
use Rattle.hash_probe.specs.Marks.{most_pairs}
use Rattle.join_end.specs.declared.answer.JoinFault.{JoinFault}
use Rattle.join_end.specs.declared.answer.JoinFault.TheVariants as fault

-- the most pairs of a join
abbrev pub pair_limit : ℕ
pair_limit = most_pairs

-- what a fault shows of a number of pairs: those that were counted are too many, and no more than there are
abbrev pub PairsShow : ℕ → JoinFault → Type 0
PairsShow pairs (fault.TooMany counted) = (pair_limit < counted) × (counted ≤ pairs)
PairsShow pairs fault.NoMemory = Unit {0}
