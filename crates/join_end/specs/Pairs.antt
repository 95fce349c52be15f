-- When two lists have the same pairs, and the number by which pairs are put in order.
use Rattle.std.specs.Prelude.{◌≡◌, ℕ, ◌+◌, ◌*◌, List}
use Rattle.row_model.specs.declared.Pair.{Pair}
use Rattle.hash_probe.specs.Hits.{hits}

-- each pair as often, in any order
abbrev pub SamePairs : List Pair → List Pair → Type 0
SamePairs xs ys = (o i : ℕ) → hits o i xs ≡ hits o i ys

-- by the outer row, and then by the inner row
abbrev pub code : Pair → ℕ
code p = p.outer * 4294967296 + p.inner
