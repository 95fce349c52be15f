-- How often a pair stands in a list.
use Rattle.std.specs.Prelude.{ℕ, ◌+◌, ◌==◌, ◌&&◌, cond, List, [], ◌∷◌}
use Rattle.row_model.specs.declared.Pair.{Pair}

abbrev pub hit : ℕ → ℕ → Pair → ℕ
hit o i p = cond ((p.outer == o) && (p.inner == i)) 1 0

abbrev pub hits : ℕ → ℕ → List Pair → ℕ
hits o i [] = 0
hits o i (p ∷ ps) = hit o i p + hits o i ps
