-- How many looks at keys the probing of an outer row takes at most.
use Rattle.std.specs.Prelude.{ℕ, ◌-◌, ◌%◌, ◌==◌, Bool, false, List, length, filter, Option, None, Some}
use Rattle.std.specs.List.{range_with_len}
use Rattle.row_model.specs.Table.{Table, key_of}
use Rattle.row_model.specs.Hash.{hash_of_key}

-- whether a hash agrees with that of a key modulo a number of buckets. An empty key has none
abbrev pub agrees : ℕ → ℕ → Option ℕ → Bool
agrees buckets hash None = false
agrees buckets hash (Some other) = other % buckets == hash % buckets

-- how many of these inner rows have a key whose hash agrees with this one
abbrev pub agreeing_among : Table → ℕ → ℕ → List ℕ → ℕ
agreeing_among inner buckets hash list = length (filter (λ i. agrees buckets hash (hash_of_key (key_of inner i))) list)

-- how many of all inner rows do
abbrev pub agreeing : Table → ℕ → Option ℕ → ℕ
agreeing inner buckets None = 0
agreeing inner buckets (Some hash) = agreeing_among inner buckets hash (range_with_len 0 (length inner.rows))

-- the same of an outer row, numbered after the inner rows
abbrev pub walk_of : Table → Table → ℕ → ℕ → ℕ
walk_of outer inner buckets row = agreeing inner buckets (hash_of_key (key_of outer (row - length inner.rows)))
