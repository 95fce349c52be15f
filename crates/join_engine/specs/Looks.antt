-- Inner rows whose keys have one hash, and how many looks at keys a join takes.
use Rattle.std.specs.Prelude.{◌+◌, ◌==◌, ℕ, Bool, false, List, length, filter, sum_by, drop, Option, Some, None}
use Rattle.std.specs.List.{range_with_len}
use Rattle.row_model.specs.Table.{Table, key_of}
use Rattle.row_model.specs.Hash.{hash_of_key}

-- whether a key has this hash. An empty key has none
abbrev pub is_hash : ℕ → Option ℕ → Bool
is_hash hash None = false
is_hash hash (Some other) = other == hash

-- the numbers of the data rows, in order
abbrev pub numbers : Table → List ℕ
numbers t = range_with_len 0 (length t.rows)

-- the rows from a place on whose key has this hash, in order
abbrev pub rows_from : Table → ℕ → ℕ → List ℕ
rows_from t place hash = filter (λ row. is_hash hash (hash_of_key (key_of t row))) (drop place (numbers t))

-- how many inner rows have a key of this hash
abbrev pub candidates : Table → Option ℕ → ℕ
candidates inner None = 0
candidates inner (Some hash) = length (rows_from inner 0 hash)

-- one look for each row of both tables, and for each outer row with a key one for each inner row whose key has the same hash
unfoldable pub hashed_look_bound : Table → Table → ℕ
hashed_look_bound outer inner = length inner.rows + length outer.rows + sum_by (λ o. candidates inner (hash_of_key (key_of outer o))) (numbers outer)
