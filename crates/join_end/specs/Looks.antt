-- How many looks at keys a join takes at most.
use Rattle.std.specs.Prelude.{ℕ, ◌+◌, ◌*◌, length, sum_by}
use Rattle.std.specs.List.{range_with_len}
use Rattle.row_model.specs.Table.{Table, key_of}
use Rattle.row_model.specs.Hash.{hash_of_key}
use Rattle.hash_probe.specs.Looks.{agreeing}

-- 34 for each row of both tables, and for each outer row with a key one for each inner row whose hash agrees modulo so many buckets
unfoldable pub look_bound : Table → Table → ℕ → ℕ
look_bound outer inner buckets = 34 * (length inner.rows + length outer.rows) + sum_by (λ o. agreeing inner buckets (hash_of_key (key_of outer o))) (range_with_len 0 (length outer.rows))
