-- Two tables of drawn keys, and what their join comes to.
use Rattle.std.specs.Prelude.{ℕ, zero, suc, ◌+◌, ◌*◌, ◌/◌, ◌%◌, ◌^◌, ◌++◌, nat_lt, fold, map, List, [], ◌∷◌, length, take, drop, codes, decimal, if◌then◌else◌}
use Rattle.row_model.specs.declared.Pair.{Pair}
use Rattle.row_model.specs.Table.{Table, nested_loop}
use Rattle.join_engine.specs.Limit.{pair_limit}
use Rattle.pg_sync.specs.declared.status.Status.{Status}
use Rattle.pg_sync.specs.declared.status.Status.TheVariants as status

-- the generator: the state that follows a state
abbrev pub next_state : ℕ → ℕ
next_state x = (x * 1664525 + 1013904223) % 2 ^ 32

-- so many states that follow a state, and the last of them
unfoldable pub states_after : ℕ → ℕ → List ℕ
states_after x zero = []
states_after x (suc n) = next_state x ∷ states_after (next_state x) n

unfoldable pub state_after : ℕ → ℕ → ℕ
state_after x zero = x
state_after x (suc n) = state_after (next_state x) n

-- the key that a state draws from `keys`: the upper half of its 32 bits, in decimal
abbrev pub drawn_key : ℕ → ℕ → List ℕ
drawn_key keys x = decimal (x / 65536 % keys)

-- the table of one column `k` with the keys that these states draw
abbrev pub drawn_table : ℕ → List ℕ → Table
drawn_table keys states = record { header = codes "k" ∷ []; rows = map (λ x. drawn_key keys x ∷ []) states; column = 0 }

-- the first draws are the inner rows, the next ones the outer rows
abbrev pub made_inner : ℕ → ℕ → Table
made_inner rows start = drawn_table rows (take rows (states_after start (rows + rows)))

abbrev pub made_outer : ℕ → ℕ → Table
made_outer rows start = drawn_table rows (drop rows (states_after start (rows + rows)))

-- the pairs of their join
abbrev pub made_pairs : ℕ → ℕ → List Pair
made_pairs rows start = nested_loop (made_outer rows start) (made_inner rows start)

-- a total with one pair more, rows numbered from 1
abbrev pub add_pair : ℕ → Pair → ℕ
add_pair total p = (total * 31 + (p.outer + 1) + (p.inner + 1)) % 2 ^ 32

-- how many pairs there are, and their total, taken in their order
abbrev pub pairs_text : List Pair → List ℕ
pairs_text pairs = codes "rows " ++ decimal (length pairs) ++ codes "\ntotal " ++ decimal (fold add_pair 0 pairs) ++ codes "\n"

unfoldable pub made_text : ℕ → ℕ → List ℕ
made_text rows start = pairs_text (made_pairs rows start)

-- the answer where no write fails
abbrev pub made_answer : ℕ → ℕ → Status
made_answer rows start = if nat_lt pair_limit (length (made_pairs rows start)) then status.TooManyResults else status.Done
