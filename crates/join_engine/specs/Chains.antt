-- What a hash table of rows keeps.
use Rattle.std.specs.Prelude.{◌≡◌, ◌+◌, ◌<◌, ◌≤◌, ℕ, List, length, get_or, slice_get, nat_eq, nat_lt, Option, Some, None, if◌then◌else◌}
use Rattle.std.specs.HashMap.{get}
use Rattle.row_model.specs.Table.{Table, key_of}
use Rattle.row_model.specs.Hash.{hash_of_key}
use Rattle.join_engine.specs.Looks.{rows_from}
use Rattle.join_engine.specs.declared.chains.Chains.{Chains}

-- the row of this number, where there are so many rows
abbrev pub row_at : ℕ → ℕ → Option ℕ
row_at count row = if nat_lt row count then Some row else None

-- from a place on each row with a key is linked to the next one of its hash
abbrev pub IsLinked : Table → List ℕ → ℕ → Type 0
IsLinked t next place = (row hash : ℕ) → place ≤ row → row < length t.rows → hash_of_key (key_of t row) ≡ Some hash
    → row_at (length t.rows) (get_or next row 0) ≡ slice_get (rows_from t (row + 1) hash) 0

-- the chain of a hash begins with its first row, and goes on from each row to the next one
pub record IsChained (t : Table) (chains : Chains) : Type 0 where
  pub heads : (hash : ℕ) → get nat_eq chains.heads hash ≡ slice_get (rows_from t 0 hash) 0
  pub count : length chains.next.items ≡ length t.rows
  pub next : IsLinked t chains.next.items 0
