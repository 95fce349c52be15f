-- Tables of fields of bytes, their keys, and the join of two tables by two nested loops.
use Rattle.std.specs.Prelude.{◌&&◌, Bool, not, ℕ, List, [], length, map, filter, get_or}
use Rattle.std.specs.List.{flat_map, range_with_len}
use Rattle.std.specs.Str.{bytes_eq}
use Rattle.row_model.specs.declared.Pair.{Pair}

-- a header row, the data rows below it, and the column of the key
pub record Table : Type 0 where
  pub header : List (List ℕ)
  pub rows : List (List (List ℕ))
  pub column : ℕ

-- a field of a data row
abbrev pub field_of : Table → ℕ → ℕ → List ℕ
field_of t row column = get_or (get_or t.rows row []) column []

-- the key of a data row
abbrev pub key_of : Table → ℕ → List ℕ
key_of t row = field_of t row t.column

-- an empty key meets nothing
abbrev pub is_present : List ℕ → Bool
is_present key = not (bytes_eq key [])

-- two keys meet where neither is empty and their bytes are equal
abbrev pub meets : List ℕ → List ℕ → Bool
meets a b = is_present a && bytes_eq a b

-- the inner rows that an outer row meets, in order
abbrev pub partners : Table → Table → ℕ → List ℕ
partners outer inner o = filter (λ i. meets (key_of outer o) (key_of inner i)) (range_with_len 0 (length inner.rows))

-- an outer row with each inner row that it meets
abbrev pub pairs_of : Table → Table → ℕ → List Pair
pairs_of outer inner o = map (λ i. record { outer = o; inner = i }) (partners outer inner o)

-- the join: for each outer row in order, for each inner row in order, the pair where they meet
unfoldable pub nested_loop : Table → Table → List Pair
nested_loop outer inner = flat_map (pairs_of outer inner) (range_with_len 0 (length outer.rows))
