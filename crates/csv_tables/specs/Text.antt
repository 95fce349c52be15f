-- The text of a join.
use Rattle.std.specs.Prelude.{ℕ, ◌<◌, List, [], ◌++◌, length, get_or, Option, Some, None}
use Rattle.std.specs.List.{flat_map}
use Rattle.csv.specs.Writing.{default_writer, row_text}
use Rattle.row_model.specs.Table.{Table, nested_loop}
use Rattle.row_model.specs.declared.Pair.{Pair}

-- the row of a pair, the outer fields before the inner ones
abbrev pub pair_text : Table → Table → Pair → List ℕ
pair_text outer inner p = row_text default_writer (get_or outer.rows p.outer [] ++ get_or inner.rows p.inner [])

-- a row of both headers, and one for each pair
abbrev pub pairs_text : Table → Table → List Pair → List ℕ
pairs_text outer inner pairs = row_text default_writer (outer.header ++ inner.header) ++ flat_map (pair_text outer inner) pairs

-- the text of the join of two tables
abbrev pub joined_text : Table → Table → List ℕ
joined_text outer inner = pairs_text outer inner (nested_loop outer inner)

-- the fields of a data row, or of the header
abbrev pub fields_at : Table → Option ℕ → List (List ℕ)
fields_at t None = t.header
fields_at t (Some row) = get_or t.rows row []

-- both rows of a pair are there
abbrev pub IsInRange : Table → Table → Pair → Type 0
IsInRange outer inner p = (p.outer < length outer.rows) × (p.inner < length inner.rows)
