use Rattle.std.proofs.Common.{ℕ, List, ◌+◌, ◌≤◌, ◌++◌, take}
use Rattle.csv.specs.Writing.{fields_written}
use Rattle.csv_tables.specs.RowWriter.{HasFields}
use Rattle.csv_tables.specs.Text.{fields_at}
use Rattle.csv_tables.proofs.printing.write_fields.Given as goal

abbrev pub invariant-columns : goal.invariant-columns
invariant-columns g l = record {
  few : fields_written l.writer ≤ fields_written l.fn.writer + l.column;
  fields : (text : List ℕ) (fields : List (List ℕ)) → HasFields l.fn.writer text fields → HasFields l.writer text (fields ++ take l.column (fields_at l.rows l.at));
}
