-- Which lists of records are a table with a key, and the first fault of one that isn't.
use Rattle.std.specs.Prelude.{◌==◌, ◌+◌, nat_lt, Bool, ℕ, List, [], ◌∷◌, length, Option, Some, None, count_by, if◌then◌else◌}
use Rattle.std.specs.List.{position_or_len}
use Rattle.std.specs.Str.{bytes_eq}
use Rattle.row_model.specs.declared.RowFault.{RowFault}
use Rattle.row_model.specs.declared.RowFault.TheVariants as fault
use Rattle.row_model.specs.Table.{Table}

-- the most columns, and the most data rows, that a table may have
abbrev pub column_limit : ℕ
column_limit = 256

abbrev pub row_limit : ℕ
row_limit = 262144

-- the first of two faults
abbrev pub or_else : Option RowFault → Option RowFault → Option RowFault
or_else None later = later
or_else (Some f) later = Some f

-- whether a header field is the key's name
abbrev pub is_name : List ℕ → List ℕ → Bool
is_name key name = bytes_eq name key

-- the first column of that name
abbrev pub column_of : List ℕ → List (List ℕ) → ℕ
column_of key header = position_or_len (is_name key) header

-- exactly one header field is the key's name
unfoldable pub key_fault : List ℕ → List (List ℕ) → Option RowFault
key_fault key header =
    if count_by (is_name key) header == 0 then Some fault.NoKey
    else if count_by (is_name key) header == 1 then None
    else Some fault.TwoKeys

-- there are not too many columns, and one of them is the key's
unfoldable pub header_fault : List ℕ → List (List ℕ) → Option RowFault
header_fault key header = if nat_lt column_limit (length header) then Some fault.TooManyColumns else key_fault key header

-- a data row, which is the record of this number counted from 1 with the header, has the header's length and isn't one too many
unfoldable pub row_fault : ℕ → ℕ → List (List ℕ) → Option RowFault
row_fault width number row =
    if length row == width then (if nat_lt (row_limit + 1) number then Some fault.TooManyRows else None)
    else Some (fault.Ragged number)

-- the first fault of these data rows, the first of which is record `number`
unfoldable pub rows_fault : ℕ → ℕ → List (List (List ℕ)) → Option RowFault
rows_fault width number [] = None
rows_fault width number (row ∷ rows) = or_else (row_fault width number row) (rows_fault width (number + 1) rows)

-- the first fault of these records, if more may follow
unfoldable pub fault_so_far : List ℕ → List (List (List ℕ)) → Option RowFault
fault_so_far key [] = None
fault_so_far key (header ∷ rows) = or_else (header_fault key header) (rows_fault (length header) 2 rows)

-- the first fault of all the records: the header's, then the rows' in their order
unfoldable pub form_fault : List (List (List ℕ)) → List ℕ → Option RowFault
form_fault [] key = Some fault.NoHeader
form_fault (header ∷ rows) key = fault_so_far key (header ∷ rows)

-- the first record
abbrev pub header_of : List (List (List ℕ)) → List (List ℕ)
header_of [] = []
header_of (header ∷ rows) = header

-- the records after the first
abbrev pub data_rows : List (List (List ℕ)) → List (List (List ℕ))
data_rows [] = []
data_rows (header ∷ rows) = rows

-- the table of records without a fault
unfoldable pub table_of : List (List (List ℕ)) → List ℕ → Table
table_of records key = record { header = header_of records; rows = data_rows records; column = column_of key (header_of records) }
