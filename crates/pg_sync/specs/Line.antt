-- The line that each status prints on standard error, and the number with which it ends the program.
use Rattle.std.specs.Prelude.{◌≡◌, ◌⊎◌, ◌++◌, ℕ, List, [], Option, codes, decimal}
use Rattle.std.specs.Io.KnownBytes.{Appends}
use Rattle.row_model.specs.declared.Side.{Side}
use Rattle.row_model.specs.declared.Side.TheVariants as side
use Rattle.row_model.specs.declared.RowFault.TheVariants as fault
use Rattle.csv_tables.specs.Faults.{Rose}
use Rattle.csv_tables.specs.Appending.{AppendsPart}
use Rattle.pg_sync.specs.declared.status.Status.{Status}
use Rattle.pg_sync.specs.declared.status.Status.TheVariants as status

abbrev pub side_name : Side → List ℕ
side_name side.Inner = codes "inner"
side_name side.Outer = codes "outer"

abbrev pub line_of : Status → List ℕ
line_of status.Done = []
line_of status.Words = codes "pg_sync: wrong words\n"
line_of (status.OpenFault s) = codes "pg_sync: cannot open " ++ side_name s ++ codes " input\n"
line_of (status.ReadFault s) = codes "pg_sync: cannot read " ++ side_name s ++ codes " input\n"
line_of (status.TooLong s) = codes "pg_sync: " ++ side_name s ++ codes " input is too long\n"
line_of (status.BadInput s fault.NoHeader) = codes "pg_sync: " ++ side_name s ++ codes " input: no header\n"
line_of (status.BadInput s fault.TooManyColumns) = codes "pg_sync: " ++ side_name s ++ codes " input: too many columns\n"
line_of (status.BadInput s fault.NoKey) = codes "pg_sync: " ++ side_name s ++ codes " input: no such key\n"
line_of (status.BadInput s fault.TwoKeys) = codes "pg_sync: " ++ side_name s ++ codes " input: two such keys\n"
line_of (status.BadInput s (fault.Ragged number)) =
    codes "pg_sync: " ++ side_name s ++ codes " input: record " ++ decimal number ++ codes " has another length\n"
line_of (status.BadInput s fault.TooManyRows) = codes "pg_sync: " ++ side_name s ++ codes " input: too many rows\n"
line_of status.TooManyResults = codes "pg_sync: too many result rows\n"
line_of status.WriteFault = codes "pg_sync: cannot write\n"
line_of status.NoMemory = codes "pg_sync: out of memory\n"
line_of (status.BadScript line) = codes "pg_sync: bad script line " ++ decimal line ++ codes "\n"

-- a sink has taken exactly this line, or a proper front of it where a fault of its own rose
abbrev pub TakesLine : Option (List ℕ) → Option (List ℕ) → ℕ → ℕ → List ℕ → Type 0
TakesLine old new faults faults' line = (Appends old new line × (faults' ≡ faults)) ⊎ (AppendsPart old new line × Rose faults faults')

abbrev pub exit_number : Status → ℕ
exit_number status.Done = 0
exit_number status.Words = 1
exit_number (status.OpenFault s) = 2
exit_number (status.ReadFault s) = 3
exit_number (status.TooLong s) = 4
exit_number (status.BadInput s f) = 5
exit_number status.TooManyResults = 6
exit_number status.WriteFault = 7
exit_number status.NoMemory = 8
exit_number (status.BadScript line) = 9
