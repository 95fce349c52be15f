-- What was appended to the bytes that a sink has taken, in full or in part, and what printing a text answers.
use Rattle.std.specs.Prelude.{◌≡◌, ◌<◌, ◌≤◌, ℕ, List, length, take, Option, Some, Result, Ok, Err}
use Rattle.std.specs.Io.KnownBytes.{Appends}
use Rattle.csv_tables.specs.declared.PrintFault.{PrintFault}
use Rattle.csv_tables.specs.declared.PrintFault.TheVariants as print
use Rattle.csv_tables.specs.Faults.{Rose}

-- a front of these bytes was written, and not all
abbrev pub AppendsPart : Option (List ℕ) → Option (List ℕ) → List ℕ → Type 0
AppendsPart old new bytes = (n : ℕ) × (n < length bytes) × Appends old new (take n bytes)

-- a front of these bytes was written, perhaps all
abbrev pub AppendsFront : Option (List ℕ) → Option (List ℕ) → List ℕ → Type 0
AppendsFront old new bytes = (n : ℕ) × Appends old new (take n bytes)

-- a sink that tells what it has taken, and how many bytes it takes in all, has taken as many
abbrev pub IsFull : Option (List ℕ) → Option ℕ → Type 0
IsFull (Some taken) (Some capacity) = capacity ≤ length taken
IsFull taken capacity = Unit {0}

-- what printing a text answers
abbrev pub Prints : Option (List ℕ) → Option (List ℕ) → ℕ → ℕ → List ℕ → Result (Unit {0}) PrintFault → Type 0
Prints old new before now text (Ok _) = Appends old new text × (now ≡ before)
Prints old new before now text (Err print.Write) = AppendsPart old new text × Rose before now
Prints old new before now text (Err print.NoMemory) = AppendsFront old new text × (now ≡ before)
