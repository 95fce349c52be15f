-- What reading a whole input, and a table from it, answers.
use Rattle.std.specs.Prelude.{◌≡◌, ◌<◌, ◌≤◌, ℕ, List, length, Option, Some, None, Result, Ok, Err, IfSome}
use Rattle.row_model.specs.Table.{Table}
use Rattle.row_model.specs.Form.{form_fault, table_of}
use Rattle.row_model.specs.declared.RecordFault.{RecordFault}
use Rattle.row_model.specs.declared.RecordFault.TheVariants as cause
use Rattle.csv_tables.specs.declared.LoadFault.{LoadFault}
use Rattle.csv_tables.specs.declared.LoadFault.TheVariants as load
use Rattle.csv_tables.specs.Faults.{Rose}
use Rattle.csv_tables.specs.Records.{records_of}

-- the most bytes of one input
abbrev pub input_limit : ℕ
input_limit = 67108864

-- what a read of a whole input answers, where the bytes are told
abbrev pub ReadsAll : {T : Type 0} → (T → List ℕ) → Option (List ℕ) → Result T LoadFault → Type 0
ReadsAll view told (Ok t) = IfSome told (λ held. (view t ≡ held) × (length held ≤ input_limit))
ReadsAll view told (Err load.TooLong) = IfSome told (λ held. input_limit < length held)
ReadsAll view told (Err (load.Bad f)) = ⊥
ReadsAll view told (Err load.Open) = Unit {0}
ReadsAll view told (Err load.Read) = Unit {0}
ReadsAll view told (Err load.NoMemory) = Unit {0}

-- what making a table of a text answers
abbrev pub LoadsText : List ℕ → List ℕ → Result Table RecordFault → Type 0
LoadsText bytes key (Ok table) = (form_fault (records_of bytes) key ≡ None) × (table ≡ table_of (records_of bytes) key)
LoadsText bytes key (Err (cause.Bad f)) = form_fault (records_of bytes) key ≡ Some f
LoadsText bytes key (Err cause.NoMemory) = Unit {0}

-- what a load of a table answers, where the bytes are told
abbrev pub Loads : Option (List ℕ) → List ℕ → Result Table LoadFault → Type 0
Loads told key (Ok table) = IfSome told (λ held. (length held ≤ input_limit) × (form_fault (records_of held) key ≡ None) × (table ≡ table_of (records_of held) key))
Loads told key (Err load.TooLong) = IfSome told (λ held. input_limit < length held)
Loads told key (Err (load.Bad f)) = IfSome told (λ held. (length held ≤ input_limit) × (form_fault (records_of held) key ≡ Some f))
Loads told key (Err load.Open) = Unit {0}
Loads told key (Err load.Read) = Unit {0}
Loads told key (Err load.NoMemory) = Unit {0}

-- the answer isn't that an open or a read failed
abbrev pub NothingFailed : {T : Type 0} → Result T LoadFault → Type 0
NothingFailed (Ok t) = Unit {0}
NothingFailed (Err load.Open) = ⊥
NothingFailed (Err load.Read) = ⊥
NothingFailed (Err load.TooLong) = Unit {0}
NothingFailed (Err (load.Bad f)) = Unit {0}
NothingFailed (Err load.NoMemory) = Unit {0}

-- what each answer says of the counts of opens and of reads
abbrev pub LoadCause : {T : Type 0} → ℕ → ℕ → ℕ → ℕ → Result T LoadFault → Type 0
LoadCause opens opens' reads reads' (Ok t) = (opens' ≡ opens) × (reads' ≡ reads)
LoadCause opens opens' reads reads' (Err load.Open) = Rose opens opens'
LoadCause opens opens' reads reads' (Err load.Read) = Rose reads reads'
LoadCause opens opens' reads reads' (Err load.TooLong) = (opens' ≡ opens) × (reads' ≡ reads)
LoadCause opens opens' reads reads' (Err (load.Bad f)) = (opens' ≡ opens) × (reads' ≡ reads)
LoadCause opens opens' reads reads' (Err load.NoMemory) = (opens' ≡ opens) × (reads' ≡ reads)
