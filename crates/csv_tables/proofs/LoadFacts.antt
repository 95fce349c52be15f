-- What a builder of all the records of a text finishes as.
use Rattle.std.proofs.Common.{◌≡◌, List, ℕ, Result, Ok, Err, Some, None, refl}
use Rattle.row_model.specs.Table.{Table}
use Rattle.row_model.specs.declared.RowFault.{RowFault}
use Rattle.row_model.specs.declared.RecordFault.{RecordFault}
use Rattle.row_model.specs.declared.RecordFault.TheVariants as cause
use Rattle.row_model.specs.Form.{form_fault}
use Rattle.row_model.specs.Layout.{Building, Finishes}
use Rattle.csv_tables.specs.Records.{records_of}
use Rattle.csv_tables.specs.Loading.{LoadsText}

pub finishes-text : (b : Building) (key bytes : List ℕ) (r : Result Table RecordFault) → b.refusal ≡ None → b.key ≡ key → records_of bytes ≡ b.records
    → Finishes b r → LoadsText bytes key r
finishes-text b key bytes (Ok t) clean k e h = rw e (rw (clean, k) at h.0, rw k at h.1)
finishes-text b key bytes (Err cause.NoMemory) clean k e h = tt
finishes-text b key bytes (Err (cause.Bad f)) clean k e h = rw e (rw (clean, k) at h)

pub refused-text : (key bytes : List ℕ) (x : RecordFault) → ((f : RowFault) → x ≡ cause.Bad f → form_fault (records_of bytes) key ≡ Some f) → LoadsText bytes key (Err x)
refused-text key bytes (cause.Bad f) why = why f refl
refused-text key bytes cause.NoMemory why = tt
