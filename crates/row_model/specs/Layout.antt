-- How fields lie in one text of bytes, by the place where each ends, and rows in the fields.
use Rattle.std.specs.Prelude.{◌≡◌, ◌-◌, ◌≤◌, ℕ, zero, suc, List, [], ◌∷◌, take, drop, ◌++◌, Option, Some, None, Result, Ok, Err}
use Rattle.row_model.specs.declared.RecordFault.{RecordFault}
use Rattle.row_model.specs.declared.RecordFault.TheVariants as cause
use Rattle.row_model.specs.declared.RowFault.{RowFault}
use Rattle.row_model.specs.Table.{Table}
use Rattle.row_model.specs.Form.{or_else, fault_so_far, form_fault, table_of}

-- the fields that end at these places, after a start
unfoldable pub fields_from : ℕ → List ℕ → List ℕ → List (List ℕ)
fields_from start [] bytes = []
fields_from start (end ∷ ends) bytes = take (end - start) (drop start bytes) ∷ fields_from end ends bytes

abbrev pub fields_of : List ℕ → List ℕ → List (List ℕ)
fields_of ends bytes = fields_from 0 ends bytes

-- the places rise, and the last is the end of the text
unfoldable pub Rising : ℕ → List ℕ → ℕ → Type 0
Rising start [] size = start ≡ size
Rising start (end ∷ ends) size = (start ≤ end) × Rising end ends size

-- the first rows of this width
unfoldable pub rows_of : ℕ → ℕ → List (List ℕ) → List (List (List ℕ))
rows_of width zero fields = []
rows_of width (suc n) fields = take width fields ∷ rows_of width n (drop width fields)

-- a builder, as its callers see it: the records that were ended, and the fields of the one at hand
pub record Building : Type 0 where
  pub key : List ℕ
  pub records : List (List (List ℕ))
  pub fields : List (List ℕ)
  pub refusal : Option RowFault

-- the record at hand is ended
abbrev pub ended : Building → Building
ended b = record b { records = b.records ++ b.fields ∷ []; fields = [] }

-- what is refused as the record at hand is ended: a refusal comes again
abbrev pub refusal_at : Building → Option RowFault
refusal_at b = or_else b.refusal (fault_so_far b.key (b.records ++ b.fields ∷ []))

-- what is refused at the end
abbrev pub refusal_of : Building → Option RowFault
refusal_of b = or_else b.refusal (form_fault b.records b.key)

-- how a record ends
abbrev pub EndsRecord : Building → Result (Unit {0}) RecordFault → Building → Type 0
EndsRecord old (Ok _) new = (refusal_at old ≡ None) × (new ≡ ended old)
EndsRecord old (Err cause.NoMemory) new = new ≡ old
EndsRecord old (Err (cause.Bad f)) new = (refusal_at old ≡ Some f) × (new ≡ record old { refusal = Some f })

-- how all the records become a table
abbrev pub Finishes : Building → Result Table RecordFault → Type 0
Finishes b (Ok t) = (refusal_of b ≡ None) × (t ≡ table_of b.records b.key)
Finishes b (Err cause.NoMemory) = Unit {0}
Finishes b (Err (cause.Bad f)) = refusal_of b ≡ Some f
