-- What a join of two inputs answers, why, and what it has written.
use Rattle.std.specs.Prelude.{◌≡◌, ◌+◌, ◌<◌, ◌≤◌, ◌⊎◌, ℕ, nat_lt, if◌then◌else◌, List, [], length, Option, Some, None, IfSome, IsSome, option_map}
use Rattle.std.specs.Io.KnownBytes.{Appends}
use Rattle.row_model.specs.declared.Pair.{Pair}
use Rattle.row_model.specs.declared.RowFault.{RowFault}
use Rattle.row_model.specs.declared.Side.{Side}
use Rattle.row_model.specs.declared.Side.TheVariants as side
use Rattle.row_model.specs.Form.{form_fault, table_of}
use Rattle.row_model.specs.Table.{nested_loop}
use Rattle.csv_tables.specs.declared.LoadFault.{LoadFault}
use Rattle.csv_tables.specs.declared.LoadFault.TheVariants as load
use Rattle.csv_tables.specs.Faults.{Rose}
use Rattle.csv_tables.specs.Loading.{input_limit}
use Rattle.csv_tables.specs.Appending.{AppendsPart, AppendsFront}
use Rattle.csv_tables.specs.Records.{records_of}
use Rattle.csv_tables.specs.Text.{joined_text}
use Rattle.join_engine.specs.Limit.{pair_limit}
use Rattle.pg_sync.specs.declared.status.Status.{Status}
use Rattle.pg_sync.specs.declared.status.Status.TheVariants as status
use Rattle.pg_sync.specs.Make.{made_pairs, made_text}
use Rattle.pg_sync.specs.Schedule.{script_due, script_status}
use Rattle.pg_sync.specs.Words.{Job, Task, Join, Schedule, Make}

-- the pairs of the nested-loop join of two inputs by one thread
abbrev pub pairs_of : Job → List ℕ → List ℕ → List Pair
pairs_of job inner outer = nested_loop (table_of (records_of outer) job.outer_key) (table_of (records_of inner) job.inner_key)

-- the text of that join
abbrev pub text_of : Job → List ℕ → List ℕ → List ℕ
text_of job inner outer = joined_text (table_of (records_of outer) job.outer_key) (table_of (records_of inner) job.inner_key)

-- what the bytes of one side alone are refused for: their length, else their first fault of form
abbrev pub side_refusal : Side → List ℕ → List ℕ → Option Status
side_refusal s key bytes =
    if nat_lt input_limit (length bytes) then Some (status.TooLong s)
    else option_map (status.BadInput s) (form_fault (records_of bytes) key)

-- the first of two refusals
abbrev pub or_next : Option Status → Option Status → Option Status
or_next (Some s) next = Some s
or_next None next = next

-- the join of two tables is refused where it has too many rows
abbrev pub join_refusal : Job → List ℕ → List ℕ → Option Status
join_refusal job inner outer = if nat_lt pair_limit (length (pairs_of job inner outer)) then Some status.TooManyResults else None

-- the answer that the bytes decide, where enough of them is told: the inner side's refusal, else the outer side's, else the
-- join's, else Done
unfoldable pub answer_of : Job → Option (List ℕ) → Option (List ℕ) → Option Status
answer_of job None outer = None
answer_of job (Some inner) None = side_refusal side.Inner job.inner_key inner
answer_of job (Some inner) (Some outer) =
    or_next (side_refusal side.Inner job.inner_key inner) (or_next (side_refusal side.Outer job.outer_key outer)
    (or_next (join_refusal job inner outer) (Some status.Done)))

-- the text that is due, where the bytes of both inputs are told: that of the join where they decide Done, and else none
abbrev pub text_after : Option Status → List ℕ → List ℕ
text_after (Some status.Done) text = text
text_after refused text = []

unfoldable pub due_text : Job → Option (List ℕ) → Option (List ℕ) → Option (List ℕ)
due_text job (Some inner) (Some outer) = Some (text_after (answer_of job (Some inner) (Some outer)) (text_of job inner outer))
due_text job (Some inner) None = None
due_text job None outer = None

-- the bytes are a table with this key
abbrev pub IsTable : List ℕ → List ℕ → Type 0
IsTable key bytes = (length bytes ≤ input_limit) × (form_fault (records_of bytes) key ≡ None)

-- what holds of the bytes of both sides, where they are told
abbrev pub IfBoth : Option (List ℕ) → Option (List ℕ) → (List ℕ → List ℕ → Type 0) → Type 0
IfBoth inner outer P = IfSome inner (λ i. IfSome outer (P i))

-- the bytes of both sides are tables, and their join has few enough rows
abbrev pub IsJoinable : Job → Option (List ℕ) → Option (List ℕ) → Type 0
IsJoinable job inner outer = IfSome inner (IsTable job.inner_key) × IfSome outer (IsTable job.outer_key)
    × IfBoth inner outer (λ i o. length (pairs_of job i o) ≤ pair_limit)

-- the bytes of both sides are tables, and their join has too many rows
abbrev pub HasTooManyResults : Job → Option (List ℕ) → Option (List ℕ) → Type 0
HasTooManyResults job inner outer = IfSome inner (IsTable job.inner_key) × IfSome outer (IsTable job.outer_key)
    × IfBoth inner outer (λ i o. pair_limit < length (pairs_of job i o))

-- the bytes have this fault of form
abbrev pub HasFault : List ℕ → RowFault → List ℕ → Type 0
HasFault key f bytes = (length bytes ≤ input_limit) × (form_fault (records_of bytes) key ≡ Some f)

-- what the bytes, where they are told, show of each answer
abbrev pub BytesShow : Job → Option (List ℕ) → Option (List ℕ) → Status → Type 0
BytesShow job inner outer status.Done = IsJoinable job inner outer
BytesShow job inner outer status.Words = ⊥
BytesShow job inner outer (status.OpenFault side.Inner) = Unit {0}
BytesShow job inner outer (status.ReadFault side.Inner) = Unit {0}
BytesShow job inner outer (status.TooLong side.Inner) = IfSome inner (λ i. input_limit < length i)
BytesShow job inner outer (status.BadInput side.Inner f) = IfSome inner (HasFault job.inner_key f)
BytesShow job inner outer (status.OpenFault side.Outer) = IfSome inner (IsTable job.inner_key)
BytesShow job inner outer (status.ReadFault side.Outer) = IfSome inner (IsTable job.inner_key)
BytesShow job inner outer (status.TooLong side.Outer) = IfSome inner (IsTable job.inner_key) × IfSome outer (λ o. input_limit < length o)
BytesShow job inner outer (status.BadInput side.Outer f) = IfSome inner (IsTable job.inner_key) × IfSome outer (HasFault job.outer_key f)
BytesShow job inner outer status.TooManyResults = HasTooManyResults job inner outer
BytesShow job inner outer status.WriteFault = IsJoinable job inner outer
BytesShow job inner outer status.NoMemory = Unit {0}
BytesShow job inner outer (status.BadScript line) = ⊥

-- the counts of faults of two inputs
pub record Counts : Type 0 where
  pub opens : Side → ℕ
  pub reads : Side → ℕ

abbrev pub counts_of : {I : Type 0} → (I → Side → ℕ) → (I → Side → ℕ) → I → Counts
counts_of opens reads inputs = record { opens = opens inputs; reads = reads inputs }

-- no fault was counted on a side
abbrev pub IsQuiet : Counts → Counts → Side → Type 0
IsQuiet before now s = (now.opens s ≡ before.opens s) × (now.reads s ≡ before.reads s)

-- no fault was counted, of the inputs and of the sink
abbrev pub NoneFailed : Counts → Counts → ℕ → ℕ → Type 0
NoneFailed before now faults faults' = IsQuiet before now side.Inner × IsQuiet before now side.Outer × (faults' ≡ faults)

-- what the counts of faults, of the inputs and then of the sink, show of each answer
abbrev pub CountsShow : Counts → Counts → ℕ → ℕ → Status → Type 0
CountsShow before now faults faults' status.Done = NoneFailed before now faults faults'
CountsShow before now faults faults' status.Words = ⊥
CountsShow before now faults faults' (status.OpenFault side.Inner) =
    Rose (before.opens side.Inner) (now.opens side.Inner) × IsQuiet before now side.Outer × (faults' ≡ faults)
CountsShow before now faults faults' (status.ReadFault side.Inner) =
    Rose (before.reads side.Inner) (now.reads side.Inner) × IsQuiet before now side.Outer × (faults' ≡ faults)
CountsShow before now faults faults' (status.OpenFault side.Outer) =
    IsQuiet before now side.Inner × Rose (before.opens side.Outer) (now.opens side.Outer) × (faults' ≡ faults)
CountsShow before now faults faults' (status.ReadFault side.Outer) =
    IsQuiet before now side.Inner × Rose (before.reads side.Outer) (now.reads side.Outer) × (faults' ≡ faults)
CountsShow before now faults faults' (status.TooLong s) = NoneFailed before now faults faults'
CountsShow before now faults faults' (status.BadInput s f) = NoneFailed before now faults faults'
CountsShow before now faults faults' status.TooManyResults = NoneFailed before now faults faults'
CountsShow before now faults faults' status.WriteFault = IsQuiet before now side.Inner × IsQuiet before now side.Outer × Rose faults faults'
CountsShow before now faults faults' status.NoMemory = NoneFailed before now faults faults'
CountsShow before now faults faults' (status.BadScript line) = NoneFailed before now faults faults'

-- what each answer has left written: all of the text, a proper front of it after a failed write, any front of it after
-- want of memory, and else nothing
abbrev pub Leaves : Option (List ℕ) → Option (List ℕ) → Option (List ℕ) → Status → Type 0
Leaves old new text status.Done = IfSome text (λ t. Appends old new t)
Leaves old new text status.WriteFault = IfSome text (λ t. AppendsPart old new t)
Leaves old new text status.NoMemory = IfSome text (λ t. AppendsFront old new t)
Leaves old new text status.Words = new ≡ old
Leaves old new text (status.OpenFault s) = new ≡ old
Leaves old new text (status.ReadFault s) = new ≡ old
Leaves old new text (status.TooLong s) = new ≡ old
Leaves old new text (status.BadInput s f) = new ≡ old
Leaves old new text status.TooManyResults = new ≡ old
Leaves old new text (status.BadScript line) = new ≡ old

-- the text that is due of the join of two tables, which has so many pairs: none where they are too many
abbrev pub text_within : ℕ → List ℕ → List ℕ
text_within pairs text = if nat_lt pair_limit pairs then [] else text

-- what the join of two tables answers, which has so many pairs and this text
abbrev pub JoinShows : ℕ → List ℕ → Option (List ℕ) → Option (List ℕ) → ℕ → ℕ → Status → Type 0
JoinShows pairs text old new faults faults' status.Done = (pairs ≤ pair_limit) × Appends old new text × (faults' ≡ faults)
JoinShows pairs text old new faults faults' status.TooManyResults = (pair_limit < pairs) × (new ≡ old) × (faults' ≡ faults)
JoinShows pairs text old new faults faults' status.WriteFault = (pairs ≤ pair_limit) × AppendsPart old new text × Rose faults faults'
JoinShows pairs text old new faults faults' status.NoMemory = AppendsFront old new (text_within pairs text) × (faults' ≡ faults)
JoinShows pairs text old new faults faults' status.Words = ⊥
JoinShows pairs text old new faults faults' (status.OpenFault s) = ⊥
JoinShows pairs text old new faults faults' (status.ReadFault s) = ⊥
JoinShows pairs text old new faults faults' (status.TooLong s) = ⊥
JoinShows pairs text old new faults faults' (status.BadInput s f) = ⊥
JoinShows pairs text old new faults faults' (status.BadScript line) = ⊥

-- no fault rose on a side
pub record NoneRose (before now : Counts) (s : Side) : Type 0 where
  pub opens : Rose (before.opens s) (now.opens s) → ⊥
  pub reads : Rose (before.reads s) (now.reads s) → ⊥

-- no fault rose in the calls that come before this answer
abbrev pub NoFaultBefore : Counts → Counts → ℕ → ℕ → Status → Type 0
NoFaultBefore before now faults faults' (status.TooLong side.Inner) = NoneRose before now side.Inner
NoFaultBefore before now faults faults' (status.BadInput side.Inner f) = NoneRose before now side.Inner
NoFaultBefore before now faults faults' (status.TooLong side.Outer) = NoneRose before now side.Inner × NoneRose before now side.Outer
NoFaultBefore before now faults faults' (status.BadInput side.Outer f) = NoneRose before now side.Inner × NoneRose before now side.Outer
NoFaultBefore before now faults faults' status.TooManyResults = NoneRose before now side.Inner × NoneRose before now side.Outer
NoFaultBefore before now faults faults' s = NoneRose before now side.Inner × NoneRose before now side.Outer × (Rose faults faults' → ⊥)

-- where no fault rose before it, a join gives the answer that the bytes decide, or memory ran out
abbrev pub Decided : Job → Option (List ℕ) → Option (List ℕ) → Counts → Counts → ℕ → ℕ → Status → Type 0
Decided job inner outer before now faults faults' result =
    IfSome (answer_of job inner outer) (λ s. NoFaultBefore before now faults faults' s → (result ≡ s) ⊎ (result ≡ status.NoMemory))

-- the answer isn't that an open or a read failed
abbrev pub NoInputFailed : Status → Type 0
NoInputFailed (status.OpenFault s) = ⊥
NoInputFailed (status.ReadFault s) = ⊥
NoInputFailed status.Done = Unit {0}
NoInputFailed status.Words = Unit {0}
NoInputFailed (status.TooLong s) = Unit {0}
NoInputFailed (status.BadInput s f) = Unit {0}
NoInputFailed status.TooManyResults = Unit {0}
NoInputFailed status.WriteFault = Unit {0}
NoInputFailed status.NoMemory = Unit {0}
NoInputFailed (status.BadScript line) = Unit {0}

-- a sink that tells what it has taken, and how many bytes it takes in all, has room for a text
abbrev pub HasRoom : Option (List ℕ) → Option ℕ → Option (List ℕ) → Type 0
HasRoom (Some taken) (Some capacity) (Some text) = length taken + length text ≤ capacity
HasRoom taken capacity text = ⊥

-- what stands of the inputs and the sink before a run in which nothing can fail: no call of the inputs will, both names are
-- there, and the sink has room for the text that is due
pub record AllIsThere (is_steady : Type 0) (inner_held outer_held taken : Option (List ℕ)) (capacity : Option ℕ) (text : Option (List ℕ)) : Type 0 where
  pub steady : is_steady
  pub inner : IsSome inner_held
  pub outer : IsSome outer_held
  pub room : HasRoom taken capacity text

-- the status of a refused input
abbrev pub refusal_of : Side → LoadFault → Status
refusal_of s load.Open = status.OpenFault s
refusal_of s load.Read = status.ReadFault s
refusal_of s load.TooLong = status.TooLong s
refusal_of s (load.Bad f) = status.BadInput s f
refusal_of s load.NoMemory = status.NoMemory

-- the text that is due for a list of words
abbrev pub text_for : Option Task → (List ℕ → Option (List ℕ)) → Option (List ℕ)
text_for None held = None
text_for (Some (Join job)) held = due_text job (held job.inner) (held job.outer)
text_for (Some (Schedule name)) held = script_due (held name)
text_for (Some (Make rows start workers)) held = Some (text_within (length (made_pairs rows start)) (made_text rows start))

-- no fault rose in the calls that come before this answer of a script
abbrev pub ScriptFaultless : Counts → Counts → ℕ → ℕ → Status → Type 0
ScriptFaultless before now faults faults' status.Done = NoneRose before now side.Inner × (Rose faults faults' → ⊥)
ScriptFaultless before now faults faults' s = NoneRose before now side.Inner

-- where no fault rose before it, a script gives the answer that the bytes decide, or memory ran out
abbrev pub ScriptDecided : Option (List ℕ) → Counts → Counts → ℕ → ℕ → Status → Type 0
ScriptDecided told before now faults faults' result = IfSome (script_status told) (λ s. ScriptFaultless before now faults faults' s → (result ≡ s) ⊎ (result ≡ status.NoMemory))
