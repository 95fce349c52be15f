-- What the replay of a script answers, why, and what it has written.
use Rattle.std.specs.Prelude.{◌≡◌, ◌<◌, ◌≤◌, ℕ, nat_lt, if◌then◌else◌, List, [], length, Option, Some, None, IfSome, ⊤}
use Rattle.std.specs.Io.KnownBytes.{Appends}
use Rattle.row_model.specs.declared.Side.TheVariants as side
use Rattle.csv_tables.specs.Faults.{Rose}
use Rattle.csv_tables.specs.Loading.{input_limit}
use Rattle.csv_tables.specs.Appending.{AppendsPart}
use Rattle.script_play.specs.Answers.{Answer, Text, BadLine}
use Rattle.schedule_script.specs.ScriptText.{script_answer}
use Rattle.pg_sync.specs.declared.status.Status.{Status}
use Rattle.pg_sync.specs.declared.status.Status.TheVariants as status

-- the text that a script's answer has, and the status that it is
abbrev pub text_in : Answer → List ℕ
text_in (Text text) = text
text_in (BadLine line) = []

abbrev pub status_of : Answer → Status
status_of (Text text) = status.Done
status_of (BadLine line) = status.BadScript line

-- the text that is due, and the answer that the bytes decide, where they are told
unfoldable pub script_due : Option (List ℕ) → Option (List ℕ)
script_due None = None
script_due (Some script) = Some (if nat_lt input_limit (length script) then [] else text_in (script_answer script))

unfoldable pub script_status : Option (List ℕ) → Option Status
script_status None = None
script_status (Some script) = Some (if nat_lt input_limit (length script) then status.TooLong side.Inner else status_of (script_answer script))

-- the script has a text; its first bad line is this one
abbrev pub IsText : Answer → Type 0
IsText (Text text) = ⊤
IsText (BadLine line) = ⊥

abbrev pub IsBadAt : ℕ → Answer → Type 0
IsBadAt n (Text text) = ⊥
IsBadAt n (BadLine line) = line ≡ n

-- what the bytes, where they are told, show of each answer
abbrev pub ScriptShows : Option (List ℕ) → Status → Type 0
ScriptShows told status.Done = IfSome told (λ script. (length script ≤ input_limit) × IsText (script_answer script))
ScriptShows told status.WriteFault = IfSome told (λ script. (length script ≤ input_limit) × IsText (script_answer script))
ScriptShows told (status.BadScript n) = IfSome told (λ script. (length script ≤ input_limit) × IsBadAt n (script_answer script))
ScriptShows told (status.TooLong side.Inner) = IfSome told (λ script. input_limit < length script)
ScriptShows told (status.OpenFault side.Inner) = ⊤
ScriptShows told (status.ReadFault side.Inner) = ⊤
ScriptShows told status.NoMemory = ⊤
ScriptShows told (status.TooLong side.Outer) = ⊥
ScriptShows told (status.OpenFault side.Outer) = ⊥
ScriptShows told (status.ReadFault side.Outer) = ⊥
ScriptShows told (status.BadInput s f) = ⊥
ScriptShows told status.Words = ⊥
ScriptShows told status.TooManyResults = ⊥

-- what the replay of a script and the writing of its text show
abbrev pub PlayShows : Answer → Option (List ℕ) → Option (List ℕ) → ℕ → ℕ → Status → Type 0
PlayShows (Text text) old new faults faults' status.Done = Appends old new text × (faults' ≡ faults)
PlayShows (Text text) old new faults faults' status.WriteFault = AppendsPart old new text × Rose faults faults'
PlayShows (BadLine n) old new faults faults' (status.BadScript line) = (line ≡ n) × (new ≡ old) × (faults' ≡ faults)
PlayShows answer old new faults faults' status.NoMemory = (new ≡ old) × (faults' ≡ faults)
PlayShows answer old new faults faults' s = ⊥
