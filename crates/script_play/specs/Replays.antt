-- What a replay answers.
use Rattle.std.specs.Prelude.{◌≡◌, ℕ, List, Result, Ok, Err}
use Rattle.script_play.specs.declared.play.ScriptFault.{ScriptFault}
use Rattle.script_play.specs.declared.play.ScriptFault.TheVariants as fault
use Rattle.script_play.specs.Answers.{Answer, Text, BadLine}

-- exactly what the script's definition says, or memory ran out
abbrev pub Replays : {A : Type 0} → (A → List ℕ) → Answer → Result A ScriptFault → Type 0
Replays view (Text text) (Ok out) = view out ≡ text
Replays view (Text text) (Err (fault.Bad line)) = ⊥
Replays view (Text text) (Err fault.NoMemory) = Unit {0}
Replays view (BadLine n) (Ok out) = ⊥
Replays view (BadLine n) (Err (fault.Bad line)) = line ≡ n
Replays view (BadLine n) (Err fault.NoMemory) = Unit {0}
