-- What a contract sees of a script in the middle, and of its end.
use Rattle.std.specs.Prelude.{◌≡◌, ◌++◌, ℕ, List, Result, Ok, Err}
use Rattle.script_play.specs.declared.play.Play.{Play}
use Rattle.script_play.specs.declared.play.ScriptFault.{ScriptFault}
use Rattle.script_play.specs.declared.play.ScriptFault.TheVariants as fault
use Rattle.script_play.specs.Play.{Moment, Outcome, Ended, Bad}

abbrev pub moment_of : {M : Type 0} → Play M → Moment M
moment_of p = record { machine = p.machine; made = p.made; text = p.out.items }

-- what a replay answers, by how the script ends
abbrev pub Plays : {M A : Type 0} → (A → List ℕ) → (M → List ℕ) → Outcome M → Result A ScriptFault → Type 0
Plays view ends (Ended m) (Ok out) = view out ≡ m.text ++ ends m.machine
Plays view ends (Ended m) (Err (fault.Bad line)) = ⊥
Plays view ends (Ended m) (Err fault.NoMemory) = Unit {0}
Plays view ends (Bad n) (Ok out) = ⊥
Plays view ends (Bad n) (Err (fault.Bad line)) = line ≡ n
Plays view ends (Bad n) (Err fault.NoMemory) = Unit {0}
