-- The answer of a script, by its first line.
use Rattle.std.proofs.Common.{◌≡◌, ℕ, ◌+◌, List, [], ◌∷◌, length, Result, refl, arith}
use Rattle.std.specs.Prelude.{Ok, Err}
use Rattle.script_play.specs.declared.play.ScriptFault.{ScriptFault}
use Rattle.script_play.specs.declared.play.ScriptFault.TheVariants as fault
use Rattle.script_play.specs.Lines.{Numbered, lines, live}
use Rattle.script_play.specs.Moments.{Plays}
use Rattle.script_play.specs.Play.{Outcome, Ended, Bad}
use Rattle.script_play.specs.Replays.{Replays}
use Rattle.script_play.specs.Answers.{BadLine, answer_by}
use Rattle.schedule_script.specs.ScriptText.{answer_under, script_answer}
use Rattle.signal_script.specs.SignalScripts.{signal_header}
use Rattle.lock_script.specs.LockScripts.{lock_header}
use Rattle.wait_script.specs.WaitScripts.{wait_header}

pub no_header : (script : List ℕ) (n : ℕ) → live 1 (lines script) ≡ [] → n ≡ 1 + length (lines script) → script_answer script ≡ BadLine n
unfolding script_answer
no_header script n none is = let e : length (lines script) + 1 ≡ n = omega arith in rw (none, e) refl

pub under_header : (script : List ℕ) (header : Numbered) (rest : List Numbered) → live 1 (lines script) ≡ header ∷ rest → script_answer script ≡ answer_under header (signal_header header.text) (lock_header header.text) (wait_header header.text) rest
unfolding script_answer
under_header script header rest is = rw is refl

pub replays : {M A : Type 0} (view : A → List ℕ) (ends : M → List ℕ) (o : Outcome M) (r : Result A ScriptFault) → Plays view ends o r → Replays view (answer_by ends o) r
replays view ends (Ended m) (Ok out) h = h
replays view ends (Ended m) (Err (fault.Bad line)) h = h
replays view ends (Ended m) (Err fault.NoMemory) h = tt
replays view ends (Bad n) (Ok out) h = h
replays view ends (Bad n) (Err (fault.Bad line)) h = h
replays view ends (Bad n) (Err fault.NoMemory) h = tt
