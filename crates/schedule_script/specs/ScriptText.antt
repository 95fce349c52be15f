-- THE TEXT OF A SCRIPT, or its first line that isn't in the grammar or isn't enabled.
use Rattle.std.specs.Prelude.{ℕ, ◌+◌, List, [], ◌∷◌, length, Option, None, Some}
use Rattle.signal_core.specs.declared.view.About.{About}
use Rattle.lw_core.specs.declared.view.Size.{Size}
use Rattle.script_play.specs.Lines.{Numbered, lines, live}
use Rattle.script_play.specs.Answers.{Answer, BadLine, answer_by}
use Rattle.signal_script.specs.SignalScripts as signal
use Rattle.lock_script.specs.LockScripts as lock
use Rattle.wait_script.specs.declared.waits.Opening.{Opening}
use Rattle.wait_script.specs.WaitScripts as wait

-- by what the first line opens, on each machine
abbrev pub answer_under : Numbered → Option About → Option Size → Option Opening → List Numbered → Answer
answer_under header None None None rest = BadLine header.number
answer_under header None None (Some o) rest = answer_by wait.ends (wait.wait_play o rest)
answer_under header None (Some z) w rest = answer_by lock.ends (lock.lock_play z rest)
answer_under header (Some z) l w rest = answer_by signal.ends (signal.signal_play z rest)

-- the first line that isn't skipped names the machine; without one, the line after the last is bad
abbrev pub answer_of_lines : List Numbered → ℕ → Answer
answer_of_lines [] after = BadLine after
answer_of_lines (header ∷ rest) after = answer_under header (signal.signal_header header.text) (lock.lock_header header.text) (wait.wait_header header.text) rest

unfoldable pub script_answer : List ℕ → Answer
script_answer script = answer_of_lines (live 1 (lines script)) (length (lines script) + 1)
