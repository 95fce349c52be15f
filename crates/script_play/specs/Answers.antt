-- WHAT A SCRIPT COMES TO: its text, or its first line that isn't in the grammar or isn't enabled.
use Rattle.std.specs.Prelude.{ℕ, ◌++◌, List, []}
use Rattle.script_play.specs.Play.{Moment, Outcome, Ended, Bad}

pub data Answer : Type 0 where
  Text : List ℕ → Answer
  BadLine : ℕ → Answer

abbrev pub opening_moment : {M : Type 0} → M → Moment M
opening_moment m = record { machine = m; made = 0; text = [] }

abbrev pub answer_by : {M : Type 0} → (M → List ℕ) → Outcome M → Answer
answer_by ends (Ended m) = Text (m.text ++ ends m.machine)
answer_by ends (Bad line) = BadLine line
