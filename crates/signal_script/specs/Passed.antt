-- THE RULE in each state that a script passes.
use Rattle.std.specs.Prelude.{ℕ, All, ⊤}
use Rattle.signal_core.specs.declared.view.About.{About}
use Rattle.signal_core.specs.Rule.{Rule}
use Rattle.script_play.specs.Play.{Outcome, Ended, Bad}
use Rattle.signal_script.specs.SignalScripts.{Script}

-- a script's kinds stand for nothing, so an emission may have any number
abbrev pub anything : ℕ → ℕ → Type 0
anything k x = ⊤

-- where the script ends, each state from the opening on meets the rule of the machine's table
abbrev pub EachMeetsTheRule : About → Outcome Script → Type 0
EachMeetsTheRule z (Ended m) = All (Rule anything z) m.machine.passed
EachMeetsTheRule z (Bad n) = ⊤
