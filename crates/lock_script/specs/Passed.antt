-- THE RULE in each state that a script passes.
use Rattle.std.specs.Prelude.{ℕ, List, All, ⊤}
use Rattle.lw_core.specs.declared.view.Size.{Size}
use Rattle.lw_core.specs.Rule.{Rule}
use Rattle.script_play.specs.Play.{Outcome, Ended, Bad}
use Rattle.lock_script.specs.LockScripts.{Script}

-- a script's guarded words stand for nothing, so they may be any numbers
abbrev pub anything : ℕ → List ℕ → Type 0
anything l words = ⊤

-- where the script ends, each state from the opening on meets the rule of the machine's table
abbrev pub EachMeetsTheRule : Size → Outcome Script → Type 0
EachMeetsTheRule z (Ended m) = All (Rule anything z) m.machine.passed
EachMeetsTheRule z (Bad n) = ⊤
