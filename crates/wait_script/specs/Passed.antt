-- THE RULE in each state that a script passes.
use Rattle.std.specs.Prelude.{All, ⊤}
use Rattle.wait_core.specs.Meanings.{Meanings}
use Rattle.wait_core.specs.Rule.{Rule}
use Rattle.script_play.specs.Play.{Outcome, Ended, Bad}
use Rattle.wait_script.specs.declared.waits.Opening.{Opening}
use Rattle.wait_script.specs.WaitScripts.{Script}

-- the client of a script's barriers has no word and no view, and asks for nothing
abbrev pub no_client : Meanings (Unit {0})
no_client = record { holds = λ words views phases. ⊤; quiet = λ v b ph. ⊤; passes = λ b ph. ⊤; enters = λ v b. ⊤; stays = λ b ph. ⊥ }

-- where the script ends, each state from the opening on meets the rule of the machine's table
abbrev pub EachMeetsTheRule : Opening → Outcome Script → Type 0
EachMeetsTheRule o (Ended m) = All (Rule no_client o.size o.phase 0) m.machine.passed
EachMeetsTheRule o (Bad n) = ⊤
