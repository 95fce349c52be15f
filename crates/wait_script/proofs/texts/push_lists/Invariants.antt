use Rattle.std.proofs.Common.{◌≡◌, ◌++◌, drop, map}
use Rattle.wait_script.specs.Waits.{list_text}
use Rattle.wait_script.specs.WaitSketch.{kept_of}
use Rattle.script_play.specs.Texts.{texts_of}
use Rattle.wait_script.proofs.texts.push_lists.Given as goal

abbrev pub invariant-lists : goal.invariant-lists
invariant-lists l = l.initial.out.items ++ texts_of list_text (map kept_of l.homes) 0 ≡ l.out.items ++ texts_of list_text (drop l.condition (map kept_of l.homes)) l.condition
