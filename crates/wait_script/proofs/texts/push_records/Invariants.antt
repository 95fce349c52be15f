use Rattle.std.proofs.Common.{◌≡◌, ◌++◌, drop, map}
use Rattle.wait_script.specs.Waits.{record_text}
use Rattle.wait_script.specs.WaitSketch.{kept_of}
use Rattle.script_play.specs.Texts.{texts_of}
use Rattle.wait_script.proofs.texts.push_records.Given as goal

abbrev pub invariant-records : goal.invariant-records
invariant-records l = l.initial.out.items ++ texts_of (record_text l.phase) (map kept_of l.homes) 0 ≡ l.out.items ++ texts_of (record_text l.phase) (drop l.barrier (map kept_of l.homes)) l.barrier
