use Rattle.std.proofs.Common.{◌≡◌, drop}
use Rattle.wait_core.specs.Lists.{is_listed}
use Rattle.condition_variable.proofs.list.has.Given as goal

abbrev pub invariant-loop-item : goal.invariant-loop-item
invariant-loop-item l = is_listed l.proc (drop l.item-index l.list) ≡ is_listed l.proc l.list
