use Rattle.std.proofs.Common.{◌≡◌, drop}
use Rattle.wait_core.specs.Lists.{is_listed}
use Rattle.wait_script.proofs.lists.is_listed.Given as goal

abbrev pub invariant-backends : goal.invariant-backends
invariant-backends l = is_listed l.own l.list ≡ is_listed l.own (drop l.backend-index l.list)
