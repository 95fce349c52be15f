use Rattle.std.proofs.Common.{◌≡◌, ◌++◌, drop}
use Rattle.wait_core.specs.Lists.{without}
use Rattle.wait_script.proofs.lists.without.Given as goal

abbrev pub invariant-backends : goal.invariant-backends
invariant-backends l = l.others.items ++ without l.own (drop l.backend-index l.list) ≡ without l.own l.list
