use Rattle.std.proofs.Common.{◌≡◌, ◌≤◌, ◌++◌, length, drop}
use Rattle.wait_core.specs.Lists.{without}
use Rattle.condition_variable.proofs.list.take_off.Given as goal

abbrev pub invariant-loop-item : goal.invariant-loop-item
invariant-loop-item l = record {
  rest : l.rest.items ++ without l.proc (drop l.item-index l.item-items) ≡ without l.proc l.item-items;
  room : length l.rest.items ≤ l.item-index;
}
