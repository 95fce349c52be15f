use Rattle.std.proofs.Common.{◌≡◌, [], None, Some}
use Rattle.condition_variable.proofs.tests.threads.each_broadcast_wakes_each_sleeper_once.Given as goal

abbrev pub invariant-loop-number : goal.invariant-loop-number
invariant-loop-number g l = (l.zero.table_id ≡ l.initial.zero.table_id) × (l.zero.view.own ≡ Some 0) × (l.zero.view.place ≡ []) × (l.zero.view.target ≡ None)
