use Rattle.std.proofs.Common.{◌≡◌, Some}
use Rattle.lwlock.proofs.tests.number_refused.Given as goal

abbrev pub invariant-loop : goal.invariant-loop
invariant-loop l = (l.first.table_id ≡ l.initial.first.table_id) × (l.first.view.own ≡ Some 0)
