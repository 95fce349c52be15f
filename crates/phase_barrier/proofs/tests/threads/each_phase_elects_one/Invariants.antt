use Rattle.std.proofs.Common.{◌≡◌, [], None, Some}
use Rattle.phase_barrier.proofs.tests.threads.each_phase_elects_one.Given as goal

abbrev pub invariant-loop : goal.invariant-loop
invariant-loop g l = (l.zero.table_id ≡ l.table.table_id) × (l.zero.view.own ≡ Some 0) × (l.zero.view.place ≡ []) × (l.zero.view.target ≡ None) × (l.zero.view.attached ≡ [])
