use Rattle.std.proofs.Common.{◌≡◌, [], None, Some}
use Rattle.phase_barrier.proofs.tests.threads.late_and_early_participants.Given as goal

abbrev pub invariant-loop-seed : goal.invariant-loop-seed
invariant-loop-seed g l = (l.zero.table_id ≡ l.table.table_id) × (l.zero.view.own ≡ Some 0) × (l.zero.view.place ≡ []) × (l.zero.view.target ≡ None) × (l.zero.view.attached ≡ [])
