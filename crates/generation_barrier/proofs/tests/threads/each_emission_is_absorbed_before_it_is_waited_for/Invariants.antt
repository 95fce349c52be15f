use Rattle.std.proofs.Common.{◌≡◌, [], None, Some}
use Rattle.generation_barrier.proofs.tests.threads.each_emission_is_absorbed_before_it_is_waited_for.Given as goal

abbrev pub invariant-loop-record : goal.invariant-loop-record
invariant-loop-record g l = (l.zero.table_id ≡ l.initial.zero.table_id) × (l.zero.view.own ≡ Some 0) × (l.zero.view.place ≡ None) × (l.zero.view.slot ≡ None)
    × (l.waiter.table_id ≡ l.initial.waiter.table_id) × (l.waiter.view.own ≡ Some 0) × (l.waiter.view.place ≡ []) × (l.waiter.view.target ≡ None)
