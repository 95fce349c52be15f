use Rattle.std.proofs.Common.{◌≡◌, Option}
use Rattle.wait_core.specs.Seating.{client_moved}
use Rattle.join_law.specs.declared.view.Taking.{Taking}
use Rattle.shared_tuples.proofs.lists.take_first.Given as goal

abbrev pub invariant-loop : goal.invariant-loop
invariant-loop g l =
    let v = l.fn.seat.view in
    (l.seat.table_id ≡ l.fn.seat.table_id) × (l.seat.id ≡ l.fn.seat.id)
    × (k : Option Taking) × (l.seat.view ≡ client_moved v (record (v.client) { taking = k }))
