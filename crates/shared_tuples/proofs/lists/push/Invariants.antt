use Rattle.std.proofs.Common.{◌≡◌, ℕ, Option}
use Rattle.wait_core.specs.Seating.{client_moved}
use Rattle.shared_tuples.proofs.lists.push.Given as goal

abbrev pub invariant-loop : goal.invariant-loop
invariant-loop g l =
    let v = l.fn.seat.view in
    (l.seat.table_id ≡ l.fn.seat.table_id) × (l.seat.id ≡ l.fn.seat.id)
    × (k : Option (ℕ × ℕ)) × (l.seat.view ≡ client_moved v (record (v.client) { linked = k }))
