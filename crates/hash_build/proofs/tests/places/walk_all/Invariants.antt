use Rattle.std.proofs.Common.{◌≡◌, []}
use Rattle.hash_build.proofs.tests.places.walk_all.Given as goal

abbrev pub invariant-loop-head : goal.invariant-loop-head
invariant-loop-head g l = (l.seat.table_id ≡ l.waits.table_id) × (l.seat.view.place ≡ [])
