use Rattle.std.proofs.Common.{◌≡◌, []}
use Rattle.hash_build.proofs.tests.places.walk.Given as goal

abbrev pub invariant-loop : goal.invariant-loop
invariant-loop g l = (l.seat.table_id ≡ l.waits.table_id) × (l.seat.view.place ≡ [])
