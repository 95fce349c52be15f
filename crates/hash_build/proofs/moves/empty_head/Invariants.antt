use Rattle.std.proofs.Common.{◌≡◌}
use Rattle.wait_core.specs.Seating.{party_of}
use Rattle.hash_build.specs.Growths.{MovesRows, SweptTo}
use Rattle.hash_build.proofs.moves.empty_head.Given as goal

abbrev pub invariant-loop : goal.invariant-loop
invariant-loop g l = (l.seats.wait.table_id ≡ l.fn.seats.wait.table_id) × (l.seats.wait.id ≡ l.fn.seats.wait.id) × (l.seats.lock ≡ l.fn.seats.lock) × (l.seats.signal ≡ l.fn.seats.signal)
    × MovesRows l.fn.seats.wait.view l.seats.wait.view × (SweptTo l.growth l.turn (party_of l.fn.seats.wait.view) → SweptTo l.growth l.turn (party_of l.seats.wait.view))
