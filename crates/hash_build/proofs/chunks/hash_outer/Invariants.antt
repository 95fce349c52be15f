use Rattle.std.proofs.Common.{◌≡◌}
use Rattle.wait_core.specs.Seating.{client_moved, party_of}
use Rattle.join_party.specs.Joins.{join}
use Rattle.join_party.specs.Workers.{IsAt}
use Rattle.hash_build.specs.Hashing.{KnowsThese, Reached}
use Rattle.hash_build.proofs.chunks.hash_outer.Given as goal

abbrev pub invariant-loop : goal.invariant-loop
invariant-loop g l = IsAt l.tables l.seats × (l.seats.wait.id ≡ l.fn.seats.wait.id) × (l.seats.wait.view ≡ client_moved l.fn.seats.wait.view l.seats.wait.view.client) × Reached l.fn.seats l.seats l.fn.steps l.steps
    × KnowsThese (join l.tables.waits.party) (party_of l.seats.wait.view) l.sizes
