use Rattle.wait_core.specs.Seating.{party_of}
use Rattle.join_party.specs.Joins.{join}
use Rattle.hash_build.proofs.Hashing.{leads_by}
use Rattle.hash_build.proofs.rows.place_hashed.Goals as goal

pub place-requires-clause-row : goal.place-requires-clause-row
place-requires-clause-row g c =
    let led = leads_by (join c.args.tables.now.waits.party) (party_of c.args.seats.now.wait.view) c.args.sizes c.of-route.result c.args.row _ c.requires.known c.requires.hash c.of-route.ensures.bucket c.of-route.ensures.batch in
    record { phase = c.requires.phase; ready = c.requires.row.1; of_side = c.requires.row.0; few = led.1; leads = led.0 }

pub returns-clause-few : goal.returns-clause-few
returns-clause-few g c =
    (leads_by (join c.args.tables.now.waits.party) (party_of c.args.seats.now.wait.view) c.args.sizes c.of-route.result c.args.row _ c.requires.known c.requires.hash c.of-route.ensures.bucket c.of-route.ensures.batch).1
