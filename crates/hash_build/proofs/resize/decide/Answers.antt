use Rattle.std.proofs.Common.{arith}
use Rattle.wait_core.specs.Seating.{party_of}
use Rattle.join_party.specs.Joins.{join}
use Rattle.hash_build.proofs.Moving.{these_few}
use Rattle.hash_build.proofs.Passing.{reads_sizes_there}
use Rattle.hash_build.proofs.resize.decide.Goals as goal

pub before-old-requires : goal.before-old-requires
before-old-requires g c =
    let few = these_few (join c.args.tables.now.waits.party) (party_of c.read_sizes-sizes.new.seats.wait.view) c.read_sizes-sizes.result (c.read_sizes-sizes.ensures.known (reads_sizes_there c.args.phases c.args.seats.now.wait.view c.requires.growing.attached)) in
    record { half = few.0 }

pub judge_batches-largest-requires-clause-few : goal.judge_batches-largest-requires-clause-few
judge_batches-largest-requires-clause-few g c =
    let few = these_few (join c.args.tables.now.waits.party) (party_of c.read_sizes-sizes.new.seats.wait.view) c.read_sizes-sizes.result (c.read_sizes-sizes.ensures.known (reads_sizes_there c.args.phases c.args.seats.now.wait.view c.requires.growing.attached)) in
    let old = c.before-old.ensures.few.2 few.2.0 in
    let most = few.2.1 in
    (few.0, few.2.1, c.before-old.ensures.few.0, omega arith)
