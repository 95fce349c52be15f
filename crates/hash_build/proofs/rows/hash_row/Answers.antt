use Rattle.std.proofs.Common.{refl}
use Rattle.hash_build.proofs.Hashing.{still_ends}
use Rattle.hash_build.proofs.rows.hash_row.Goals as goal

pub invariant_of-seats : goal.invariant_of-seats
invariant_of-seats g c = record { ends = still_ends c.args.seats.now.wait.view _ _ c.client.ensures.view refl refl refl refl c.args.seats.now.ends }

pub invariant_of-seats-2 : goal.invariant_of-seats-2
invariant_of-seats-2 g c = record { ends = still_ends c.args.seats.now.wait.view _ _ c.client-2.ensures.view refl refl refl refl c.args.seats.now.ends }
