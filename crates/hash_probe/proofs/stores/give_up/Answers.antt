use Rattle.shared_tuples.proofs.Tuples.{still_ends}
use Rattle.hash_probe.proofs.Probing.{given_ends}
use Rattle.hash_probe.proofs.stores.give_up.Goals as goal

pub invariant_of-seats : goal.invariant_of-seats
invariant_of-seats c = let v = c.args.seats.now.wait.view in record { ends = still_ends v _ _ c.client.ensures.view (given_ends v.client c.args.row c.args.seats.now.ends) }
