use Rattle.std.proofs.Common.{ap, ◌∙◌}
use Rattle.wait_core.specs.Seating.{client_moved}
use Rattle.join_law.specs.Views.{dropped}
use Rattle.shared_tuples.proofs.Tuples.{dropped_ends, still_ends}
use Rattle.shared_tuples.proofs.insert.Goals as goal

pub invariant_of-seats : goal.invariant_of-seats
invariant_of-seats g c =
    let v = c.args.seats.now.wait.view in
    record { ends = still_ends v c.push.new.seat.view _ (c.push.ensures.view ∙ ap (λ y. client_moved y (dropped y.client c.args.row)) c.chain_head-head.ensures.view) (dropped_ends v.client c.args.row c.args.seats.now.ends) }
