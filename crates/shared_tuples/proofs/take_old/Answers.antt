use Rattle.std.proofs.Common.{sym, subst}
use Rattle.row_model.specs.declared.Side.{Side}
use Rattle.join_party.specs.Claims.{MayStillEnd}
use Rattle.shared_tuples.proofs.Tuples.{take_ends}
use Rattle.shared_tuples.proofs.take_old.Goals as goal

pub invariant_of-seats : goal.invariant_of-seats
invariant_of-seats g c = record { ends = take_ends c.take_first.result c.old_source-source.new.seat.view c.take_first.new.seat.view c.old_source-source.result c.take_first.ensures.taken (subst (λ y. (side : Side) → MayStillEnd y.client side) (sym c.old_source-source.ensures.view) c.args.seats.now.ends) }
