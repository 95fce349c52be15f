use Rattle.row_model.proofs.BuildFacts.{building-empty, view-empty}
use Rattle.row_model.proofs.build.RowsBuilder.new.Goals as goal

pub invariant_of-result : goal.invariant_of-result
invariant_of-result c = rw (c.new.ensures.items, c.new-2.ensures.items) (building-empty c.in_ok-key.key.items)

pub returns : goal.returns
returns c = rw (c.new.ensures.items, c.new-2.ensures.items, c.in_ok-key.ensures.items) (view-empty c.args.key.now)
