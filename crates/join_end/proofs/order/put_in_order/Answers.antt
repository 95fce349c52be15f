use Rattle.std.proofs.Common.{length, ◌≤◌, arith}
use Rattle.join_end.proofs.InOrder.{in_order}
use Rattle.join_end.proofs.order.put_in_order.Goals as goal

pub returns : goal.returns
returns c =
    let count = c.len-few.ensures in
    let few : length c.args.inner.now.rows ≤ 4294967296 = omega arith in
    in_order c.args.outer.now c.args.inner.now _ _ few c.requires c.sort.ensures.same c.sort.ensures.sorted
