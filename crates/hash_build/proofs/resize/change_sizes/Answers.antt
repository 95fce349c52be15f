use Rattle.hash_build.proofs.Passing.{reads_sizes_there}
use Rattle.hash_build.proofs.resize.change_sizes.Goals as goal

pub next_sizes-requires : goal.next_sizes-requires
next_sizes-requires c =
    let k = c.read_sizes-sizes.ensures.known (reads_sizes_there c.args.phases c.args.seats.now.wait.view c.requires.growing.attached) in
    record { fit = (_, k.are, k.fit) }

pub store_sizes-requires-clause-known : goal.store_sizes-requires-clause-known
store_sizes-requires-clause-known c = c.read_sizes-sizes.ensures.known (reads_sizes_there c.args.phases c.args.seats.now.wait.view c.requires.growing.attached)
