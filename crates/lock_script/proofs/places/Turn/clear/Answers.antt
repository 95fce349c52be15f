use Rattle.std.proofs.Common.{◌<◌, length, refl, arith}
use Rattle.lock_script.proofs.LockLists.{drop-at, no_one}
use Rattle.lock_script.proofs.places.Turn.clear.Goals as goal

pub returns-then-told-len-clause-place : goal.returns-then-told-len-clause-place
returns-then-told-len-clause-place c =
    let inside : c.args.told < length c.args.taken.items = omega arith in
    rw (drop-at c.args.taken.items c.args.told no_one inside) refl
