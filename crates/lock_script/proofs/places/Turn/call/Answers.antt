use Rattle.std.proofs.Common.{◌<◌, length, refl, arith}
use Rattle.std.proofs.lemmas.List.{take_more}
use Rattle.lock_script.proofs.LockLists.{drop-at, lockers_below, no_one}
use Rattle.lock_script.proofs.places.Turn.call.Goals as goal

pub returns-then-told-len-clause-place : goal.returns-then-told-len-clause-place
returns-then-told-len-clause-place c =
    let inside : c.args.told < length c.args.taken.items = omega arith in
    rw (drop-at c.args.taken.items c.args.told no_one inside, take_more c.args.taken.items c.args.told no_one inside) refl

pub returns-then-told-len-clause-home : goal.returns-then-told-len-clause-home
returns-then-told-len-clause-home c =
    let inside : c.args.told < length c.args.taken.items = omega arith in
    rw (drop-at c.args.taken.items c.args.told no_one inside) refl

pub returns-clause-below : goal.returns-clause-below
returns-clause-below c = rw (c.in_ok-home.ensures.list, c.as_slice.ensures.value) (lockers_below c.args.self.now.size.procs c.args.list.items c.requires.list)
