use Rattle.hash_build.proofs.Passing.{grows_on}
use Rattle.hash_build.proofs.growths.enter_growths.Goals as goal

pub returns-clause-grows : goal.returns-clause-grows
returns-clause-grows g c =
    let v = c.args.seats.now in
    let a = c.attach_both-phases.new.seats in
    let b = c.pass_reallocate-phases.new.seats in
    let d = c.go_through-phases.new.seats in
    let w = c.go_through.new.seats in
    grows_on v a w c.attach_both-phases.ensures.grows (grows_on a b w c.pass_reallocate-phases.ensures.grows (grows_on b d w c.go_through-phases.ensures.grows c.go_through.ensures.grows))
