use Rattle.hash_build.proofs.Passing.{grows_on}
use Rattle.hash_build.proofs.growths.pass.Goals as goal

pub returns-then-named-eq-DECIDE-clause-grows : goal.returns-then-named-eq-DECIDE-clause-grows
returns-then-named-eq-DECIDE-clause-grows g c =
    let v = c.args.seats.now in
    let u = c.move_if_due.new.seats in
    let a = c.arrive-elected.new.seats in
    let w = c.decide.new.seats in
    grows_on v u w c.move_if_due.ensures.grows (grows_on u a w c.arrive-elected.ensures.grows c.decide.ensures.grows)
