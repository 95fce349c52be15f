use Rattle.std.proofs.Common.{subst, sym, List, ℕ}
use Rattle.wait_core.specs.Lists.{AllBelow}
use Rattle.wait_script.specs.WaitSketch.{job_of}
use Rattle.wait_script.proofs.HomeFacts.{left-below}
use Rattle.wait_script.proofs.places.Turn.advance.Goals as goal

pub returns-in_ok-home-in-Holding-clause-below : goal.returns-in_ok-home-in-Holding-clause-below
returns-in_ok-home-in-Holding-clause-below c =
    let fits = rw c.in-Holding.is at c.requires.spot in
    subst (λ (t : List ℕ). AllBelow c.args.self.now.size.procs t) (sym c.in_ok-home-in-Holding.ensures) (left-below c.args.self.now.size.procs c.args.self.now.own (job_of c.in-Holding.task) c.in-Holding.list.items c.requires.own fits.1)
