use Rattle.wait_core.proofs.Openings.{opening_kept}
use Rattle.wait_core.proofs.laws.opening_holds.Goals as goal

pub returns : goal.returns
returns g c = let p = c.args.party.now in λ s o. opening_kept (g.P.Party.means p) c.args.size c.args.phase (g.P.Party.word_count p) (g.P.Party.opens p) (g.P.Party.first p) s o
