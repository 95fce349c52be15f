use Rattle.wait_core.proofs.SeatsKept.{few_drawn}
use Rattle.wait_core.proofs.laws.views_are_few.Goals as goal

pub returns : goal.returns
returns g c = let p = c.args.party.now in λ s id v r at own. few_drawn (g.P.Party.means p) c.args.size c.args.phase (g.P.Party.word_count p) s r id v at own
