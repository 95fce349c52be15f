use Rattle.wait_core.proofs.SeatsKept.{others_left}
use Rattle.wait_core.proofs.laws.others_are_left.Goals as goal

pub returns : goal.returns
returns g c = let p = c.args.party.now in λ s id k v u r at own all apart there. others_left (g.P.Party.means p) c.args.size c.args.phase (g.P.Party.word_count p) s r id v at own all k u apart there
