use Rattle.wait_core.proofs.Sleepers.{marked_here}
use Rattle.wait_core.proofs.laws.may_sleep_is_marked.Goals as goal

pub returns : goal.returns
returns g c = let p = c.args.party.now in λ s id o v r at own. marked_here (g.P.Party.means p) c.args.size c.args.phase (g.P.Party.word_count p) s r id o v at own
