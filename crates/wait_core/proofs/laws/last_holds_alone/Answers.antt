use Rattle.wait_core.proofs.SeatsKept.{alone_at_last}
use Rattle.wait_core.proofs.laws.last_holds_alone.Goals as goal

pub returns : goal.returns
returns g c = let p = c.args.party.now in λ s r. alone_at_last (g.P.Party.means p) c.args.size c.args.phase (g.P.Party.word_count p) s r
