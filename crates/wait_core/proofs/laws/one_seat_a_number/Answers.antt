use Rattle.wait_core.proofs.Sleepers.{one_of}
use Rattle.wait_core.proofs.laws.one_seat_a_number.Goals as goal

pub returns : goal.returns
returns g c = let p = c.args.party.now in λ s id j o v u r at there own mine. one_of (g.P.Party.means p) c.args.size c.args.phase (g.P.Party.word_count p) s r id o v at own j u there mine
