use Rattle.std.proofs.Common.{arith, ℕ, ◌+◌, get_or, get_or-set_other}
use Rattle.wait_core.specs.Ops.{op_at, op_gives}
use Rattle.wait_core.specs.Words.{client_base}
use Rattle.wait_core.proofs.laws.client_leaves_machine.Goals as goal

pub returns : goal.returns
returns g c = let p = c.args.party.now in λ s id i v x below.
    let k : ℕ = client_base c.args.size + op_at (g.P.Party.does p x) in
    get_or-set_other s.words k i (op_gives (g.P.Party.does p x) (get_or s.words k 0)) 0 (λ e. omega arith)
