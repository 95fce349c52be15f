use Rattle.join_engine.proofs.Gathering.{adds}
use Rattle.join_engine.proofs.workers.gather.Goals as goal

pub returns-clause-together : goal.returns-clause-together
returns-clause-together c =
    adds c.args.tables.now c.args.leader.now c.args.pairs.now.items c.args.said c.args.worker c.args.found.items c.args.told c.take_in.new.into c.append-kept.new.pairs.items c.both.result
    c.take_in.ensures.wait c.take_in.ensures.signal c.both.ensures.over (λ enough. let s = c.both.ensures.short enough in (s.0, s.1, c.append-kept.ensures s.2))
