use Rattle.std.proofs.Common.{◌+◌}
use Rattle.join_engine.proofs.workers.run.Goals as goal

pub returns-clause-worked : goal.returns-clause-worked
returns-clause-worked g c =
    let ready = c.requires.ready in record {
      gone = c.work.ensures.gone;
      free = c.work.ensures.holds ready.free;
      numbers = c.work.ensures.numbers (c.args.number + 1) (c.args.number + 1) ready.new;
      done = c.work.ensures.done;
    }
