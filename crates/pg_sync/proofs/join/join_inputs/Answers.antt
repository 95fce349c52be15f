use Rattle.pg_sync.specs.Words.{job_at}
use Rattle.pg_sync.proofs.WrittenFacts.{join-leaves}
use Rattle.pg_sync.proofs.join.join_inputs.Goals as goal

pub returns-clause-written : goal.returns-clause-written
returns-clause-written g c =
    let outer = rw c.in-Ok.ensures.held at c.in-Ok-load.ensures.loads in
    join-leaves (job_at c.args.job.now) _ _ _ _ _ _ _ _ _ c.in-Ok.ensures.loads outer c.print_join.ensures.joins
