use Rattle.pg_sync.specs.Answer.{counts_of, due_text}
use Rattle.pg_sync.specs.Words.{job_at}
use Rattle.pg_sync.proofs.CompleteFacts.{decided}
use Rattle.pg_sync.proofs.FaultlessFacts.{faultless}
use Rattle.pg_sync.proofs.join.run_join.Goals as goal

pub returns-clause-completeness : goal.returns-clause-completeness
returns-clause-completeness g c =
    let i = g.I.Inputs in
    let s = g.S.Sink in
    let job = c.args.job.now in
    decided (job_at job) (i.held c.args.inputs.now job.inner.now) (i.held c.args.inputs.now job.outer.now)
    (counts_of i.open_faults i.read_faults c.args.inputs.now) (counts_of i.open_faults i.read_faults c.join_inputs.new.inputs)
    (s.faults c.args.out.now) (s.faults c.join_inputs.new.out) c.join_inputs.result c.join_inputs.ensures.bytes c.join_inputs.ensures.counts

pub returns-clause-faultless : goal.returns-clause-faultless
returns-clause-faultless g c =
    let i = g.I.Inputs in
    let s = g.S.Sink in
    let job = c.args.job.now in
    let e = c.join_inputs.ensures in
    faultless (i.is_steady c.args.inputs.now) (i.held c.args.inputs.now job.inner.now) (i.held c.args.inputs.now job.outer.now)
    (s.taken c.args.out.now) (s.taken c.join_inputs.new.out) (s.capacity c.args.out.now) (s.capacity c.join_inputs.new.out)
    (due_text (job_at job) (i.held c.args.inputs.now job.inner.now) (i.held c.args.inputs.now job.outer.now))
    (counts_of i.open_faults i.read_faults c.args.inputs.now) (counts_of i.open_faults i.read_faults c.join_inputs.new.inputs)
    (s.faults c.args.out.now) (s.faults c.join_inputs.new.out) c.join_inputs.result e.calm e.capacity e.full e.written e.counts
