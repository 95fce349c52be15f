use Rattle.pg_sync.specs.Answer.{counts_of}
use Rattle.pg_sync.specs.Schedule.{script_due}
use Rattle.pg_sync.proofs.FaultlessFacts.{faultless}
use Rattle.pg_sync.proofs.ScheduleFacts.{script_decided}
use Rattle.pg_sync.proofs.schedule.run_schedule.Goals as goal

pub returns-clause-completeness : goal.returns-clause-completeness
returns-clause-completeness g c =
    let i = g.I.Inputs in
    let s = g.S.Sink in
    script_decided (i.held c.args.inputs.now c.args.name.now)
    (counts_of i.open_faults i.read_faults c.args.inputs.now) (counts_of i.open_faults i.read_faults c.play_input.new.inputs)
    (s.faults c.args.out.now) (s.faults c.play_input.new.out) c.play_input.result c.play_input.ensures.bytes c.play_input.ensures.counts

pub returns-clause-faultless : goal.returns-clause-faultless
returns-clause-faultless g c =
    let i = g.I.Inputs in
    let s = g.S.Sink in
    let held = i.held c.args.inputs.now c.args.name.now in
    let e = c.play_input.ensures in
    faultless (i.is_steady c.args.inputs.now) held held
    (s.taken c.args.out.now) (s.taken c.play_input.new.out) (s.capacity c.args.out.now) (s.capacity c.play_input.new.out) (script_due held)
    (counts_of i.open_faults i.read_faults c.args.inputs.now) (counts_of i.open_faults i.read_faults c.play_input.new.inputs)
    (s.faults c.args.out.now) (s.faults c.play_input.new.out) c.play_input.result (λ steady there also. e.calm steady there) e.capacity e.full e.written e.counts
