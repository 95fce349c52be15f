use Rattle.std.proofs.Common.{List, ℕ, ap}
use Rattle.schedule_script.specs.ScriptText.{script_answer}
use Rattle.pg_sync.proofs.ScheduleFacts.{written_shown}
use Rattle.pg_sync.proofs.schedule.play_input.Goals as goal

pub returns-clause-written : goal.returns-clause-written
returns-clause-written g c =
    let i = g.I.Inputs in
    let s = g.S.Sink in
    let script : List ℕ = c.in-Ok.script.items in
    written_shown (i.held c.args.inputs.now c.args.name.now) script (s.taken c.args.out.now) (s.taken c.play.new.out) (s.faults c.args.out.now) (s.faults c.play.new.out)
    c.in-Ok.ensures.reads (script_answer c.as_slice.result.now) c.play.result (ap script_answer c.as_slice.ensures.value) c.play.ensures.shows
