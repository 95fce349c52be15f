use Rattle.std.proofs.Common.{ap}
use Rattle.lw_core.specs.declared.view.View.{View}
use Rattle.lw_core.specs.Machine.{number_of}
use Rattle.lwlock.proofs.Later.{freed_by}
use Rattle.lwlock.proofs.rounds.run_round.Goals as goal

pub returns-in-Err-clause-freed : goal.returns-in-Err-clause-freed
returns-in-Err-clause-freed g c =
    let refused = c.in-Err.ensures.view in (
      c.in-Err.ensures.word,
      refused.0,
      freed_by (number_of c.args.seat.now.view.own) c.args.lock c.args.mode c.in-Err.seen c.step-word.result.old c.args.seat.now.view c.queue.new.seat.view c.step-word.new.seat.view c.attempt.new.seat.view c.sleep-surplus.new.seat.view
          c.queue.ensures.announced (ap (λ (a : View). a.steps) c.step-word.ensures.view) refused.1.0 (ap (λ (a : View). a.steps) refused.1.1) c.attempt.ensures.stores c.sleep-surplus.ensures.clear c.sleep-surplus.ensures.stores,
    )
