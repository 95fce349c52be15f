use Rattle.std.proofs.Common.{refl, inr}
use Rattle.wait_event_set.proofs.Reading.{later_again, polled}
use Rattle.wait_event_set.proofs.set.EventSet.poll.Goals as goal

pub returns-clause-occurred : goal.returns-clause-occurred
returns-clause-occurred g c =
    let first = c.in_default.ensures.read in
    let second = c.poll_event-2.ensures.read in (
      c.proc-own.result,
      _,
      c.proc-own.ensures,
      later_again c.args.seat.now.view c.poll_event.new.seat.view _ first.0 second.0 first.1 second.1,
      polled c.proc-own.result c.args.self.now first.0 second.0 c.poll_event-2.result first.2 second.2,
    )

pub returns-clause-calls : goal.returns-clause-calls
returns-clause-calls g c =
    let first = c.in_default.ensures.read in
    let second = c.poll_event-2.ensures.read in (
      c.proc-own.result,
      _,
      c.proc-own.ensures,
      later_again c.args.seat.now.view c.poll_event.new.seat.view _ first.0 second.0 first.1 second.1,
      record { first = first.0; then = second.0; split = refl; latch = first.3; shutdown = inr (first.2, second.3) },
    )
