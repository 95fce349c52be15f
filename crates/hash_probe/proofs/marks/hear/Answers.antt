use Rattle.std.proofs.Common.{false}
use Rattle.hash_probe.specs.Signals.{order, takes_order}
use Rattle.join_party.specs.Guards.{stop_shows}
use Rattle.hash_probe.proofs.Saying.{says_looked, says_stopped}
use Rattle.hash_probe.proofs.Signals.{looked_once, looked_published, stops_now, unheard_else, unheard_published}
use Rattle.hash_probe.proofs.marks.hear.Goals as goal

pub returns-in_default : goal.returns-in_default
returns-in_default c =
    let v = c.args.seat.now.view in
    let w = c.absorb.new.seat.view in
    let looked = looked_once takes_order stop_shows v w (order false) c.absorb.new.absorber c.absorb.result c.absorb.ensures.answer in
    record { table = c.absorb.ensures.table; slot = c.absorb.ensures.place; says = λ p. says_looked p c.args.table.now.procs c.args.marks.now v w looked (unheard_else v w c.absorb.new.absorber c.absorb.result c.in_default.not-Published c.absorb.ensures.answer); looked = looked.once }

pub returns-then-order-clause-says : goal.returns-then-order-clause-says
returns-then-order-clause-says c =
    let v = c.args.seat.now.view in
    let w = c.absorb.new.seat.view in
    let answer = c.in-Published.ensures.answer in
    let looked = looked_published takes_order stop_shows v w (order false) c.absorb.new.absorber c.in-Published.generation answer in
    λ p. says_stopped p c.args.table.now.procs c.args.marks.now c.in-Published.generation v w looked (stops_now c.in-Published.generation v w c.absorb.new.absorber answer c.if-order.true)

pub returns-then-order-clause-looked : goal.returns-then-order-clause-looked
returns-then-order-clause-looked c = (looked_published takes_order stop_shows c.args.seat.now.view c.absorb.new.seat.view (order false) c.absorb.new.absorber c.in-Published.generation c.in-Published.ensures.answer).once

pub returns-else-order-clause-says : goal.returns-else-order-clause-says
returns-else-order-clause-says c =
    let v = c.args.seat.now.view in
    let w = c.absorb.new.seat.view in
    λ p. says_looked p c.args.table.now.procs c.args.marks.now v w (looked_published takes_order stop_shows v w (order false) c.absorb.new.absorber c.in-Published.generation c.in-Published.ensures.answer) (unheard_published c.in-Published.generation v w c.absorb.new.absorber c.in-Published.ensures.answer c.if-order.false)

pub returns-else-order-clause-looked : goal.returns-else-order-clause-looked
returns-else-order-clause-looked c = (looked_published takes_order stop_shows c.args.seat.now.view c.absorb.new.seat.view (order false) c.absorb.new.absorber c.in-Published.generation c.in-Published.ensures.answer).once
