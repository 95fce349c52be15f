use Rattle.std.proofs.Common.{ℕ, [], ◌++◌, refl, arith}
use Rattle.generation_barrier.proofs.Waits.{awaited, reached, stands_nil, stands_past, went_nil, went_through}
use Rattle.generation_barrier.proofs.waiting.wait_for.Goals as goal

pub loop-q-init : goal.loop-q-init
loop-q-init g c = (refl, refl, refl, refl, ([], [], c.args.wait_seat.now.view.heeds, (refl, refl), went_nil c.args.seat.now.view c.requires.place.0, stands_nil c.args.wait_seat.now.view c.requires.place.1))

pub loop-q-preserved : goal.loop-q-preserved
loop-q-preserved g c =
    let v = c.args.wait_seat.now.view in
    let w = c.loop-q.wait_seat.view in
    let inv = c.loop-q.invariant.4 in
    let q : ℕ = c.loop-q.q in
    let more = c.wait_for_slot.ensures.waited in (
      (cc),
      (cc),
      (cc),
      (cc),
      (
        inv.0 ++ more.0,
        inv.1 ++ more.1,
        more.2,
        awaited c.args.generation q c.in-Some.slot v w inv.2 inv.0 more.0 inv.1 more.1 inv.5 c.in-Some.ensures.1 inv.3 more.3,
        went_through c.args.seat.now.view c.loop-q.seat.view c.wait_for_slot.new.seat.view inv.0 more.0 inv.4 more.4,
        stands_past q v w c.wait_for_slot.new.wait_seat.view inv.2 more.2 inv.1 more.1 inv.5 more.5,
      ),
    )

pub returns-clause-reached : goal.returns-clause-reached
returns-clause-reached g c = λ q less. let inv = c.loop-q.invariant.4 in reached _ c.args.generation c.loop-q.q _ c.args.seat.now.view c.loop-q.seat.view inv.0 inv.1 inv.4 inv.3 q (let b = c.loop-q-test.false in omega arith)
