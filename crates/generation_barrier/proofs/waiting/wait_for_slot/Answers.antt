use Rattle.std.proofs.Common.{ℕ, suc, true, [], ◌∷◌, ◌++◌, refl, arith}
use Rattle.signal_core.specs.Seats.{about_of}
use Rattle.generation_barrier.specs.Waiting.{look, notice_at, target_after}
use Rattle.generation_barrier.proofs.Waits.{left, looked, slept, stands_nil, stands_on, went_nil}
use Rattle.generation_barrier.proofs.waiting.wait_for_slot.Goals as goal

pub loop-init : goal.loop-init
loop-init g c = (refl, refl, refl, refl, (0, [], [], c.args.wait_seat.now.view.heeds, (refl, refl), went_nil c.args.seat.now.view c.requires.place.0, stands_nil c.args.wait_seat.now.view c.requires.place.1))

pub returns-then-step-generation-clause-waited : goal.returns-then-step-generation-clause-waited
returns-then-step-generation-clause-waited g c =
    let inv = c.loop.invariant.4 in
    let q : ℕ = c.args.slot in
    let found : ℕ = c.step.result.old in
    let off = left c.args.generation q inv.0 c.args.wait_seat.now.view c.loop.wait_seat c.cancel_sleep.new.seat inv.3 c.cancel_sleep.result inv.1 inv.2 found inv.6 c.cancel_sleep.ensures.left inv.4 (omega (arith, c.if-step-generation.true)) in
    (inv.1 ++ look q found ∷ [], inv.2 ++ off.0, inv.3, off.1, looked (about_of c.args.table.now) c.args.seat.now.view c.loop.seat.view c.step.new.seat.view inv.1 q found inv.5 c.step.ensures.view, off.2)

pub loop-preserved : goal.loop-preserved
loop-preserved g c =
    let v = c.args.wait_seat.now.view in
    let w = c.loop.wait_seat.view in
    let inv = c.loop.invariant.4 in
    let q : ℕ = c.args.slot in
    let found : ℕ = c.step.result.old in
    let more = c.sleep.ensures.slept in
    let at = c.notice_of.ensures in (
      (cc),
      (cc),
      (cc),
      (cc),
      (
        suc inv.0,
        inv.1 ++ look q found ∷ [],
        inv.2 ++ more.0,
        true,
        slept c.args.generation q c.notice_of.result inv.0 v w inv.3 inv.1 inv.2 more.0 found c.sleep.result inv.6 at inv.4 (omega (arith, c.if-step-generation.false)) more.2,
        looked (about_of c.args.table.now) c.args.seat.now.view c.loop.seat.view c.step.new.seat.view inv.1 q found inv.5 c.step.ensures.view,
        stands_on q c.notice_of.result v w c.sleep.new.seat.view (target_after (notice_at q) inv.0 v.target) inv.3 inv.2 more.0 inv.6 at more.1,
      ),
    )
