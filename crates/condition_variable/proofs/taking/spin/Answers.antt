use Rattle.std.proofs.Common.{List, [], ◌∷◌, ◌++◌, refl, sym, ap, ◌∙◌, subst}
use Rattle.wait_core.specs.Seats.{size_of}
use Rattle.wait_core.specs.declared.step.WaitStep.TheVariants.{Spin}
use Rattle.wait_core.specs.declared.view.WaitView.{WaitView}
use Rattle.wait_core.specs.declared.view.Made.{Made}
use Rattle.wait_core.specs.Machine.{Permits, as_kept, made}
use Rattle.latch.specs.Reads.{went}
use Rattle.condition_variable.proofs.Walks.{went_none, spins_on, spins_append, spun_still, swapped_set}
use Rattle.condition_variable.proofs.taking.spin.Goals as goal

pub loop-init : goal.loop-init
loop-init g c = (refl, refl, ([], went_none c.args.seat.now.view, tt))

pub step-requires-clause-place : goal.step-requires-clause-place
step-requires-clause-place g c = λ _ _. subst (λ (y : WaitView _). Permits (size_of c.args.table.now) (Spin c.args.spot.now) y.own y.target y.place) (sym c.loop.invariant.2.1) (c.requires.spot, c.requires.place)

pub returns-then-step-eq0-clause-view : goal.returns-then-step-eq0-clause-view
returns-then-step-eq0-clause-view g c =
    let v = c.args.seat.now.view in
    let inv = c.loop.invariant.2 in
    (inv.0 ++ made (Spin c.args.spot.now) 0 ∷ [], spins_on (size_of c.args.table.now) v _ _ v.place inv.0 c.args.spot.now _ 0 (as_kept c.step.new.seat.list c.step.new.seat.record) inv.1 c.step.ensures.view c.if-step-eq0.true, spins_append c.args.spot.now inv.0 _ inv.2 (refl, tt))

pub loop-preserved : goal.loop-preserved
loop-preserved g c =
    let v = c.args.seat.now.view in
    let inv = c.loop.invariant.2 in
    let more : List Made = inv.0 ++ made (Spin c.args.spot.now) 1 ∷ [] in
    let on = spins_on (size_of c.args.table.now) v _ _ v.place inv.0 c.args.spot.now _ 1 (as_kept c.step.new.seat.list c.step.new.seat.record) inv.1 c.step.ensures.view (swapped_set c.step.result.old c.step.ensures.told c.if-step-eq0.false) in
    ((cc), (cc), (more, on ∙ ap (λ p. went v p more) (spun_still c.args.spot.now v.place c.requires.place), spins_append c.args.spot.now inv.0 _ inv.2 (refl, tt)))
