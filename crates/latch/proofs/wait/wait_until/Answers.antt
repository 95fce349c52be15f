use Rattle.std.proofs.Common.{List, [], ◌∷◌, ◌++◌, None, Some, refl, ap, ◌∙◌}
use Rattle.wait_core.specs.Seats.{size_of}
use Rattle.wait_core.specs.declared.step.WaitStep.TheVariants.{Sload}
use Rattle.wait_core.specs.declared.view.Frame.TheVariants.{Repeating}
use Rattle.wait_core.specs.declared.view.Made.{Made}
use Rattle.wait_core.specs.Jobs.{resumed}
use Rattle.wait_core.specs.Machine.{outer, behind_wait, made}
use Rattle.latch.specs.Reads.{went}
use Rattle.latch.proofs.Walks.{went_on, went_through, clear_or_set, only-append, read_later}
use Rattle.latch.proofs.wait.wait_until.Goals as goal

pub returns-in-Some-look_and_sleep-clause-woke : goal.returns-in-Some-look_and_sleep-clause-woke
returns-in-Some-look_and_sleep-clause-woke g c =
    let v = c.args.seat.now.view in
    let mid = c.loop.seat.view in
    let inv = c.loop.invariant.2 in
    let woke = c.in-Some-look_and_sleep.ensures.woke in
    let more : List Made = made (Sload c.args.own (Some c.args.begins)) 0 ∷ inv.0 in
    let back = woke.1 ∙ ap (λ w. went mid (resumed (outer w.place)) woke.0) inv.1 in
    (_, went_through v mid _ _ (resumed (behind_wait c.args.begins v.place)) more woke.0 inv.1 back, record { found = 0; then = inv.0 ++ woke.0; split = refl; only = only-append c.args.own c.args.until inv.0 woke.0 inv.2 woke.4 }, read_later c.args.own c.in-Some-look_and_sleep.woke more woke.0 woke.2)

pub returns-then-step-eq1-2-clause-woke : goal.returns-then-step-eq1-2-clause-woke
returns-then-step-eq1-2-clause-woke g c =
    let v = c.args.seat.now.view in
    let mid = c.loop.seat.view in
    let inv = c.loop.invariant.2 in
    let woke = c.in_default.ensures.woke in
    let before : List Made = made (Sload c.args.own (Some c.args.begins)) 0 ∷ inv.0 ++ woke.0 in
    let back = went_through v mid _ _ (Repeating c.args.until ∷ behind_wait c.args.begins v.place) _ woke.0 inv.1 (woke.1 ∙ ap (λ w. went mid (Repeating c.args.until ∷ outer w.place) woke.0) inv.1) in
    (before ++ made (Sload c.args.own None) 1 ∷ [], went_on (size_of c.args.table.now) v _ _ (Repeating c.args.until ∷ behind_wait c.args.begins v.place) before (Sload c.args.own None) _ 1 (λ y i. refl) back c.step-in-loop.ensures.view c.if-step-eq1-2.true, record { found = 0; then = (inv.0 ++ woke.0) ++ made (Sload c.args.own None) 1 ∷ []; split = refl; only = only-append c.args.own c.args.until (inv.0 ++ woke.0) _ (only-append c.args.own c.args.until inv.0 woke.0 inv.2 woke.2) (refl, tt) }, record { before = before; begins = None; then = []; split = refl })

pub loop-preserved : goal.loop-preserved
loop-preserved g c =
    let v = c.args.seat.now.view in
    let mid = c.loop.seat.view in
    let inv = c.loop.invariant.2 in
    let woke = c.in_default.ensures.woke in
    let before : List Made = made (Sload c.args.own (Some c.args.begins)) 0 ∷ inv.0 ++ woke.0 in
    let back = went_through v mid _ _ (Repeating c.args.until ∷ behind_wait c.args.begins v.place) _ woke.0 inv.1 (woke.1 ∙ ap (λ w. went mid (Repeating c.args.until ∷ outer w.place) woke.0) inv.1) in
    ((cc), (cc), ((inv.0 ++ woke.0) ++ made (Sload c.args.own None) 0 ∷ [], went_on (size_of c.args.table.now) v _ _ (Repeating c.args.until ∷ behind_wait c.args.begins v.place) before (Sload c.args.own None) _ 0 (λ y i. refl) back c.step-in-loop.ensures.view (clear_or_set c.step-in-loop.result.old c.step-in-loop.ensures.told c.if-step-eq1-2.false), only-append c.args.own c.args.until (inv.0 ++ woke.0) _ (only-append c.args.own c.args.until inv.0 woke.0 inv.2 woke.2) (refl, tt)))
