use Rattle.std.proofs.Common.{false, true, List, [], ◌∷◌, ◌++◌, refl, ap, ◌∙◌}
use Rattle.wait_core.specs.Seats.{size_of}
use Rattle.wait_core.specs.declared.step.WaitStep.TheVariants.{Mstore, Look, Drain}
use Rattle.wait_core.specs.declared.view.Made.{Made}
use Rattle.wait_core.specs.declared.view.Frame.TheVariants.{Retracting, Draining}
use Rattle.wait_core.specs.Machine.{outer, made}
use Rattle.latch.specs.Reads.{went}
use Rattle.latch.proofs.Walks.{watches, went_nil, went_on, found_set, found_clear, clear_or_set, only-append}
use Rattle.latch.proofs.wait.sleep.Goals as goal

pub loop-init : goal.loop-init
loop-init g c = (refl, refl, (false, [], went_nil c.args.seat.now.view _ c.requires.place, λ p. tt))

pub returns-then-step-eq1-clause-woken : goal.returns-then-step-eq1-clause-woken
returns-then-step-eq1-clause-woken g c =
    let v = c.args.seat.now.view in
    let z = (size_of c.args.table.now) in
    let u = c.args.until in
    let inv = c.loop.invariant.2 in
    let rest = outer v.place in
    let n = c.step-then-step-eq1.result.old in
    let m = c.step-then-step-eq1-2.result.old in
    let looks : List Made = inv.1 ++ made Look 1 ∷ [] in
    let marks : List Made = looks ++ made (Mstore false) n ∷ [] in
    let woken = went_on z v _ _ (watches u inv.0 ∷ rest) inv.1 Look _ 1 (λ y i. refl) inv.2 c.step.ensures.view c.if-step-eq1.true ∙ ap (λ p. went v p looks) (found_set u inv.0 rest) in
    let marked = went_on z v _ _ (Retracting u ∷ rest) looks (Mstore false) n n (λ y i. refl) woken c.step-then-step-eq1.ensures.view refl in
    (marks ++ made Drain m ∷ [], went_on z v _ _ (Draining u ∷ rest) marks Drain m m (λ y i. refl) marked c.step-then-step-eq1-2.ensures.view refl, λ p. only-append p u marks _ (only-append p u looks _ (only-append p u inv.1 _ (inv.3 p) (tt, tt)) (tt, tt)) (tt, tt))

pub loop-preserved : goal.loop-preserved
loop-preserved g c =
    let v = c.args.seat.now.view in
    let u = c.args.until in
    let inv = c.loop.invariant.2 in
    let rest = outer v.place in
    let looks : List Made = inv.1 ++ made Look 0 ∷ [] in
    let clear = went_on (size_of c.args.table.now) v _ _ (watches u inv.0 ∷ rest) inv.1 Look _ 0 (λ y i. refl) inv.2 c.step.ensures.view (clear_or_set c.step.result.old c.step.ensures.told c.if-step-eq1.false) ∙ ap (λ p. went v p looks) (found_clear u inv.0 rest) in
    ((cc), (cc), (true, looks, ap (λ s. s.view) c.park.ensures ∙ clear, λ p. only-append p u inv.1 _ (inv.3 p) (tt, tt)))
