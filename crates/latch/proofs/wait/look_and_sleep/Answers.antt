use Rattle.std.proofs.Common.{true, None, List, [], ◌∷◌, ◌++◌, refl, ap, ◌∙◌}
use Rattle.wait_core.specs.Seats.{size_of}
use Rattle.wait_core.specs.declared.step.WaitStep.TheVariants.{Mstore, Sload, Shload}
use Rattle.wait_core.specs.declared.view.Made.{Made}
use Rattle.wait_core.specs.declared.view.Frame.TheVariants.{Announcing, Rechecking, Repeating}
use Rattle.wait_core.specs.Machine.{outer, made, watching}
use Rattle.latch.specs.Reads.{went}
use Rattle.latch.proofs.Walks.{went_nil, went_on, went_through, clear_or_set}
use Rattle.latch.proofs.wait.look_and_sleep.Goals as goal
use Rattle.latch.proofs.wait.look_and_sleep.Goals.{in-LatchOrShutdown+else-step-eq1, in_default}

pub returns-clause-woke : goal.returns-clause-woke
returns-clause-woke g c =
    let v = c.args.seat.now.view in
    let z = (size_of c.args.table.now) in
    let u = c.args.until in
    let rest = outer v.place in
    let n = c.step.result.old in
    let says : List Made = made (Mstore true) n ∷ [] in
    let looks : List Made = made (Mstore true) n ∷ made (Sload c.args.own None) 0 ∷ [] in
    let sleeps = c.sleep.ensures.woken in
    let said = went_on z v _ _ (Announcing u ∷ rest) [] (Mstore true) n n (λ y i. refl) (went_nil v (Announcing u) c.requires.place) c.step.ensures.view refl in
    let looked = went_on z v _ _ (Rechecking u ∷ rest) says (Sload c.args.own None) _ 0 (λ y i. refl) said c.step-again.ensures.view (clear_or_set c.step-again.result.old c.step-again.ensures.told c.if-again-eq1.false) in
    elim c.match-until.branch [
      | in-LatchOrShutdown+else-step-eq1 w ↦
          let asks : List Made = looks ++ made (Shload None) 0 ∷ [] in
          let asked = ap (λ s. s.view) w.seat-is ∙ went_on z v _ _ (watching u ∷ rest) looks (Shload None) _ 0 (λ y i. refl) looked w.step-in-LatchOrShutdown.ensures.view (clear_or_set w.step-in-LatchOrShutdown.result.old w.step-in-LatchOrShutdown.ensures.told w.if-step-eq1.false) in
          (asks ++ sleeps.0, went_through v _ _ _ (Repeating u ∷ rest) asks sleeps.0 asked (sleeps.1 ∙ ap (λ x. went c.match-until.seat.view (Repeating u ∷ outer x.place) sleeps.0) asked), (tt, (refl, (w.in-LatchOrShutdown.is, sleeps.2 c.args.own))))
      | in_default w ↦
          let stands = ap (λ s. s.view) w.seat-is ∙ looked in
          (looks ++ sleeps.0, went_through v _ _ _ (Repeating u ∷ rest) looks sleeps.0 stands (sleeps.1 ∙ ap (λ x. went c.match-until.seat.view (Repeating u ∷ outer x.place) sleeps.0) stands), (tt, (refl, sleeps.2 c.args.own)))
    ]
