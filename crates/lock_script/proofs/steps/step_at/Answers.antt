use Rattle.std.proofs.Common.{◌≡◌, Bool, List, [], ◌∷◌, ap, subst}
use Rattle.lw_core.specs.declared.step.LwStep.TheVariants.{Unlock}
use Rattle.lw_core.specs.declared.view.Frame.TheVariants.{Removing}
use Rattle.lw_core.specs.declared.view.Waiter.{Waiter}
use Rattle.lw_core.specs.WaitLists.{is_empty}
use Rattle.lw_core.specs.Machine.{left_at}
use Rattle.lock_script.proofs.steps.step_at.Goals as goal

pub returns-in_ok-clears-in-Removing-clause-step : goal.returns-in_ok-clears-in-Removing-clause-step
returns-in_ok-clears-in-Removing-clause-step c =
    let l = c.in-Removing.lock in
    let w = c.in-Removing.field-1 in
    let clears = subst (λ (us : List Waiter). c.in_ok-clears-in-Removing.clears ≡ is_empty (left_at (Removing l w us c.in-Removing.here ∷ []) c.args.own)) c.as_slice.ensures.value (c.in_ok-clears-in-Removing.ensures l w) in
    rw c.in-Removing.is (ap (λ (b : Bool). Unlock l b) clears)
