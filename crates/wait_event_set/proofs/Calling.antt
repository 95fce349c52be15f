-- Which calls were made, one after the other.
use Rattle.std.proofs.Common.{◌≡◌, ℕ, List, Some, ap, subst}
use Rattle.wait_core.specs.declared.step.Until.TheVariants.{LatchOrShutdown}
use Rattle.wait_core.specs.declared.view.Made.{Made}
use Rattle.wait_core.specs.declared.view.WaitView.{WaitView}
use Rattle.latch.specs.declared.wait.Woke.{Woke}
use Rattle.latch.specs.Reads.{later, WaitSteps, WasRead}
use Rattle.wait_event_set.specs.Calls.{WaitEnded}

-- a wait that a seat makes after other steps is one of its own backend
pub ended_here : {C : Type 0} (v w : WaitView C) (p q : ℕ) (k : Woke) (more rest : List Made) → v.own ≡ Some p → w ≡ later v more → w.own ≡ Some q → WaitSteps q LatchOrShutdown rest → WasRead q k rest → WaitEnded p LatchOrShutdown k rest
ended_here v w p q k more rest own was here steps read =
    let own_same : w.own ≡ v.own = ap (λ (x : WaitView _). x.own) was in
    let same : q ≡ p = cc in
    subst (λ (x : ℕ). WaitEnded x LatchOrShutdown k rest) same (steps, read)
