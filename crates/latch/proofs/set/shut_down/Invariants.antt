use Rattle.std.proofs.Common.{◌≡◌, ◌≤◌, ℕ, List, ◌∷◌, Some}
use Rattle.wait_core.specs.declared.step.Call.TheVariants as call
use Rattle.wait_core.specs.declared.step.WaitStep.TheVariants.{Shstore}
use Rattle.wait_core.specs.declared.view.Made.{Made}
use Rattle.wait_core.specs.Machine.{made}
use Rattle.latch.specs.Reads.{went, ByteSteps}
use Rattle.latch.proofs.Walks.{stopping}
use Rattle.latch.proofs.set.shut_down.Given as goal

abbrev pub invariant-loop-at : goal.invariant-loop-at
invariant-loop-at g l = (l.seat.table_id ≡ l.fn.seat.table_id) × (l.seat.id ≡ l.fn.seat.id) × (l.at ≤ l.procs) × (l.procs ≡ l.table.procs)
    × ((found : ℕ) × (bytes : List Made) × (l.seat.view ≡ went l.fn.seat.view (stopping l.procs l.at l.fn.seat.view.place) (made (Shstore (Some call.Shut)) found ∷ bytes)) × ByteSteps l.at bytes)
