use Rattle.std.proofs.Common.{◌≡◌, List, ◌∷◌, Some}
use Rattle.wait_core.specs.declared.step.WaitStep.TheVariants.{Sload}
use Rattle.wait_core.specs.declared.view.Frame.TheVariants.{Announcing}
use Rattle.wait_core.specs.declared.view.Made.{Made}
use Rattle.wait_core.specs.Machine.{behind_wait, made}
use Rattle.latch.specs.Reads.{went, OnlyWaits}
use Rattle.latch.proofs.wait.wait_until.Given as goal

abbrev pub invariant-loop : goal.invariant-loop
invariant-loop g l = (l.seat.table_id ≡ l.fn.seat.table_id) × (l.seat.id ≡ l.fn.seat.id)
    × ((more : List Made) × (l.seat.view ≡ went l.fn.seat.view (Announcing l.until ∷ behind_wait l.fn.begins l.fn.seat.view.place) (made (Sload l.own (Some l.fn.begins)) 0 ∷ more)) × OnlyWaits l.own l.until more)
