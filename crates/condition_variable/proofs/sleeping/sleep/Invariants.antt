use Rattle.std.proofs.Common.{◌≡◌, ℕ, List, ◌∷◌, ◌++◌}
use Rattle.wait_core.specs.declared.step.Until.TheVariants.{Latch}
use Rattle.wait_core.specs.declared.view.Frame.TheVariants.{Resetting}
use Rattle.wait_core.specs.declared.view.Made.{Made}
use Rattle.wait_core.specs.Machine.{number_of}
use Rattle.latch.specs.Reads.{went, BeginsWait, ReadLatch}
use Rattle.condition_variable.specs.Calls.{StillListed, wait_begins}
use Rattle.condition_variable.proofs.sleeping.sleep.Given as goal

abbrev pub invariant-loop : goal.invariant-loop
invariant-loop g l = (l.seat.table_id ≡ l.fn.seat.table_id) × (l.seat.id ≡ l.fn.seat.id)
    × ((n : ℕ) × (before wait : List Made) × (l.seat.view ≡ went l.fn.seat.view (Resetting l.cv ∷ l.fn.seat.view.place) (before ++ wait)) × StillListed (number_of l.fn.seat.view.own) l.cv n before × BeginsWait (number_of l.fn.seat.view.own) (wait_begins l.cv n) Latch wait × ReadLatch (number_of l.fn.seat.view.own) 1 wait)
