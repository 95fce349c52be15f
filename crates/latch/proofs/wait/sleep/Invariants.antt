use Rattle.std.proofs.Common.{◌≡◌, ℕ, Bool, List, ◌∷◌}
use Rattle.wait_core.specs.declared.view.Made.{Made}
use Rattle.wait_core.specs.Machine.{outer}
use Rattle.latch.specs.Reads.{went, OnlyWaits}
use Rattle.latch.proofs.Walks.{watches}
use Rattle.latch.proofs.wait.sleep.Given as goal

abbrev pub invariant-loop : goal.invariant-loop
invariant-loop g l = (l.seat.table_id ≡ l.fn.seat.table_id) × (l.seat.id ≡ l.fn.seat.id)
    × ((b : Bool) × (more : List Made) × (l.seat.view ≡ went l.fn.seat.view (watches l.fn.until b ∷ outer l.fn.seat.view.place) more) × ((p : ℕ) → OnlyWaits p l.fn.until more))
