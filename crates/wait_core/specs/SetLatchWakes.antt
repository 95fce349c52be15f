-- A latch that is set wakes its backend.
use Rattle.std.specs.Prelude.{◌≡◌, ℕ, ◌+◌, ◌<◌, ◌≤◌, List, slice_index}
use Rattle.wait_core.specs.Words.{set_at, byte_at}
use Rattle.wait_core.specs.Seating.{Standing}
use Rattle.wait_core.specs.Places.{past_latch, tells, backend_count, count_of}

-- where the backend p is past the second look at its latch, and the latch is set: its wake byte is 1, or a setter of p is under way
abbrev pub LatchWakes : ℕ → List ℕ → List Standing → Type 0
LatchWakes p words seats = 1 ≤ backend_count p past_latch seats → slice_index words (set_at p) ≡ 1 → 1 ≤ slice_index words (byte_at p) + count_of (tells p) seats

abbrev pub SetLatchWakes : ℕ → List ℕ → List Standing → Type 0
SetLatchWakes procs words seats = (p : ℕ) → p < procs → LatchWakes p words seats
