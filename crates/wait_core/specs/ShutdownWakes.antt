-- A shutdown wakes each backend that waits for it.
use Rattle.std.specs.Prelude.{◌≡◌, ℕ, ◌+◌, ◌<◌, ◌≤◌, List, slice_index}
use Rattle.wait_core.specs.declared.view.Size.{Size}
use Rattle.wait_core.specs.Words.{shut_at, byte_at}
use Rattle.wait_core.specs.Seating.{Standing}
use Rattle.wait_core.specs.Places.{past_shutdown, stops, backend_count, count_of}

-- where the backend p is past the look at the shutdown word, and that word is 1: its wake byte is 1, or somebody who shuts down has still to store it
abbrev pub StopWakes : Size → ℕ → List ℕ → List Standing → Type 0
StopWakes z p words seats = 1 ≤ backend_count p past_shutdown seats → slice_index words (shut_at z) ≡ 1 → 1 ≤ slice_index words (byte_at p) + count_of (stops p) seats

abbrev pub ShutdownWakes : Size → List ℕ → List Standing → Type 0
ShutdownWakes z words seats = (p : ℕ) → p < z.procs → StopWakes z p words seats
