-- A backend's word says whether it may sleep.
use Rattle.std.specs.Prelude.{◌≡◌, ℕ, ◌<◌, List, slice_index}
use Rattle.wait_core.specs.Words.{may_at}
use Rattle.wait_core.specs.Seating.{Standing}
use Rattle.wait_core.specs.Places.{may_sleep, backend_count}

-- the word is 1 exactly where the backend stored that it may sleep, and not yet that it may not
abbrev pub MaySleepIsMarked : ℕ → List ℕ → List Standing → Type 0
MaySleepIsMarked procs words seats = (p : ℕ) → p < procs → slice_index words (may_at p) ≡ backend_count p may_sleep seats
