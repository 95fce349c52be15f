-- Who was signalled finds its latch set, or is about to.
use Rattle.std.specs.Prelude.{◌≡◌, ℕ, ◌+◌, ◌<◌, ◌≤◌, List, slice_index}
use Rattle.seat_roster.specs.Totals.{total}
use Rattle.wait_core.specs.Words.{set_at}
use Rattle.wait_core.specs.Stances.{Stance, Homes, times_on, heeds_for, has_popped}

-- where p heeds the condition x and is off its list, its latch is 1, or somebody popped it and hasn't yet read its latch as 1 or stored it
abbrev pub SignalReaches : ℕ → ℕ → List ℕ → Homes → List Stance → Type 0
SignalReaches p x words homes seats = 1 ≤ total (heeds_for p x) seats → times_on p x homes seats ≡ 0 → 1 ≤ slice_index words (set_at p) + total (has_popped p) seats

abbrev pub SignalIsKept : ℕ → ℕ → List ℕ → Homes → List Stance → Type 0
SignalIsKept procs slots words homes seats = (p x : ℕ) → p < procs → x < slots → SignalReaches p x words homes seats
