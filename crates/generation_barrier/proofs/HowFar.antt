-- How far the kinds that failed are put back.
use Rattle.std.proofs.Common.{◌≡◌, ◌⊎◌, ℕ, ◌^◌, ◌<◌, ◌≤◌, nat_lt, cond, List, [], ◌++◌, Option, None, Some}
use Rattle.std.specs.Int.{bit_at}
use Rattle.signal_core.specs.declared.view.Frame.{Frame}
use Rattle.signal_core.specs.declared.view.Frame.TheVariants.{Keeping, Taking}
use Rattle.signal_core.specs.declared.view.Made.{Made}
use Rattle.signal_core.specs.declared.view.SigView.{SigView}
use Rattle.signal_core.specs.Machine.{takes, kinds_below}
use Rattle.generation_barrier.specs.Absorbing.{went}

-- nothing is put back yet, and what failed is still to be said: none of the kinds below n did
abbrev pub IsFresh : SigView → List Made → ℕ → ℕ → Option ℕ → SigView → Type 0
IsFresh v more failed n carried w = (carried ≡ Some failed) × (more ≡ []) × (w ≡ v) × ((j : ℕ) → j < n → bit_at failed j ≡ 0)

-- the kinds below `done` are put back, and none from there to n failed
abbrev pub keeping : ℕ → ℕ → ℕ → ℕ → Option Frame
keeping h found failed done = cond (nat_lt failed (2 ^ done)) None (Some (Keeping h found failed done))

abbrev pub IsUnderWay : SigView → List Made → ℕ → ℕ → Option ℕ → SigView → Type 0
IsUnderWay v more failed n carried w = (carried ≡ None) × ((done : ℕ) × (done ≤ n) × ((j : ℕ) → done ≤ j → j < n → bit_at failed j ≡ 0)
    × ((h found : ℕ) → v.place ≡ Some (Taking h found) → w ≡ record (went v more v.slot (v.absorbed ++ kinds_below 32 (takes found failed))) { place = keeping h found failed done }))

abbrev pub Backing : SigView → List Made → ℕ → ℕ → Option ℕ → SigView → Type 0
Backing v more failed n carried w = IsFresh v more failed n carried w ⊎ IsUnderWay v more failed n carried w
