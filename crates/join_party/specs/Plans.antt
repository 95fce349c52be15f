-- The sizes of a join, by its plan.
use Rattle.std.specs.Prelude.{ℕ, ◌/◌, ◌<◌, ◌≤◌}
use Rattle.std.specs.Int.{IsPowerOfTwo}

-- the least power of two that isn't below n
pub record IsLeastPowerFrom (n power : ℕ) : Type 0 where
  pub is_power : IsPowerOfTwo power
  pub enough : n ≤ power
  pub least : power / 2 < n
