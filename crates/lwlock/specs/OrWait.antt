-- The answers of an acquire-or-wait.
use Rattle.std.specs.Prelude.{ℕ, ⊤}
use Rattle.lwlock.specs.declared.or_wait.OrWait.{OrWait}
use Rattle.lwlock.specs.declared.or_wait.OrWait.TheVariants.{Got, Freed}

abbrev pub OnGot : OrWait → Type 0 → Type 0
OnGot Got P = P
OnGot (Freed seen) P = ⊤

abbrev pub OnFreed : OrWait → (ℕ → Type 0) → Type 0
OnFreed Got P = ⊤
OnFreed (Freed seen) P = P seen
