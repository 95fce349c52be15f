-- Lists whose backends are all the table's.
use Rattle.std.proofs.Common.{ℕ, zero, suc, ◌<◌, List, [], ◌∷◌, length, get_or, arith}
use Rattle.lw_core.specs.declared.view.Waiter.{Waiter}
use Rattle.lw_core.specs.WaitLists.{AllBelow}

pub below_at : (procs : ℕ) (ws : List Waiter) (i : ℕ) (other : Waiter) → AllBelow procs ws → i < length ws → (get_or ws i other).proc < procs
below_at procs [] i other below inside = absurd (omega arith)
below_at procs (w ∷ ws) zero other below inside = below.0
below_at procs (w ∷ ws) (suc i) other below inside = below_at procs ws i other below.1 (omega arith)
