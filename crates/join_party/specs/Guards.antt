-- What the join keeps in the guarded words of its lock, and what its signals show.
use Rattle.std.specs.Prelude.{◌≡◌, ◌*◌, ◌<◌, ◌≤◌, ℕ, List, [], ◌∷◌, slice_index}
use Rattle.std.proofs.Common.{arith}

-- Inner rows counted, the growth that is wanted (none, of buckets, of batches, or stopped), the largest batch size seen, and how many reports were made. A report counts 1 to 64 rows
pub record IsReported (words : List ℕ) : Type 0 where
  pub wanted : slice_index words 1 ≤ 3
  pub few : slice_index words 3 ≤ 262144
  pub least : slice_index words 3 ≤ slice_index words 0
  pub most : slice_index words 0 ≤ 64 * slice_index words 3

pub nothing_reported : IsReported (0 ∷ 0 ∷ 0 ∷ 0 ∷ [])
nothing_reported = record { wanted = omega arith; few = omega arith; least = omega arith; most = omega arith }

-- the kind 0, STOP, shows that a count of pairs has passed the limit. No other kind shows anything
abbrev pub stop_shows : ℕ → ℕ → Type 0
stop_shows kind n = kind ≡ 0 → 4194304 < n
