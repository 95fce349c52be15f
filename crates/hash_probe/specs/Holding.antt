-- The outer rows that a seat has taken and not yet handled.
use Rattle.std.specs.Prelude.{◌≡◌, ℕ, ◌≤◌, List, [], ◌∷◌, All, Some, map}
use Rattle.seat_roster.specs.Roster.{times}
use Rattle.join_law.specs.Layout.{Join, sizes_of}
use Rattle.join_law.specs.Phases.{build, batch_bar, RUN, PROBE}
use Rattle.join_law.specs.Routes.{batch_of}
use Rattle.join_law.specs.Views.{View}
use Rattle.hash_build.specs.Hashing.{for_good}
use Rattle.hash_probe.specs.declared.stores.Held.{Held}

-- an outer row, with the hash of its key, which leads to this batch by these sizes
pub record IsRowWithHash (j : Join) (word batch : ℕ) (h : Held) : Type 0 where
  pub outer : j.inner ≤ h.row
  pub key : j.hash h.row ≡ Some h.hash
  pub leads : batch_of (sizes_of word) h.hash ≡ batch

abbrev pub rows_held : List Held → List ℕ
rows_held held = map (λ (h : Held). h.row) held

-- at PROBE of the batch the seat has these rows of it in hand, each as often as it is listed, and no others
pub record HoldsRows (j : Join) (v : View) (batch : ℕ) (held : List Held) : Type 0 where
  pub word : ℕ
  pub known : v.client.known ≡ for_good word
  pub attached : v.attached ≡ (batch_bar batch, PROBE) ∷ (build, RUN) ∷ []
  pub hand : (row : ℕ) → times row v.client.hand ≡ times row (rows_held held)
  pub each : All (IsRowWithHash j word batch) held
