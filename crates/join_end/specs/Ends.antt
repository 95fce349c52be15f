-- When a join is at its end, as its last seat knows it.
use Rattle.std.specs.Prelude.{◌≡◌, ◌⊎◌, ℕ, ◌<◌, ◌≤◌, true, List, Some, None}
use Rattle.join_law.specs.declared.view.Known.{Known}
use Rattle.join_law.specs.Layout.{sizes_of}
use Rattle.join_law.specs.Views.{View}
use Rattle.join_law.specs.Stands.{There}
use Rattle.hash_probe.specs.Rows.{times_done}

-- it knows the sizes for good, and each batch in force was found at SCAN or FREE, or its outer store at its end in PROBE
pub record Drained (v : View) : Type 0 where
  pub known : Known
  pub is : v.client.known ≡ Some known
  pub settled : known.settled ≡ true
  pub all : (b : ℕ) → b < (sizes_of known.word).batches → 1 ≤ times_done b v.client

-- that, or the build was found at FREE
abbrev pub Ended : View → Type 0
Ended v = (v.client.late ≡ true) ⊎ Drained v

-- no other seat has a number
abbrev pub OthersLeft : List View → ℕ → Type 0
OthersLeft views id = (k : ℕ) (u : View) → (k ≡ id → ⊥) → There views k u → u.proc ≡ None
