-- When a seat may load an inner row, and what the loading of a batch leaves.
use Rattle.std.specs.Prelude.{◌≡◌, ℕ, ◌≤◌}
use Rattle.row_model.specs.declared.Side.TheVariants.{Inner}
use Rattle.seat_roster.specs.Roster.{times}
use Rattle.join_law.specs.declared.view.HashView.{HashView}
use Rattle.join_law.specs.Layout.{Join}
use Rattle.join_law.specs.Machine.{At}
use Rattle.join_law.specs.Phases.{build, batch_bar, LOAD, RUN}
use Rattle.join_law.specs.Routes.{batch_of}
use Rattle.join_law.specs.Views.{View}
use Rattle.shared_tuples.specs.Tuples.{IsOf, IsReady, Routed}
use Rattle.hash_probe.specs.declared.HashTable.{HashTable}
use Rattle.hash_probe.specs.Rows.{ProbesOnly}
use Rattle.hash_probe.specs.Working.{KnowsTable}

-- an inner row in hand, whose hash word is stored, in LOAD of the batch to which its hash leads
pub record MayLoad (j : Join) (v : View) (table : HashTable) (row : ℕ) : Type 0 where
  pub ready : IsReady v row
  pub inner : IsOf j Inner row
  pub known : KnowsTable j v.client.known table
  pub running : At v build RUN
  pub loading : Routed j v row (λ z x. At v (batch_bar (batch_of z x)) LOAD)

-- no row was probed or given up
pub record ProbesNone (v w : HashView) : Type 0 where
  pub probed : w.probed ≡ v.probed
  pub given : w.given ≡ v.given
  pub only : ProbesOnly v w

-- the batch's inner store was seen at its end
abbrev pub IsLoaded : ℕ → HashView → Type 0
IsLoaded batch v = 1 ≤ times batch v.emptied
