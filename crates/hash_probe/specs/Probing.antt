-- When a seat may probe an outer row, and what it knows then.
use Rattle.std.specs.Prelude.{◌≡◌, ℕ, ◌-◌, ◌≤◌, List, ◌∷◌, ◌++◌, map, length}
use Rattle.row_model.specs.declared.Pair.{Pair}
use Rattle.row_model.specs.declared.Side.TheVariants.{Outer}
use Rattle.seat_roster.specs.Roster.{times}
use Rattle.wait_core.specs.declared.view.WaitView.{WaitView}
use Rattle.wait_core.specs.Seating.{client_moved}
use Rattle.join_law.specs.declared.view.HashView.{HashView}
use Rattle.join_law.specs.declared.view.Probed.{Probed}
use Rattle.join_law.specs.Layout.{Join}
use Rattle.join_law.specs.Routes.{batch_of}
use Rattle.join_law.specs.Phases.{build, batch_bar, RUN, PROBE}
use Rattle.join_law.specs.Machine.{At, InHand}
use Rattle.join_law.specs.Stands.{meeting}
use Rattle.join_law.specs.Views.{View, dropped, pairs_in}
use Rattle.shared_tuples.specs.Tuples.{IsOf, Routed}

-- an outer row in hand, at PROBE of the batch to which its hash leads by the sizes that the seat knows
pub record MayProbe (j : Join) (v : View) (row : ℕ) : Type 0 where
  pub hand : InHand v row
  pub outer : IsOf j Outer row
  pub running : At v build RUN
  pub probing : Routed j v row (λ z x. At v (batch_bar (batch_of z x)) PROBE)

-- an outer row with each inner row that it met, where the first `inner` rows are the inner ones
abbrev pub pairs_of_row : ℕ → Probed → List Pair
pairs_of_row inner p = map (λ i. record { outer = p.row - inner; inner = i }) p.pairs

-- the row left the hand, and was probed or given up
abbrev pub with_probed : HashView → Probed → HashView
with_probed v p = record (dropped v p.row) { probed = p ∷ v.probed }

abbrev pub with_given : HashView → ℕ → HashView
with_given v row = record (dropped v row) { given = row ∷ v.given }

-- The row was probed with the inner rows that it meets, each once. Its pairs are behind those before, and the count that the result count was carried to has all pairs that the seat found; and it can't have probed more rows than there may be
pub record ProbesRow (j : Join) (v w : WaitView HashView) (row : ℕ) (before after : List Pair) (count : ℕ) : Type 0 where
  pub probed : Probed
  pub same : probed.row ≡ row
  pub view : w ≡ client_moved v (with_probed v.client probed)
  pub once : (i : ℕ) → times i probed.pairs ≡ meeting j row i
  pub pairs : after ≡ before ++ pairs_of_row j.inner probed
  pub counted : pairs_in w.client.probed ≤ count
  pub few : length w.client.probed ≤ 1073741824

-- the row was given up, and none of its pairs is kept
pub record GivesUpRow (v w : WaitView HashView) (row : ℕ) (before after : List Pair) : Type 0 where
  pub view : w ≡ client_moved v (with_given v.client row)
  pub pairs : after ≡ before
