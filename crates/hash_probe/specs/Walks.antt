-- How far a seat came in the walk of an outer row's chain.
use Rattle.std.specs.Prelude.{◌≡◌, ℕ, suc, ◌+◌, ◌<◌, ◌≤◌, List, [], ◌∷◌, ◌++◌, Some}
use Rattle.row_model.specs.declared.Pair.{Pair}
use Rattle.wait_core.specs.declared.view.WaitView.{WaitView}
use Rattle.wait_core.specs.Seating.{client_moved}
use Rattle.join_law.specs.declared.view.HashView.{HashView}
use Rattle.join_law.specs.Layout.{Join, heads, rows}
use Rattle.join_law.specs.Routes.{chain_at}
use Rattle.join_law.specs.Machine.{Probing}
use Rattle.join_law.specs.Views.{View, partners}
use Rattle.join_party.specs.declared.party.HashParty.{HashParty}
use Rattle.join_party.specs.Joins.{join}
use Rattle.hash_probe.specs.Looks.{agreeing_among}
use Rattle.hash_probe.specs.Probing.{pairs_of_row}

-- an outer row that is there, with the hash of its key
pub record IsKeyed (j : Join) (row hash : ℕ) : Type 0 where
  pub outer : j.inner ≤ row
  pub there : row < rows j
  pub key : j.hash row ≡ Some hash

-- the head is that of the row's chain, and the row may be walked along it
pub record MayWalk (j : Join) (v : View) (row head : ℕ) : Type 0 where
  pub inside : head < heads j
  pub probing : Probing j v row (λ z x. head ≡ chain_at j z x)

-- the pairs of an outer row among these inner rows
abbrev pub pairs_among : Join → ℕ → List ℕ → List Pair
pairs_among j row list = pairs_of_row j.inner (record { row = row; pairs = partners j row list })

-- the walk of a row that passed these rows, and stands at this word
abbrev pub walking : WaitView HashView → ℕ → List ℕ → ℕ → WaitView HashView
walking v row passed stood = client_moved v (record (v.client) { walk = Some (record { row = row; passed = passed; stood = stood }) })

-- the walk came to the chain's end: the pairs of the row with those it passed were found, with a look at most for each that agrees
pub record ReachesEnd (p : HashParty) (v w : WaitView HashView) (row hash : ℕ) (before after : List Pair) (looks_before looks_after : ℕ) : Type 0 where
  pub passed : List ℕ
  pub view : w ≡ walking v row passed 0
  pub pairs : after ≡ before ++ pairs_among (join p) row passed
  pub looks : looks_after ≤ looks_before + agreeing_among p.inner.now p.buckets hash passed

-- memory ran out at an inner row
pub record RunsShort (p : HashParty) (v w : WaitView HashView) (row hash : ℕ) (before after : List Pair) (looks_before looks_after : ℕ) : Type 0 where
  pub passed : List ℕ
  pub at : ℕ
  pub more : List Pair
  pub view : w ≡ walking v row passed (suc at)
  pub pairs : after ≡ before ++ more
  pub looks : looks_after ≤ looks_before + agreeing_among p.inner.now p.buckets hash (passed ++ at ∷ [])
