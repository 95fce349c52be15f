-- What stays of a seat that was joined into another.
use Rattle.std.specs.Prelude.{◌≡◌, ℕ, List, [], None}
use mathlib.Core.Option as maybe
use lib.ListN.{get_elem?}
use Rattle.wait_core.specs.declared.view.WaitView.{WaitView}

-- a view without a number is attached to no barrier, was elected by none, and waited out no phase
pub record IsFree {C : Type 0} (v : WaitView C) : Type 0 where
  pub attached : v.attached ≡ []
  pub elections : v.elections ≡ []
  pub passed : v.passed ≡ []

abbrev pub LeftAreFree : {C : Type 0} → List (WaitView C) → Type 0
LeftAreFree seats = (id : ℕ) (v : WaitView _) → get_elem? seats id ≡ maybe.some v → v.own ≡ None → IsFree v
