-- The views after a move.
use Rattle.std.proofs.Common.{◌≡◌, ℕ, set, ◌∙◌}
use mathlib.Core.Option as maybe
use lib.ListN.{get_elem?}
use Rattle.atomic_table.proofs.Lists.{set_else}
use Rattle.lw_core.specs.declared.view.View.{View}
use Rattle.lw_core.specs.Machine.{LwState}
use Rattle.lw_core.specs.Runs.{both}

-- a seat that is to be taken in still has its view once the other one has changed
pub there : (s : LwState) (id other : ℕ) (v w : View) → (other ≡ id → ⊥) → get_elem? s.views other ≡ maybe.some w → get_elem? (set s.views id (both v w)) other ≡ maybe.some w
there s id other v w apart at = set_else s.views id other (both v w) apart ∙ at
