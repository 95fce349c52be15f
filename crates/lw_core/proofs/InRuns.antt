-- What the rule says holds in every run from a new table.
use Rattle.std.proofs.Common.{ℕ, [], ◌∷◌, ◌<◌, ◌≤◌, List, sym, subst}
use Rattle.lw_core.specs.declared.view.Size.{Size}
use Rattle.lw_core.specs.Machine.{LwState}
use Rattle.lw_core.specs.Promises.{IsOpening, HoldsInRuns}
use Rattle.lw_core.specs.Rule.{Rule}
use Rattle.lw_core.proofs.RuleKeeps.{opens, run_keeps}

module _ (lawful : ℕ → List ℕ → Type 0) (z : Size) (zeros : (l : ℕ) → lawful l (0 ∷ 0 ∷ 0 ∷ 0 ∷ [])) (locks : z.locks ≤ 200) (some : 0 < z.procs) (procs : z.procs ≤ 64) where
  pub opening_meets : (s : LwState) → IsOpening z s → Rule lawful z s
  opening_meets s h = subst (Rule lawful z) (sym h.6) (opens lawful z h.0 h.1 h.5 zeros locks some procs h.2 h.3 h.4)

  pub in_runs : (IsSo : LwState → Type 0) → ((s : LwState) → Rule lawful z s → IsSo s) → HoldsInRuns lawful z IsSo
  in_runs IsSo from s t events opened run = from t (run_keeps lawful z events s t (opening_meets s opened) run)
