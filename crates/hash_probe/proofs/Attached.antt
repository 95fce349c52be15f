-- Where a seat is that is attached to the build and to a batch.
use Rattle.std.proofs.Common.{◌≡◌, ℕ, zero, suc, ◌≤◌, cond, eq-eqb, Bool, List, ◌∷◌, refl, ap, arith, Some}
use Rattle.row_model.specs.declared.Side.{Side}
use Rattle.row_model.specs.declared.Side.TheVariants.{Inner, Outer}
use Rattle.wait_core.specs.Parties.{phase_of}
use Rattle.join_law.specs.declared.view.HashView.{HashView}
use Rattle.join_law.specs.Phases.{SCAN}
use Rattle.join_law.specs.Quiet.{QuietAtBatch}
use Rattle.join_law.specs.Views.{View}
use Rattle.join_party.specs.Claims.{MayStillEnd}
use Rattle.hash_probe.specs.Rows.{found_done}

pub phase_first : (b ph : ℕ) (rest : List (ℕ × ℕ)) → phase_of ((b, ph) ∷ rest) b ≡ Some ph
phase_first b ph rest = ap (λ (x : Bool). cond x (Some ph) (phase_of rest b)) (eq-eqb b b refl)

-- from SCAN on a seat has nothing left to do
pub quiet_past : (v : View) (b ph : ℕ) → SCAN ≤ ph → QuietAtBatch v b ph
quiet_past v b zero past = absurd (omega arith)
quiet_past v b (suc zero) past = absurd (omega arith)
quiet_past v b (suc (suc zero)) past = absurd (omega arith)
quiet_past v b (suc (suc (suc zero))) past = absurd (omega arith)
quiet_past v b (suc (suc (suc (suc ph)))) past = tt

-- a seat that found a batch done may still find an end by an add
pub done_ends : (c : HashView) (b : ℕ) → ((side : Side) → MayStillEnd c side) → (side : Side) → MayStillEnd (found_done b c) side
done_ends c b may Inner = may Inner
done_ends c b may Outer = may Outer
