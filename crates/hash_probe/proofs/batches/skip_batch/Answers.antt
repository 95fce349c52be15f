use Rattle.std.proofs.Common.{◌≡◌, ℕ, ◌≤◌, [], ◌∷◌, List, Some, sym, ap, ◌∙◌, subst, arith}
use Rattle.row_model.specs.declared.Side.{Side}
use Rattle.wait_core.specs.declared.view.WaitView.{WaitView}
use Rattle.wait_core.specs.Parties.{phase_of}
use Rattle.wait_core.specs.Seating.{client_moved, party_of}
use Rattle.join_law.specs.declared.view.HashView.{HashView}
use Rattle.join_law.specs.Phases.{RUN, SCAN, batch_bar, build}
use Rattle.join_law.specs.Quiet.{Quiet, Stays}
use Rattle.join_party.specs.Claims.{MayStillEnd}
use Rattle.join_party.specs.Joins.{join}
use Rattle.hash_probe.specs.Rows.{found_done}
use Rattle.hash_probe.proofs.Attached.{done_ends, phase_first, quiet_past}
use Rattle.hash_probe.proofs.batches.skip_batch.Goals as goal

pub detach-requires-clause-client : goal.detach-requires-clause-client
detach-requires-clause-client g c κs within =
    let j = join c.args.tables.now.waits.party in
    let v = c.args.seats.now.wait.view in
    let mine : HashView = found_done c.args.batch v.client in
    let bar : ℕ = batch_bar c.args.batch in
    let phase : ℕ = c.requires.attached.0 in
    let past : SCAN ≤ phase = c.requires.attached.1 in
    subst {A = ℕ × WaitView HashView} (λ y. (x : ℕ) × (phase_of y.1.attached y.0 ≡ Some x) × Quiet j (party_of y.1) y.0 x × (Stays y.0 x → ⊥)) (λ i. (sym c.barrier_of.ensures i, sym c.client.ensures.view i))
    (phase, ap (λ (a : List (ℕ × ℕ)). phase_of a bar) c.requires.attached.2 ∙ phase_first bar phase ((build, RUN) ∷ []), (c.requires.hand, quiet_past (party_of (client_moved v mine)) c.args.batch phase past), λ stays. absurd (omega arith))

pub invariant_of-seats : goal.invariant_of-seats
invariant_of-seats g c =
    let same = ap (λ (y : WaitView HashView). y.client) c.detach.ensures.detached.3.view ∙ ap (λ (y : WaitView HashView). y.client) c.client.ensures.view in
    record { ends = subst (λ (y : HashView). (side : Side) → MayStillEnd y side) (sym same) (done_ends c.args.seats.now.wait.view.client c.args.batch c.args.seats.now.ends) }
