use Rattle.std.proofs.Common.{◌≡◌, ℕ, Some, sym, ap, ◌∙◌, subst}
use Rattle.row_model.specs.declared.Side.{Side}
use Rattle.wait_core.specs.declared.view.WaitView.{WaitView}
use Rattle.wait_core.specs.Parties.{phase_of}
use Rattle.wait_core.specs.Seating.{client_moved, party_of}
use Rattle.join_law.specs.declared.view.HashView.{HashView}
use Rattle.join_law.specs.Quiet.{Quiet, Stays}
use Rattle.join_party.specs.Claims.{MayStillEnd}
use Rattle.join_party.specs.Joins.{join}
use Rattle.hash_build.specs.Hashing.{with_late}
use Rattle.hash_build.proofs.Passing.{quiet_free}
use Rattle.hash_build.proofs.Hashing.{late_ends}
use Rattle.hash_build.proofs.phases.leave_late.Goals as goal

pub detach-requires-clause-client : goal.detach-requires-clause-client
detach-requires-clause-client g c κs within =
    let j = join c.args.tables.now.waits.party in
    let phase : ℕ = c.requires.phase.0 in
    subst {A = ℕ × WaitView HashView} (λ y. (x : ℕ) × (phase_of y.1.attached y.0 ≡ Some x) × Quiet j (party_of y.1) y.0 x × (Stays y.0 x → ⊥)) (λ i. (sym c.the_build.ensures i, sym c.client.ensures.view i))
    (phase, ap (λ a. phase_of a 0) c.requires.phase.2, (c.requires.hand, quiet_free j (party_of (client_moved c.args.seats.now.wait.view (with_late c.args.seats.now.wait.view.client))) phase c.requires.phase.1), λ none. none)

pub invariant_of-seats : goal.invariant_of-seats
invariant_of-seats g c =
    let same = ap (λ (y : WaitView HashView). y.client) c.detach.ensures.detached.3.view ∙ ap (λ (y : WaitView HashView). y.client) c.client.ensures.view in
    record { ends = subst (λ (y : HashView). (side : Side) → MayStillEnd y side) (sym same) (late_ends c.args.seats.now.wait.view.client c.args.seats.now.ends) }
