use Rattle.std.proofs.Common.{◌≡◌, ℕ, Some, sym, ap, ◌∙◌, subst}
use Rattle.row_model.specs.declared.Side.{Side}
use Rattle.wait_core.specs.declared.view.WaitView.{WaitView}
use Rattle.wait_core.specs.Jobs.{away_from}
use Rattle.wait_core.specs.Parties.{phase_of}
use Rattle.wait_core.specs.Seating.{party_of}
use Rattle.join_law.specs.declared.view.HashView.{HashView}
use Rattle.join_law.specs.Quiet.{Quiet, Stays}
use Rattle.join_party.specs.Claims.{MayStillEnd}
use Rattle.join_party.specs.Joins.{join}
use Rattle.shared_tuples.specs.declared.sizes.Growth.TheVariants.{Batches, Buckets}
use Rattle.hash_build.proofs.Passing.{left_batches, may_leave, phase_there}
use Rattle.hash_build.proofs.growths.leave_growths.Goals as goal

pub detach-requires-clause-client : goal.detach-requires-clause-client
detach-requires-clause-client g c κs within =
    let v = c.args.seats.now.wait.view in
    let j = join c.args.tables.now.waits.party in
    subst (λ (b : ℕ). (x : ℕ) × (phase_of v.attached b ≡ Some x) × Quiet j (party_of v) b x × (Stays b x → ⊥)) (sym c.barrier_of.ensures)
    (may_leave j Batches c.args.phases v (phase_there Batches c.args.phases v.attached c.requires.growing.attached) c.requires.growing.hand c.requires.elect.0)

pub detach-requires-2-clause-client : goal.detach-requires-2-clause-client
detach-requires-2-clause-client g c κs within =
    let v = c.args.seats.now.wait.view in
    let w = c.detach.new.seat.view in
    let j = join c.args.tables.now.waits.party in
    let attached = ap (λ (y : WaitView HashView). y.attached) c.detach.ensures.detached.3.view ∙ (ap (λ (b : ℕ). away_from b v.attached) c.barrier_of.ensures ∙ left_batches c.args.phases v.attached c.requires.growing.attached) in
    let hand = ap (λ (y : WaitView HashView). y.client.hand) c.detach.ensures.detached.3.view ∙ c.requires.growing.hand in
    subst (λ (b : ℕ). (x : ℕ) × (phase_of w.attached b ≡ Some x) × Quiet j (party_of w) b x × (Stays b x → ⊥)) (sym c.barrier_of-2.ensures)
    (may_leave j Buckets c.args.phases w (ap (λ a. phase_of a 2) attached) hand c.requires.elect.1)

pub invariant_of-seats : goal.invariant_of-seats
invariant_of-seats g c =
    let same = ap (λ (y : WaitView HashView). y.client) c.detach-2.ensures.detached.3.view ∙ ap (λ (y : WaitView HashView). y.client) c.detach.ensures.detached.3.view in
    record { ends = subst (λ (y : HashView). (side : Side) → MayStillEnd y side) (sym same) c.args.seats.now.ends }
