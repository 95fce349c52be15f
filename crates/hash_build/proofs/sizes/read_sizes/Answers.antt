use Rattle.std.proofs.Common.{sym, subst}
use Rattle.row_model.specs.declared.Side.{Side}
use Rattle.wait_core.specs.declared.view.WaitView.{WaitView}
use Rattle.wait_core.specs.Seating.{party_of}
use Rattle.join_law.specs.declared.view.HashView.{HashView}
use Rattle.join_law.specs.Phases.{reads_sizes}
use Rattle.join_law.proofs.Learned.{batch_growth_found, bucket_growth_found, stored_before}
use Rattle.join_party.specs.Claims.{MayStillEnd}
use Rattle.join_party.specs.Joins.{join}
use Rattle.hash_build.proofs.Hashing.{known_ends}
use Rattle.hash_build.proofs.sizes.read_sizes.Goals as goal

pub invariant_of-seats : goal.invariant_of-seats
invariant_of-seats c =
    let v = c.args.seats.now.wait.view in
    record { ends = subst (λ (y : WaitView HashView). (side : Side) → MayStillEnd y.client side) (sym c.client-word.ensures.view) (known_ends v.client (reads_sizes (party_of v) c.client-word.result.old) c.args.seats.now.ends) }

pub returns-clause-ends : goal.returns-clause-ends
returns-clause-ends c ph =
    let stood = c.client-word.ensures.stood in
    let v = party_of c.args.seats.now.wait.view in
    let j = join c.args.tables.now.waits.party in
    (batch_growth_found j _ _ _ stood.rule.client _ v stood.step ph, bucket_growth_found j _ _ _ stood.rule.client _ v stood.step ph)

pub returns-clause-stored : goal.returns-clause-stored
returns-clause-stored c bar ph later =
    let stood = c.client-word.ensures.stood in
    stored_before (join c.args.tables.now.waits.party) _ _ _ stood.rule.client _ (party_of c.args.seats.now.wait.view) stood.step bar ph later
