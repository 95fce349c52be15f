use Rattle.std.proofs.Common.{◌≡◌, ℕ, ◌+◌, ◌-◌, ◌<◌, ◌≤◌, min, sym, ap, ◌∙◌, subst, arith}
use Rattle.wait_core.specs.declared.view.WaitView.{WaitView}
use Rattle.wait_core.specs.Seating.{client_moved, party_of}
use Rattle.join_law.specs.declared.view.HashView.{HashView}
use Rattle.row_model.specs.declared.Side.{Side}
use Rattle.join_law.specs.Layout.{Inside}
use Rattle.join_law.specs.Machine.{At, cursor, claimed_rows, claims_of, claim_phase}
use Rattle.join_law.specs.Phases.{build}
use Rattle.join_party.specs.Claims.{Claimed, MayStillEnd, count_of, first_of, chunk_of}
use Rattle.join_party.specs.Joins.{join}
use Rattle.join_party.specs.declared.party.HashParty.{HashParty}
use Rattle.join_party.proofs.Claiming.{looked_on, drew_rows, still_after_look, still_after_draw, cursor_is_inside, may_draw, once_in_hand, claimed}
use Rattle.join_party.proofs.claims.claim.Goals as goal

pub invariant_of-seats : goal.invariant_of-seats
invariant_of-seats c =
    let j = join c.args.tables.now.waits.party in
    let v = c.args.seats.now.wait.view in
    record { ends = subst (λ (y : WaitView HashView). (s : Side) → MayStillEnd y.client s) (sym c.client-seen.ensures.view) (still_after_look j (party_of v) c.args.side c.client-seen.result.old c.args.seats.now.ends) }

pub client-found-requires-clause-may : goal.client-found-requires-clause-may
client-found-requires-clause-may c κs =
    let j = join c.args.tables.now.waits.party in
    let side = c.args.side in
    let v = c.args.seats.now.wait.view in
    let ends : c.rows_of-begin.result.1 ≡ count_of j side = c.rows_of-begin.ensures.rows.1 ∙ ap (λ (p : HashParty). count_of (join p) side) c.party.ensures in
    let seen : ℕ = c.client-seen.result.old in
    let before : seen < count_of j side = omega arith in
    let same : c.client-seen.new.seat.view ≡ v = c.client-seen.ensures.view ∙ ap (λ (k : HashView). client_moved v k) (looked_on j (party_of v) side seen before) in
    let stood = c.client-seen.ensures.stood in
    subst (λ (y : WaitView HashView). Inside j (cursor side) × (At (party_of y) build (claim_phase side) × (1 ≤ claims_of (party_of y) side))) (sym same)
    (cursor_is_inside j side, (c.requires.phase, may_draw j _ _ _ stood.rule.client _ (party_of v) stood.step side seen stood.read before (c.args.seats.now.ends side)))

pub invariant_of-seats-2 : goal.invariant_of-seats-2
invariant_of-seats-2 c =
    let j = join c.args.tables.now.waits.party in
    let v = c.args.seats.now.wait.view in
    let w = c.client-seen.new.seat.view in
    let still = subst (λ (y : WaitView HashView). (s : Side) → MayStillEnd y.client s) (sym c.client-seen.ensures.view) (still_after_look j (party_of v) c.args.side c.client-seen.result.old c.args.seats.now.ends) in
    record { ends = subst (λ (y : WaitView HashView). (s : Side) → MayStillEnd y.client s) (sym c.client-found.ensures.view) (still_after_draw j (party_of w) c.args.side c.client-found.result.old still) }

pub returns-clause-claimed : goal.returns-clause-claimed
returns-clause-claimed c =
    let j = join c.args.tables.now.waits.party in
    let side = c.args.side in
    let v = c.args.seats.now.wait.view in
    let w = c.client-seen.new.seat.view in
    let x = c.client-found.new.seat.view in
    let begins : c.rows_of-begin.result.0 ≡ first_of j side = c.rows_of-begin.ensures.rows.0 ∙ ap (λ (p : HashParty). first_of (join p) side) c.party.ensures in
    let ends : c.rows_of-begin.result.1 ≡ count_of j side = c.rows_of-begin.ensures.rows.1 ∙ ap (λ (p : HashParty). count_of (join p) side) c.party.ensures in
    let seen : ℕ = c.client-seen.result.old in
    let n : ℕ = c.client-found.result.old in
    let before : seen < count_of j side = omega arith in
    let less : n < count_of j side = omega arith in
    let same : w ≡ v = c.client-seen.ensures.view ∙ ap (λ (k : HashView). client_moved v k) (looked_on j (party_of v) side seen before) in
    let stood = c.client-found.ensures.stood in
    let then : x ≡ client_moved w (claimed_rows w.client (first_of j side + n) (min 64 (count_of j side - n)) (chunk_of side)) = c.client-found.ensures.view ∙ ap (λ (k : HashView). client_moved w k) (drew_rows j (party_of w) side n less) in
    subst (λ (y : WaitView HashView). Claimed j side y x (c.rows_of-begin.result.0 + n) c.min.result) same
    (claimed j side w x n _ _ (ap (λ (b : ℕ). b + n) begins) (omega arith) less then (once_in_hand j _ _ _ stood.rule.client _ (party_of w) stood.step side n stood.read less))
