use Rattle.std.proofs.Common.{ℕ, Option, true, List, [], ◌∷◌, ◌++◌, None, refl, sym, ap, ◌∙◌, subst}
use Rattle.wait_core.specs.declared.view.PartyView.{PartyView}
use Rattle.wait_core.specs.Barriers.{waits_at}
use Rattle.wait_core.specs.Seating.{party_of}
use Rattle.wait_core.specs.Seats.{size_of}
use Rattle.wait_core.specs.Words.{slot_of}
use Rattle.wait_core.specs.declared.step.WaitStep.TheVariants.{Take}
use Rattle.wait_core.specs.declared.view.WaitView.{WaitView}
use Rattle.wait_core.specs.declared.view.Made.{Made}
use Rattle.wait_core.specs.Machine.{MaySpin, Permits, as_kept, made, number_of, spun, top}
use Rattle.wait_core.specs.Stances.{belongs_at}
use Rattle.wait_core.specs.Told.{TellsList, TellsRecord}
use Rattle.latch.specs.Reads.{went}
use Rattle.latch.proofs.Walks.{went_through}
use Rattle.wait_core.proofs.Hands.{spun_waits}
use Rattle.condition_variable.proofs.Walks.{went_none, belongs_taken, swaps_on, spins_append, may_take_again, taken_still, swapped_set}
use Rattle.condition_variable.proofs.taking.wait_for_spot.Goals as goal

pub loop-init : goal.loop-init
loop-init g c = (refl, refl, ([], went_none c.args.seat.now.view, tt))

pub spin-requires-clause-place : goal.spin-requires-clause-place
spin-requires-clause-place g c = λ _ _. subst (λ (y : WaitView _). MaySpin c.args.spot.now (top y.place)) (sym c.loop.invariant.2.1) c.requires.place

pub step-requires-clause-place : goal.step-requires-clause-place
step-requires-clause-place g c =
    let v = c.args.seat.now.view in
    let inv = c.loop.invariant.2 in
    let spins = c.spin.ensures.view in
    let at = went_through v _ _ _ (spun true v.place) inv.0 spins.0 inv.1 (spins.1 ∙ ap (λ (y : WaitView _). went c.loop.seat.view (spun true y.place) spins.0) inv.1) in
    λ _ _. subst (λ (y : WaitView _). Permits (size_of c.args.table.now) (Take c.args.spot.now None) y.own y.target y.place) (sym at) (c.requires.spot, may_take_again c.args.spot.now v.place c.requires.place)

pub returns-then-step-eq0-clause-view : goal.returns-then-step-eq0-clause-view
returns-then-step-eq0-clause-view g c =
    let v = c.args.seat.now.view in
    let inv = c.loop.invariant.2 in
    let spins = c.spin.ensures.view in
    let at = went_through v _ _ _ (spun true v.place) inv.0 spins.0 inv.1 (spins.1 ∙ ap (λ (y : WaitView _). went c.loop.seat.view (spun true y.place) spins.0) inv.1) in
    (inv.0 ++ spins.0, swaps_on (size_of c.args.table.now) v _ _ (spun true v.place) (inv.0 ++ spins.0) c.args.spot.now _ 0 _ at c.step.ensures.view c.if-step-eq0.true, spins_append c.args.spot.now inv.0 spins.0 inv.2 spins.2)

pub returns-then-step-eq0-clause-list : goal.returns-then-step-eq0-clause-list
returns-then-step-eq0-clause-list g c =
    let v = c.args.seat.now.view in
    let inv = c.loop.invariant.2 in
    let spins = c.spin.ensures.view in
    let k = as_kept c.step.new.seat.list c.step.new.seat.record in
    let at = went_through v _ _ _ (spun true v.place) inv.0 spins.0 inv.1 (spins.1 ∙ ap (λ (y : WaitView _). went c.loop.seat.view (spun true y.place) spins.0) inv.1) in
    let on = swaps_on (size_of c.args.table.now) v _ _ (spun true v.place) (inv.0 ++ spins.0) c.args.spot.now _ 0 k at c.step.ensures.view c.if-step-eq0.true in
    let belongs = ap (λ (y : WaitView _). belongs_at y.target y.place) on ∙ belongs_taken c.args.spot.now v.target k (spun true v.place) (may_take_again c.args.spot.now v.place c.requires.place) in
    subst {A = ℕ × Option ℕ} (λ y. TellsList (size_of c.args.table.now) y.0 y.1 (slot_of c.args.spot.now) c.step.new.seat.list) (λ i. (number_of (at i).own, belongs i)) (c.step.ensures.list c.if-step-eq0.true)

pub loop-preserved : goal.loop-preserved
loop-preserved g c =
    let v = c.args.seat.now.view in
    let inv = c.loop.invariant.2 in
    let spins = c.spin.ensures.view in
    let at = went_through v _ _ _ (spun true v.place) inv.0 spins.0 inv.1 (spins.1 ∙ ap (λ (y : WaitView _). went c.loop.seat.view (spun true y.place) spins.0) inv.1) in
    let more : List Made = (inv.0 ++ spins.0) ++ made (Take c.args.spot.now None) 1 ∷ [] in
    let on = swaps_on (size_of c.args.table.now) v _ _ (spun true v.place) (inv.0 ++ spins.0) c.args.spot.now _ 1 _ at c.step.ensures.view (swapped_set c.step.result.old c.step.ensures.told c.if-step-eq0.false) in
    ((cc), (cc), (more, on ∙ ap (λ p. went v p more) (taken_still c.args.spot.now (as_kept c.step.new.seat.list c.step.new.seat.record) v.place c.requires.place), spins_append c.args.spot.now (inv.0 ++ spins.0) _ (spins_append c.args.spot.now inv.0 spins.0 inv.2 spins.2) ((refl, refl), tt)))

pub returns-then-step-eq0-clause-barrier : goal.returns-then-step-eq0-clause-barrier
returns-then-step-eq0-clause-barrier g c =
    let v = c.args.seat.now.view in
    let inv = c.loop.invariant.2 in
    let spins = c.spin.ensures.view in
    let at = went_through v _ _ _ (spun true v.place) inv.0 spins.0 inv.1 (spins.1 ∙ ap (λ (y : WaitView _). went c.loop.seat.view (spun true y.place) spins.0) inv.1) in
    let waits = ap (λ (y : WaitView _). waits_at y.place) at ∙ spun_waits true v.place in
    subst {A = ℕ × Option (ℕ × ℕ) × PartyView _} (λ y. TellsRecord (g.P.Party.means c.args.table.now.party) (size_of c.args.table.now) c.args.table.now.phase (g.P.Party.word_count c.args.table.now.party) c.args.spot.now y.0 y.1 y.2 c.step.new.seat.record) (λ i. ((c.spin.ensures.table.1 ∙ c.loop.invariant.1) i, waits i, party_of (at i))) (c.step.ensures.barrier c.if-step-eq0.true)
