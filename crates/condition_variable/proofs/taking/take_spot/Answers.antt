use Rattle.std.proofs.Common.{◌≡◌, ℕ, true, false, [], ◌∷◌, ◌++◌, Option, None, refl, sym, ap, ◌∙◌, subst, inl, inr}
use Rattle.wait_core.specs.declared.view.PartyView.{PartyView}
use Rattle.wait_core.specs.Barriers.{waits_at}
use Rattle.wait_core.specs.Seating.{party_of}
use Rattle.wait_core.specs.Seats.{size_of}
use Rattle.wait_core.specs.Words.{slot_of}
use Rattle.wait_core.specs.declared.step.WaitStep.TheVariants.{Take}
use Rattle.wait_core.specs.declared.view.WaitView.{WaitView}
use Rattle.wait_core.specs.Machine.{MaySpin, Place, as_kept, made_with, number_of, spun, taken, top}
use Rattle.wait_core.specs.Stances.{belongs_at}
use Rattle.wait_core.specs.Told.{TellsList, TellsRecord}
use Rattle.latch.specs.Reads.{went}
use Rattle.latch.proofs.Walks.{went_through}
use Rattle.condition_variable.specs.Visits.{entering}
use Rattle.wait_core.proofs.Hands.{taken_waits}
use Rattle.condition_variable.proofs.Walks.{takes_on, entering_waits, may_wait, waited, belongs_taken, swapped_set}
use Rattle.condition_variable.proofs.taking.take_spot.Goals as goal

pub wait_for_spot-requires-clause-place : goal.wait_for_spot-requires-clause-place
wait_for_spot-requires-clause-place g c =
    let v = c.args.seat.now.view in
    let k = as_kept c.step.new.seat.list c.step.new.seat.record in
    let q : Place = entering c.args.begins v.target v.place in
    let on = takes_on (size_of c.args.table.now) v _ c.args.spot c.args.begins _ 1 k c.step.ensures.view (swapped_set c.step.result.old c.step.ensures.told c.if-step-eq0.false) in
    λ _ _. subst (λ (y : WaitView _). MaySpin c.args.spot (top y.place)) (sym on) (may_wait c.args.spot k q c.requires.job)

pub returns-then-step-eq0-clause-view : goal.returns-then-step-eq0-clause-view
returns-then-step-eq0-clause-view g c = (_, takes_on (size_of c.args.table.now) c.args.seat.now.view _ c.args.spot c.args.begins _ 0 _ c.step.ensures.view c.if-step-eq0.true, inl refl)

pub returns-then-step-eq0-clause-list : goal.returns-then-step-eq0-clause-list
returns-then-step-eq0-clause-list g c =
    let v = c.args.seat.now.view in
    let k = as_kept c.step.new.seat.list c.step.new.seat.record in
    let q : Place = entering c.args.begins v.target v.place in
    let on = takes_on (size_of c.args.table.now) v _ c.args.spot c.args.begins _ 0 k c.step.ensures.view c.if-step-eq0.true in
    subst (λ (b : Option ℕ). TellsList (size_of c.args.table.now) (number_of v.own) b (slot_of c.args.spot) c.step.new.seat.list) (ap (λ (y : WaitView _). belongs_at y.target y.place) on ∙ belongs_taken c.args.spot v.target k q c.requires.job) (c.step.ensures.list c.if-step-eq0.true)

pub returns-clause-view : goal.returns-clause-view
returns-clause-view g c =
    let v = c.args.seat.now.view in
    let k = as_kept c.step.new.seat.list c.step.new.seat.record in
    let q : Place = entering c.args.begins v.target v.place in
    let on = takes_on (size_of c.args.table.now) v _ c.args.spot c.args.begins _ 1 k c.step.ensures.view (swapped_set c.step.result.old c.step.ensures.told c.if-step-eq0.false) in
    let waits = c.wait_for_spot.ensures.view in
    let last = as_kept c.wait_for_spot.new.seat.list c.wait_for_spot.new.seat.record in
    let back : spun true c.step.new.seat.view.place ≡ q = ap (λ (y : WaitView _). spun true y.place) on ∙ waited c.args.spot k q c.requires.job in
    (_, went_through v _ _ _ (taken true last q) _ _ on (waits.1 ∙ ap (λ (p : Place). went c.step.new.seat.view (taken true last p) (waits.0 ++ made_with (Take c.args.spot None) 0 c.wait_for_spot.new.seat.list ∷ [])) back), inr (waits.0, refl, waits.2))

pub returns-clause-list : goal.returns-clause-list
returns-clause-list g c =
    let v = c.args.seat.now.view in
    let k = as_kept c.step.new.seat.list c.step.new.seat.record in
    let q : Place = entering c.args.begins v.target v.place in
    let on = takes_on (size_of c.args.table.now) v _ c.args.spot c.args.begins _ 1 k c.step.ensures.view (swapped_set c.step.result.old c.step.ensures.told c.if-step-eq0.false) in
    let back : spun true c.step.new.seat.view.place ≡ q = ap (λ (y : WaitView _). spun true y.place) on ∙ waited c.args.spot k q c.requires.job in
    let own : number_of c.step.new.seat.view.own ≡ number_of v.own = ap (λ (y : WaitView _). number_of y.own) on in
    let target : c.step.new.seat.view.target ≡ v.target = ap (λ (y : WaitView _). y.target) on in
    subst {A = ℕ × Option ℕ} (λ y. TellsList (size_of c.args.table.now) y.0 y.1 (slot_of c.args.spot) c.wait_for_spot.new.seat.list) (λ i. (own i, belongs_at (target i) (back i))) c.wait_for_spot.ensures.list

pub returns-clause-barrier : goal.returns-clause-barrier
returns-clause-barrier g c =
    let v = c.args.seat.now.view in
    let k = as_kept c.step.new.seat.list c.step.new.seat.record in
    let q : Place = entering c.args.begins v.target v.place in
    let on = takes_on (size_of c.args.table.now) v _ c.args.spot c.args.begins _ 1 k c.step.ensures.view (swapped_set c.step.result.old c.step.ensures.told c.if-step-eq0.false) in
    let waits : waits_at c.step.new.seat.view.place ≡ waits_at v.place = ap (λ (y : WaitView _). waits_at y.place) on ∙ (taken_waits false k q ∙ entering_waits c.args.begins v.target v.place) in
    subst {A = ℕ × Option (ℕ × ℕ) × PartyView _} (λ y. TellsRecord (g.P.Party.means c.args.table.now.party) (size_of c.args.table.now) c.args.table.now.phase (g.P.Party.word_count c.args.table.now.party) c.args.spot y.0 y.1 y.2 c.wait_for_spot.new.seat.record) (λ i. (c.step.ensures.table.1 i, waits i, party_of (on i))) c.wait_for_spot.ensures.barrier
