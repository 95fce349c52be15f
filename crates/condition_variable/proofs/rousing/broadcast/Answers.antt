use Rattle.std.proofs.Common.{◌≡◌, ℕ, List, [], ◌∷◌, ◌++◌, Option, None, Some, refl, sym, ap, ◌∙◌, subst, arith}
use Rattle.wait_core.specs.declared.step.Call.TheVariants as call
use Rattle.wait_core.specs.declared.step.Spot.TheVariants.{Cv}
use Rattle.wait_core.specs.declared.step.WaitStep.TheVariants.{Take}
use Rattle.wait_core.specs.declared.view.Frame.TheVariants.{Taking}
use Rattle.wait_core.specs.declared.view.Job.TheVariants as job
use Rattle.wait_core.specs.declared.view.Made.{Made}
use Rattle.wait_core.specs.declared.view.WaitView.{WaitView}
use Rattle.wait_core.specs.Jobs.{resumed}
use Rattle.wait_core.specs.Machine.{Permits, Place, number_of, outer, top}
use Rattle.wait_core.specs.Seats.{size_of}
use Rattle.condition_variable.specs.Visits.{entering, stands}
use Rattle.condition_variable.specs.Calls.{Broadcasts, RousesAll}
use Rattle.condition_variable.proofs.Walks.{stands_through}
use Rattle.condition_variable.proofs.rousing.broadcast.Goals as goal

pub rouse_all-requires-clause-target : goal.rouse_all-requires-clause-target
rouse_all-requires-clause-target g c = λ _ _. sym c.target.ensures ∙ c.in-None.is

pub rouse_all-requires-clause-take : goal.rouse_all-requires-clause-take
rouse_all-requires-clause-take g c =
    let v = c.args.seat.now.view in λ _ _. (subst (λ (o : Option ℕ). Permits (size_of c.args.table.now) (Take (Cv c.args.cv) (Some (call.Broadcast c.args.cv))) v.own o v.place) (sym (sym c.target.ensures ∙ c.in-None.is)) (omega (arith, c.requires.condition), refl, c.requires.condition, c.requires.place), ap (λ (o : Option ℕ). top (entering (Some (call.Broadcast c.args.cv)) o c.args.seat.now.view.place)) (sym c.target.ensures ∙ c.in-None.is))

pub returns-in-None-clause-woken : goal.returns-in-None-clause-woken
returns-in-None-clause-woken g c =
    let v = c.args.seat.now.view in
    let none : v.target ≡ None = sym c.target.ensures ∙ c.in-None.is in
    let all = c.rouse_all.ensures.roused in
    let then : resumed (outer (entering (Some (call.Broadcast c.args.cv)) v.target v.place)) ≡ resumed v.place = ap (λ (o : Option ℕ). resumed (outer (entering (Some (call.Broadcast c.args.cv)) o v.place))) none in
    subst {A = Option ℕ} (λ o. (more : List Made) × (c.rouse_all.new.seat.view ≡ stands v (resumed v.place) None v.heeds more) × Broadcasts (number_of v.own) c.args.cv o more) (sym none)
    (all.0, all.1 ∙ (λ i. stands v (then i) (none i) v.heeds all.0), record { leave = []; all = all.0; next = Some (call.Broadcast c.args.cv); split = refl; leaves = (refl, refl); rouses = all.2 })

pub leave_target-requires-clause-target : goal.leave_target-requires-clause-target
leave_target-requires-clause-target g c = let at = sym c.target.ensures ∙ c.in-Some.is in λ _ _. (at, c.requires.target c.in-Some.target at)

pub leave_target-requires-clause-take : goal.leave_target-requires-clause-take
leave_target-requires-clause-take g c =
    let v = c.args.seat.now.view in
    let at : v.target ≡ Some c.in-Some.target = sym c.target.ensures ∙ c.in-Some.is in
    let inside = c.requires.target c.in-Some.target at in
    λ _ _. (subst (λ (o : Option ℕ). Permits (size_of c.args.table.now) (Take (Cv c.in-Some.target) (Some (call.Broadcast c.args.cv))) v.own o v.place) (sym at) (omega (arith, inside), refl, c.requires.condition, c.requires.place), ap (λ (o : Option ℕ). top (entering (Some (call.Broadcast c.args.cv)) o c.args.seat.now.view.place)) (sym c.target.ensures ∙ c.in-Some.is))

pub rouse_all-requires-in-Some-clause-target : goal.rouse_all-requires-in-Some-clause-target
rouse_all-requires-in-Some-clause-target g c = λ _ _. ap (λ (y : WaitView _). y.target) c.leave_target.ensures.left.2

pub rouse_all-requires-in-Some-clause-take : goal.rouse_all-requires-in-Some-clause-take
rouse_all-requires-in-Some-clause-take g c =
    let v = c.args.seat.now.view in
    let at : v.target ≡ Some c.in-Some.target = sym c.target.ensures ∙ c.in-Some.is in
    let left = c.leave_target.ensures.left in
    let then : resumed (outer (entering (Some (call.Broadcast c.args.cv)) v.target v.place)) ≡ Taking (job.Broadcast c.args.cv) ∷ v.place = ap (λ (o : Option ℕ). resumed (outer (entering (Some (call.Broadcast c.args.cv)) o v.place))) at in
    let stood = left.2 ∙ ap (λ (p : Place). stands v p None v.heeds left.1) then in
    λ _ _. (subst (λ (y : WaitView _). Permits (size_of c.args.table.now) (Take (Cv c.args.cv) None) y.own y.target y.place) (sym stood) (omega (arith, c.requires.condition), refl), ap (λ (y : WaitView _). top y.place) stood)

pub returns-in-Some-clause-woken : goal.returns-in-Some-clause-woken
returns-in-Some-clause-woken g c =
    let v = c.args.seat.now.view in
    let at : v.target ≡ Some c.in-Some.target = sym c.target.ensures ∙ c.in-Some.is in
    let left = c.leave_target.ensures.left in
    let then : resumed (outer (entering (Some (call.Broadcast c.args.cv)) v.target v.place)) ≡ Taking (job.Broadcast c.args.cv) ∷ v.place = ap (λ (o : Option ℕ). resumed (outer (entering (Some (call.Broadcast c.args.cv)) o v.place))) at in
    let stood = left.2 ∙ ap (λ (p : Place). stands v p None v.heeds left.1) then in
    let all = c.rouse_all-in-Some.ensures.roused in
    let w = c.leave_target.new.seat.view in
    let own : number_of w.own ≡ number_of v.own = ap (λ (y : WaitView _). number_of y.own) stood in
    let behind = all.1 ∙ (λ i. stands w (resumed (outer (stood i).place)) (stood i).target (stood i).heeds all.0) in
    subst {A = Option ℕ} (λ o. (more : List Made) × (c.rouse_all-in-Some.new.seat.view ≡ stands v (resumed v.place) None v.heeds more) × Broadcasts (number_of v.own) c.args.cv o more) (sym at)
    (left.1 ++ all.0, stands_through v w c.rouse_all-in-Some.new.seat.view _ (resumed v.place) None None v.heeds v.heeds left.1 all.0 stood behind, record { leave = left.1; all = all.0; next = None; split = refl; leaves = (refl, (left.0, left.3)); rouses = subst (λ (o : ℕ). RousesAll o c.args.cv None all.0) own all.2 })
