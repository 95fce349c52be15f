use Rattle.std.proofs.Common.{◌≡◌, ℕ, List, [], ◌∷◌, ◌++◌, true, Option, None, Some, refl, sym, ap, ◌∙◌, subst, arith}
use Rattle.wait_core.specs.declared.view.Frame.TheVariants.{Taking}
use Rattle.wait_core.specs.declared.view.Job.TheVariants as job
use Rattle.wait_core.specs.declared.view.Made.{Made}
use Rattle.wait_core.specs.declared.view.WaitView.{WaitView}
use Rattle.wait_core.specs.Jobs.{resumed}
use Rattle.wait_core.specs.Machine.{Permits, Place, number_of, outer, top}
use Rattle.wait_core.specs.declared.step.Spot.TheVariants.{Cv}
use Rattle.wait_core.specs.declared.step.WaitStep.TheVariants.{Take}
use Rattle.wait_core.specs.Seats.{size_of}
use Rattle.condition_variable.specs.Visits.{Visits, entering, stands}
use Rattle.condition_variable.specs.Calls.{Lists}
use Rattle.condition_variable.proofs.Walks.{listing_begins, listing_joins, listing_leaves_at, listing_joins_at, stands_through}
use Rattle.condition_variable.proofs.prepare.go_to_list.Goals as goal

pub join_list-requires-clause-target : goal.join_list-requires-clause-target
join_list-requires-clause-target g c = λ _ _. sym c.target.ensures ∙ c.in-None.is

pub join_list-requires-clause-take : goal.join_list-requires-clause-take
join_list-requires-clause-take g c =
    let v = c.args.seat.now.view in λ _ _. (listing_joins (size_of c.args.table.now) c.args.cv v.own v.target c.args.begins v.place c.requires.begins (sym c.target.ensures ∙ c.in-None.is) c.requires.condition c.requires.place, ap top (listing_joins_at c.args.cv v.target c.args.begins v.place c.requires.begins (sym c.target.ensures ∙ c.in-None.is)))

pub returns-in-None-clause-listed : goal.returns-in-None-clause-listed
returns-in-None-clause-listed g c =
    let v = c.args.seat.now.view in
    let none : v.target ≡ None = sym c.target.ensures ∙ c.in-None.is in
    let joined = c.join_list.ensures.joined in
    let behind : outer (entering (Some c.args.begins) v.target v.place) ≡ v.place = ap outer (listing_joins_at c.args.cv v.target c.args.begins v.place c.requires.begins none) in
    subst {A = Option ℕ} (λ o. (more : List Made) × (c.join_list.new.seat.view ≡ stands v (resumed v.place) (Some c.args.cv) true more) × Lists (number_of v.own) c.args.cv o c.args.begins more) (sym none)
    (joined.1, joined.2 ∙ ap (λ (p : Place). stands v (resumed p) (Some c.args.cv) true joined.1) behind, record { leave = []; join = joined.1; next = Some c.args.begins; found = joined.0; split = refl; leaves = (refl, refl); joins = joined.3 })

pub leave_target-requires-clause-target : goal.leave_target-requires-clause-target
leave_target-requires-clause-target g c = let at = sym c.target.ensures ∙ c.in-Some.is in λ _ _. (at, c.requires.target c.in-Some.target at)

pub leave_target-requires-clause-take : goal.leave_target-requires-clause-take
leave_target-requires-clause-take g c =
    let v = c.args.seat.now.view in let at = sym c.target.ensures ∙ c.in-Some.is in λ _ _. (listing_begins (size_of c.args.table.now) c.args.cv c.in-Some.target v.own v.target c.args.begins v.place c.requires.begins at (c.requires.target c.in-Some.target at) c.requires.condition c.requires.place, ap top (listing_leaves_at c.args.cv c.in-Some.target v.target c.args.begins v.place c.requires.begins (sym c.target.ensures ∙ c.in-Some.is)))

pub join_list-requires-in-Some-clause-target : goal.join_list-requires-in-Some-clause-target
join_list-requires-in-Some-clause-target g c = λ _ _. ap (λ (y : WaitView _). y.target) c.leave_target.ensures.left.2

pub join_list-requires-in-Some-clause-take : goal.join_list-requires-in-Some-clause-take
join_list-requires-in-Some-clause-take g c =
    let v = c.args.seat.now.view in
    let at : v.target ≡ Some c.in-Some.target = sym c.target.ensures ∙ c.in-Some.is in
    let left = c.leave_target.ensures.left in
    let then : resumed (outer (entering (Some c.args.begins) v.target v.place)) ≡ Taking (job.Prepare c.args.cv) ∷ v.place = ap (λ (p : Place). resumed (outer p)) (listing_leaves_at c.args.cv c.in-Some.target v.target c.args.begins v.place c.requires.begins at) in
    let stood = left.2 ∙ ap (λ (p : Place). stands v p None v.heeds left.1) then in
    λ _ _. (subst (λ (y : WaitView _). Permits (size_of c.args.table.now) (Take (Cv c.args.cv) None) y.own y.target y.place) (sym stood) (omega (arith, c.requires.condition), refl), ap (λ (y : WaitView _). top y.place) stood)

pub returns-in-Some-clause-listed : goal.returns-in-Some-clause-listed
returns-in-Some-clause-listed g c =
    let v = c.args.seat.now.view in
    let at : v.target ≡ Some c.in-Some.target = sym c.target.ensures ∙ c.in-Some.is in
    let left = c.leave_target.ensures.left in
    let then : resumed (outer (entering (Some c.args.begins) v.target v.place)) ≡ Taking (job.Prepare c.args.cv) ∷ v.place = ap (λ (p : Place). resumed (outer p)) (listing_leaves_at c.args.cv c.in-Some.target v.target c.args.begins v.place c.requires.begins at) in
    let stood = left.2 ∙ ap (λ (p : Place). stands v p None v.heeds left.1) then in
    let joined = c.join_list-in-Some.ensures.joined in
    let w = c.leave_target.new.seat.view in
    let own : number_of w.own ≡ number_of v.own = ap (λ (y : WaitView _). number_of y.own) stood in
    let behind : resumed (outer w.place) ≡ resumed v.place = ap (λ (y : WaitView _). resumed (outer y.place)) stood in
    subst {A = Option ℕ} (λ o. (more : List Made) × (c.join_list-in-Some.new.seat.view ≡ stands v (resumed v.place) (Some c.args.cv) true more) × Lists (number_of v.own) c.args.cv o c.args.begins more) (sym at)
    (left.1 ++ joined.1, stands_through v w c.join_list-in-Some.new.seat.view _ (resumed v.place) None (Some c.args.cv) v.heeds true left.1 joined.1 stood (joined.2 ∙ ap (λ (p : Place). stands w p (Some c.args.cv) true joined.1) behind), record { leave = left.1; join = joined.1; next = None; found = joined.0; split = refl; leaves = (refl, (left.0, left.3)); joins = subst (λ (o : ℕ). Visits c.args.cv None joined.0 (joined.0 ++ o ∷ []) (Some c.args.cv) joined.1) own joined.3 })
