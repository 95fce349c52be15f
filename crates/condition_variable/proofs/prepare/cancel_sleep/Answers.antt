use Rattle.std.proofs.Common.{◌≡◌, ℕ, false, List, Option, None, Some, MatchOption, refl, sym, ap, ◌∙◌, subst, arith}
use Rattle.std.specs.Prelude.{not}
use Rattle.wait_core.specs.declared.step.Call.TheVariants as call
use Rattle.wait_core.specs.declared.view.Made.{Made}
use Rattle.wait_core.specs.Jobs.{resumed}
use Rattle.wait_core.specs.Lists.{is_listed}
use Rattle.wait_core.specs.Machine.{Place, number_of, outer, spot_for, top}
use Rattle.condition_variable.specs.Visits.{entering, stands}
use Rattle.condition_variable.specs.Calls.{Cancels}
use Rattle.condition_variable.proofs.Walks.{cancel_first}
use Rattle.condition_variable.proofs.prepare.cancel_sleep.Goals as goal

pub leave_target-requires-clause-target : goal.leave_target-requires-clause-target
leave_target-requires-clause-target g c = let at = sym c.target.ensures ∙ c.in-Some.is in λ _ _. (at, c.requires.target c.in-Some.target at)

pub leave_target-requires-clause-take : goal.leave_target-requires-clause-take
leave_target-requires-clause-take g c = let at = sym c.target.ensures ∙ c.in-Some.is in let inside = c.requires.target c.in-Some.target at in λ _ _. ((omega (arith, inside), cancel_first c.args.seat.now.view.target ∙ ap spot_for at, tt, c.requires.place), ap (λ (o : Option ℕ). top (entering (Some call.Cancel) o c.args.seat.now.view.place)) at)

pub returns-in-None-clause-left : goal.returns-in-None-clause-left
returns-in-None-clause-left g c =
    let v = c.args.seat.now.view in
    let at : v.target ≡ None = sym c.target.ensures ∙ c.in-None.is in
    subst {A = Option ℕ} (λ o. MatchOption o ((false ≡ false) × (c.args.seat.now ≡ c.args.seat.now)) (λ t. (found : List ℕ) × (more : List Made) × (v ≡ stands v (resumed v.place) None v.heeds more) × Cancels (number_of v.own) t call.Cancel found more × (false ≡ not (is_listed (number_of v.own) found)))) (sym at) (refl, refl)

pub returns-in-Some-clause-left : goal.returns-in-Some-clause-left
returns-in-Some-clause-left g c =
    let v = c.args.seat.now.view in
    let w = c.leave_target.new.seat in
    let at : v.target ≡ Some c.in-Some.target = sym c.target.ensures ∙ c.in-Some.is in
    let left = c.leave_target.ensures.left in
    let behind : outer (entering (Some call.Cancel) v.target v.place) ≡ v.place = ap (λ (o : Option ℕ). outer (entering (Some call.Cancel) o v.place)) at in
    subst {A = Option ℕ} (λ o. MatchOption o ((c.leave_target.result ≡ false) × (w ≡ c.args.seat.now)) (λ t. (found : List ℕ) × (more : List Made) × (w.view ≡ stands v (resumed v.place) None v.heeds more) × Cancels (number_of v.own) t call.Cancel found more × (c.leave_target.result ≡ not (is_listed (number_of v.own) found)))) (sym at)
    (left.0, left.1, left.2 ∙ ap (λ (p : Place). stands v (resumed p) None v.heeds left.1) behind, left.3, left.4)
