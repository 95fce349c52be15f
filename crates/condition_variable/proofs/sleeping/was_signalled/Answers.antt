use Rattle.std.proofs.Common.{◌≡◌, ℕ, true, cond, List, [], ◌∷◌, ◌++◌, None, Some, refl, sym, ap, ◌∙◌, subst, arith}
use Rattle.std.specs.Prelude.{not}
use Rattle.wait_core.specs.declared.step.Spot.TheVariants.{Cv}
use Rattle.wait_core.specs.declared.step.WaitStep.TheVariants.{Reset, Free}
use Rattle.wait_core.specs.declared.view.Frame.TheVariants.{SleepWaiting}
use Rattle.wait_core.specs.declared.view.Job.TheVariants as job
use Rattle.wait_core.specs.declared.view.Made.{Made}
use Rattle.wait_core.specs.declared.view.WaitView.{WaitView}
use Rattle.wait_core.specs.Jobs.{resumed}
use Rattle.wait_core.specs.Lists.{is_listed}
use Rattle.wait_core.specs.Machine.{MayReset, Place, as_kept, made, made_with, number_of, outer, top}
use Rattle.wait_core.specs.Seats.{size_of}
use Rattle.condition_variable.specs.Visits.{Visits, stands}
use Rattle.condition_variable.specs.Calls.{relisted}
use Rattle.condition_variable.proofs.Walks.{may_enter, may_free, sends, visited, reset_on, looked_on, stands_through}
use Rattle.condition_variable.proofs.sleeping.was_signalled.Goals as goal

pub step-requires-clause-place : goal.step-requires-clause-place
step-requires-clause-place g c = λ _ _. subst (λ (p : Place). MayReset (top p)) (sym c.requires.place) tt

pub take_spot-requires-clause-place : goal.take_spot-requires-clause-place
take_spot-requires-clause-place g c =
    let v = c.args.seat.now.view in
    let stood = reset_on (size_of c.args.table.now) v c.step.new.seat.view c.args.cv c.step.result.old (as_kept c.step.new.seat.list c.step.new.seat.record) c.step.ensures.view c.requires.place in
    λ _ _. (omega (arith, c.requires.condition), may_enter (Cv c.args.cv) (job.Resleep c.args.cv) c.step.new.seat.view.place (ap (λ (y : WaitView _). top y.place) stood) refl)

pub take_spot-requires-clause-job : goal.take_spot-requires-clause-job
take_spot-requires-clause-job g c =
    let v = c.args.seat.now.view in
    let stood = reset_on (size_of c.args.table.now) v c.step.new.seat.view c.args.cv c.step.result.old (as_kept c.step.new.seat.list c.step.new.seat.record) c.step.ensures.view c.requires.place in
    λ _ _. may_enter (Cv c.args.cv) (job.Resleep c.args.cv) c.step.new.seat.view.place (ap (λ (y : WaitView _). top y.place) stood) refl

pub rejoin-off-requires-clause-room : goal.rejoin-off-requires-clause-room
rejoin-off-requires-clause-room g c = λ _ _ off.
    let few = c.take_spot.ensures.few in
    let room = c.take_spot.ensures.list.room (ap (λ (y : WaitView _). is_listed (number_of y.own) c.take_spot.new.seat.list) (sym c.take_spot.ensures.view.1) ∙ off) in omega arith

pub step-requires-2-clause-place : goal.step-requires-2-clause-place
step-requires-2-clause-place g c =
    let v = c.args.seat.now.view in
    let stood = reset_on (size_of c.args.table.now) v c.step.new.seat.view c.args.cv c.step.result.old (as_kept c.step.new.seat.list c.step.new.seat.record) c.step.ensures.view c.requires.place in
    λ _ _. may_free (size_of c.args.table.now) c.step.new.seat.view c.args.cv (job.Resleep c.args.cv) refl c.step.new.seat.view.place (ap (λ (y : WaitView _). top y.place) stood) c.take_spot.new.seat c.rejoin-off.new.seat c.take_spot.ensures.view.0 c.take_spot.ensures.view.1 c.rejoin-off.ensures.seat (Some c.args.cv) (sym (ap (λ (y : WaitView _). y.target) stood ∙ c.requires.target)) c.requires.condition

pub step-requires-2-clause-hand : goal.step-requires-2-clause-hand
step-requires-2-clause-hand g c =
    let v = c.args.seat.now.view in
    let stood = reset_on (size_of c.args.table.now) v c.step.new.seat.view c.args.cv c.step.result.old (as_kept c.step.new.seat.list c.step.new.seat.record) c.step.ensures.view c.requires.place in
    λ _ _. sends (size_of c.args.table.now) c.step.new.seat.view c.args.cv (job.Resleep c.args.cv) refl c.step.new.seat.view.place (ap (λ (y : WaitView _). top y.place) stood) c.take_spot.new.seat c.rejoin-off.new.seat c.take_spot.ensures.view.0 c.take_spot.ensures.view.1 c.rejoin-off.ensures.seat

pub returns-clause-looked : goal.returns-clause-looked
returns-clause-looked g c =
    let v = c.args.seat.now.view in
    let stood = reset_on (size_of c.args.table.now) v c.step.new.seat.view c.args.cv c.step.result.old (as_kept c.step.new.seat.list c.step.new.seat.record) c.step.ensures.view c.requires.place in
    let w = c.step.new.seat.view in
    let list : List ℕ = c.take_spot.new.seat.list in
    let own : number_of w.own ≡ number_of v.own = ap (λ (y : WaitView _). number_of y.own) stood in
    let look : List Made = c.take_spot.ensures.view.0 ++ made_with (Free (Cv c.args.cv) (Some c.args.cv)) c.step-2.result.old (relisted (number_of w.own) list) ∷ [] in
    let off : c.rejoin-off.result ≡ not (is_listed (number_of w.own) list) = c.rejoin-off.ensures.off ∙ ap (λ (y : WaitView _). not (is_listed (number_of y.own) list)) c.take_spot.ensures.view.1 in
    let at = visited (size_of c.args.table.now) c.step.new.seat.view c.args.cv (job.Resleep c.args.cv) refl c.step.new.seat.view.place (ap (λ (y : WaitView _). top y.place) stood) c.take_spot.new.seat c.rejoin-off.new.seat c.take_spot.ensures.view.0 c.take_spot.ensures.view.1 c.rejoin-off.ensures.seat c.step-2.new.seat.view (Some c.args.cv) c.step-2.result.old (as_kept c.step-2.new.seat.list c.step-2.new.seat.record) c.step-2.ensures.view in
    let turned = at ∙ looked_on w c.args.cv (outer w.place) w.heeds (is_listed (number_of w.own) list) c.rejoin-off.result look off in
    let here = turned ∙ (λ i. stands w (cond c.rejoin-off.result (resumed (outer (stood i).place)) (SleepWaiting c.args.cv ∷ outer (stood i).place)) (Some c.args.cv) (cond c.rejoin-off.result true (stood i).heeds) look) in
    (list, c.step.result.old, look, off ∙ ap (λ (o : ℕ). not (is_listed o list)) own, stands_through v w c.step-2.new.seat.view _ _ v.target (Some c.args.cv) v.heeds _ (made (Reset None) c.step.result.old ∷ []) look stood here, subst (λ (o : ℕ). Visits c.args.cv None list (relisted o list) (Some c.args.cv) look) own (record { took = c.take_spot.ensures.view.0; word = c.step-2.result.old; split = refl; takes = c.take_spot.ensures.view.2 }))
