use Rattle.std.proofs.Common.{◌≡◌, ◌<◌, ℕ, cond, length, List, [], ◌∷◌, ◌++◌, Option, None, refl, sym, ap, ◌∙◌, subst, arith}
use Rattle.wait_core.specs.declared.step.Spot.TheVariants.{Cv}
use Rattle.wait_core.specs.declared.view.Frame.TheVariants.{Taking}
use Rattle.wait_core.specs.declared.view.Job.TheVariants as job
use Rattle.wait_core.specs.declared.view.Made.{Made}
use Rattle.wait_core.specs.declared.view.WaitView.{WaitView}
use Rattle.wait_core.specs.Jobs.{resumed, rouses}
use Rattle.wait_core.specs.Lists.{is_empty, rest_of}
use Rattle.wait_core.specs.Machine.{Place, as_kept, number_of, outer}
use Rattle.wait_core.specs.Seats.{SeatView, size_of}
use Rattle.condition_variable.specs.Visits.{MayWakeNow, Wakes, after_wake, entering, stands, with_items}
use Rattle.condition_variable.proofs.Walks.{asks_nothing, may_enter, may_free, sends, visited, all_wide, rest_short, rouse_wakes, rouse_ends, roused}
use Rattle.condition_variable.proofs.rousing.rouse_first.Goals as goal

pub take_spot-requires-clause-client : goal.take_spot-requires-clause-client
take_spot-requires-clause-client g c = λ _ _. let v = c.args.seat.now.view in asks_nothing (g.P.Party.means c.args.table.now.party) (size_of c.args.table.now) c.args.cv v.own c.args.begins v c.requires.take.0

pub take_spot-requires-clause-job : goal.take_spot-requires-clause-job
take_spot-requires-clause-job g c = λ _ _. may_enter (Cv c.args.cv) (job.Broadcast c.args.cv) (entering c.args.begins c.args.seat.now.view.target c.args.seat.now.view.place) c.requires.take.1 refl

pub pop-woken-requires-clause-below : goal.pop-woken-requires-clause-below
pop-woken-requires-clause-below g c = λ _ _. all_wide c.args.table.now.procs 64 c.take_spot.new.seat.list c.take_spot.ensures.few c.take_spot.ensures.list.all

pub join_others-others-requires-clause-room : goal.join_others-others-requires-clause-room
join_others-others-requires-clause-room g c =
    let few = c.take_spot.ensures.list.few in let most = c.take_spot.ensures.few in
    λ _ _. subst (λ (y : SeatView _). length y.list < 64) (sym c.pop-woken.ensures.seat) (rest_short c.take_spot.new.seat.list (omega arith))

pub step-requires-clause-place : goal.step-requires-clause-place
step-requires-clause-place g c = λ _ _. may_free (size_of c.args.table.now) c.args.seat.now.view c.args.cv (job.Broadcast c.args.cv) refl (entering c.args.begins c.args.seat.now.view.target c.args.seat.now.view.place) c.requires.take.1 c.take_spot.new.seat c.join_others-others.new.seat c.take_spot.ensures.view.0 c.take_spot.ensures.view.1 (c.join_others-others.ensures.seat ∙ ap (λ (y : SeatView _). with_items y (cond {A = List ℕ} (is_empty y.list) [] (y.list ++ number_of y.view.own ∷ []))) c.pop-woken.ensures.seat) None (sym c.requires.target) c.requires.condition

pub step-requires-clause-hand : goal.step-requires-clause-hand
step-requires-clause-hand g c = λ _ _. sends (size_of c.args.table.now) c.args.seat.now.view c.args.cv (job.Broadcast c.args.cv) refl (entering c.args.begins c.args.seat.now.view.target c.args.seat.now.view.place) c.requires.take.1 c.take_spot.new.seat c.join_others-others.new.seat c.take_spot.ensures.view.0 c.take_spot.ensures.view.1 (c.join_others-others.ensures.seat ∙ ap (λ (y : SeatView _). with_items y (cond {A = List ℕ} (is_empty y.list) [] (y.list ++ number_of y.view.own ∷ []))) c.pop-woken.ensures.seat)

pub wake-requires-clause-place : goal.wake-requires-clause-place
wake-requires-clause-place g c =
    let v = c.args.seat.now.view in
    let list : List ℕ = c.take_spot.new.seat.list in
    let p : Place = outer (entering c.args.begins c.args.seat.now.view.target c.args.seat.now.view.place) in
    let at = visited (size_of c.args.table.now) c.args.seat.now.view c.args.cv (job.Broadcast c.args.cv) refl (entering c.args.begins c.args.seat.now.view.target c.args.seat.now.view.place) c.requires.take.1 c.take_spot.new.seat c.join_others-others.new.seat c.take_spot.ensures.view.0 c.take_spot.ensures.view.1 (c.join_others-others.ensures.seat ∙ ap (λ (y : SeatView _). with_items y (cond {A = List ℕ} (is_empty y.list) [] (y.list ++ number_of y.view.own ∷ []))) c.pop-woken.ensures.seat) c.step.new.seat.view None c.step.result.old (as_kept c.step.new.seat.list c.step.new.seat.record) c.step.ensures.view in
    λ _ _. subst {A = Option ℕ × Place} (λ y. MayWakeNow c.args.table.now.procs y.0 y.1) (λ i. (sym c.pop-woken.ensures.head i, sym (ap (λ (y : WaitView _). y.place) at) i)) (rouse_wakes c.args.table.now.procs c.args.cv list p c.take_spot.ensures.list.all)

pub returns-clause-roused : goal.returns-clause-roused
returns-clause-roused g c =
    let v = c.args.seat.now.view in
    let list : List ℕ = c.take_spot.new.seat.list in
    let p : Place = outer (entering c.args.begins c.args.seat.now.view.target c.args.seat.now.view.place) in
    let at = visited (size_of c.args.table.now) c.args.seat.now.view c.args.cv (job.Broadcast c.args.cv) refl (entering c.args.begins c.args.seat.now.view.target c.args.seat.now.view.place) c.requires.take.1 c.take_spot.new.seat c.join_others-others.new.seat c.take_spot.ensures.view.0 c.take_spot.ensures.view.1 (c.join_others-others.ensures.seat ∙ ap (λ (y : SeatView _). with_items y (cond {A = List ℕ} (is_empty y.list) [] (y.list ++ number_of y.view.own ∷ []))) c.pop-woken.ensures.seat) c.step.new.seat.view None c.step.result.old (as_kept c.step.new.seat.list c.step.new.seat.record) c.step.ensures.view in
    let took = c.take_spot.ensures.view in
    let sets = c.wake.ensures.woken in
    let woken : Option ℕ = c.pop-woken.result in
    let others = c.join_others-others.ensures.others ∙ ap (λ (y : SeatView _). Rattle.std.specs.Prelude.not (is_empty y.list)) c.pop-woken.ensures.seat in
    let after : Place = cond (Rattle.std.specs.Prelude.not (is_empty (rest_of list))) (Taking (job.Rebroadcast c.args.cv) ∷ p) (resumed p) in
    let ends : after_wake woken (rouses c.args.cv list p) ≡ after = ap (λ (o : Option ℕ). after_wake o (rouses c.args.cv list p)) c.pop-woken.ensures.head ∙ rouse_ends c.args.cv list p in
    let woke = roused v c.step.new.seat.view c.wake.new.seat.view (rouses c.args.cv list p) after None v.heeds woken _ sets.0 at sets.1 ends in
    let more : List Made = _ ++ sets.0 in
    (list, more, others, woke ∙ (λ i. stands v (cond (sym others i) (Taking (job.Rebroadcast c.args.cv) ∷ p) (resumed p)) (sym c.requires.target i) v.heeds more), record { visit = _; sets = sets.0; split = refl; visits = record { took = took.0; word = c.step.result.old; split = refl; takes = took.2 }; wakes = subst {A = Option ℕ} (λ o. Wakes o sets.0) c.pop-woken.ensures.head sets.2 })
