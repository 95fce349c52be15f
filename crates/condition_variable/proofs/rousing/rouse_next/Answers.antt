use Rattle.std.proofs.Common.{◌≡◌, ℕ, cond, List, ◌∷◌, ◌++◌, Option, None, refl, sym, ap, ◌∙◌, subst, arith}
use Rattle.wait_core.specs.declared.step.Spot.TheVariants.{Cv}
use Rattle.wait_core.specs.declared.view.Frame.TheVariants.{Taking}
use Rattle.wait_core.specs.declared.view.Job.TheVariants as job
use Rattle.wait_core.specs.declared.view.Made.{Made}
use Rattle.wait_core.specs.declared.view.WaitView.{WaitView}
use Rattle.wait_core.specs.Jobs.{resumed, rouses_on}
use Rattle.wait_core.specs.Lists.{is_listed, rest_of}
use Rattle.wait_core.specs.Machine.{Place, as_kept, number_of, outer, top}
use Rattle.wait_core.specs.Seats.{SeatView, size_of}
use Rattle.condition_variable.specs.Visits.{MayWakeNow, Wakes, after_wake, head_of, stands}
use Rattle.condition_variable.specs.Calls.{other}
use Rattle.condition_variable.proofs.Walks.{may_enter, may_free, sends, visited, all_wide, next_wakes, next_ends, roused}
use Rattle.condition_variable.proofs.rousing.rouse_next.Goals as goal

pub take_spot-requires-clause-place : goal.take_spot-requires-clause-place
take_spot-requires-clause-place g c = λ _ _. (omega (arith, c.requires.condition), may_enter (Cv c.args.cv) (job.Rebroadcast c.args.cv) (c.args.seat.now.view.place) (ap top c.requires.place) refl)

pub take_spot-requires-clause-job : goal.take_spot-requires-clause-job
take_spot-requires-clause-job g c = λ _ _. may_enter (Cv c.args.cv) (job.Rebroadcast c.args.cv) (c.args.seat.now.view.place) (ap top c.requires.place) refl

pub pop-popped-requires-clause-below : goal.pop-popped-requires-clause-below
pop-popped-requires-clause-below g c = λ _ _. all_wide c.args.table.now.procs 64 c.take_spot.new.seat.list c.take_spot.ensures.few c.take_spot.ensures.list.all

pub step-requires-clause-place : goal.step-requires-clause-place
step-requires-clause-place g c = λ _ _. may_free (size_of c.args.table.now) c.args.seat.now.view c.args.cv (job.Rebroadcast c.args.cv) refl (c.args.seat.now.view.place) (ap top c.requires.place) c.take_spot.new.seat c.is_on-listed.new.seat c.take_spot.ensures.view.0 c.take_spot.ensures.view.1 (c.is_on-listed.ensures.seat ∙ c.pop-popped.ensures.seat) None (sym c.requires.target) c.requires.condition

pub step-requires-clause-hand : goal.step-requires-clause-hand
step-requires-clause-hand g c = λ _ _. sends (size_of c.args.table.now) c.args.seat.now.view c.args.cv (job.Rebroadcast c.args.cv) refl (c.args.seat.now.view.place) (ap top c.requires.place) c.take_spot.new.seat c.is_on-listed.new.seat c.take_spot.ensures.view.0 c.take_spot.ensures.view.1 (c.is_on-listed.ensures.seat ∙ c.pop-popped.ensures.seat)

pub wake-requires-clause-place : goal.wake-requires-clause-place
wake-requires-clause-place g c =
    let v = c.args.seat.now.view in
    let own : ℕ = number_of v.own in
    let list : List ℕ = c.take_spot.new.seat.list in
    let p : Place = outer v.place in
    let at = visited (size_of c.args.table.now) c.args.seat.now.view c.args.cv (job.Rebroadcast c.args.cv) refl (c.args.seat.now.view.place) (ap top c.requires.place) c.take_spot.new.seat c.is_on-listed.new.seat c.take_spot.ensures.view.0 c.take_spot.ensures.view.1 (c.is_on-listed.ensures.seat ∙ c.pop-popped.ensures.seat) c.step.new.seat.view None c.step.result.old (as_kept c.step.new.seat.list c.step.new.seat.record) c.step.ensures.view in
    let whom : c.other_than_own-woken.result ≡ other own (head_of list) = c.other_than_own-woken.ensures ∙ (λ i. other (number_of (at i).own) (c.pop-popped.ensures.head i)) in
    λ _ _. subst {A = Option ℕ × Place} (λ y. MayWakeNow c.args.table.now.procs y.0 y.1) (λ i. (sym whom i, sym (ap (λ (y : WaitView _). y.place) at) i)) (next_wakes c.args.table.now.procs c.args.cv own list p c.take_spot.ensures.list.all)

pub returns-clause-roused : goal.returns-clause-roused
returns-clause-roused g c =
    let v = c.args.seat.now.view in
    let own : ℕ = number_of v.own in
    let list : List ℕ = c.take_spot.new.seat.list in
    let p : Place = outer v.place in
    let at = visited (size_of c.args.table.now) c.args.seat.now.view c.args.cv (job.Rebroadcast c.args.cv) refl (c.args.seat.now.view.place) (ap top c.requires.place) c.take_spot.new.seat c.is_on-listed.new.seat c.take_spot.ensures.view.0 c.take_spot.ensures.view.1 (c.is_on-listed.ensures.seat ∙ c.pop-popped.ensures.seat) c.step.new.seat.view None c.step.result.old (as_kept c.step.new.seat.list c.step.new.seat.record) c.step.ensures.view in
    let whom : c.other_than_own-woken.result ≡ other own (head_of list) = c.other_than_own-woken.ensures ∙ (λ i. other (number_of (at i).own) (c.pop-popped.ensures.head i)) in
    let took = c.take_spot.ensures.view in
    let sets = c.wake.ensures.woken in
    let woken : Option ℕ = c.other_than_own-woken.result in
    let listed : c.is_on-listed.result ≡ is_listed own (rest_of list) = c.is_on-listed.ensures.listed ∙ (ap (λ (y : SeatView _). is_listed (number_of y.view.own) y.list) c.pop-popped.ensures.seat ∙ ap (λ (y : WaitView _). is_listed (number_of y.own) (rest_of list)) took.1) in
    let after : Place = cond (is_listed own (rest_of list)) (Taking (job.Rebroadcast c.args.cv) ∷ p) (resumed p) in
    let ends : after_wake woken (rouses_on c.args.cv own list p) ≡ after = ap (λ (o : Option ℕ). after_wake o (rouses_on c.args.cv own list p)) whom ∙ next_ends c.args.cv own list p c.take_spot.ensures.list.once in
    let woke = roused v c.step.new.seat.view c.wake.new.seat.view (rouses_on c.args.cv own list p) after None v.heeds woken _ sets.0 at sets.1 ends in
    let more : List Made = _ ++ sets.0 in
    (list, more, listed, woke ∙ (λ i. stands v (cond (sym listed i) (Taking (job.Rebroadcast c.args.cv) ∷ p) (resumed p)) (sym c.requires.target i) v.heeds more), record { visit = _; sets = sets.0; split = refl; visits = record { took = took.0; word = c.step.result.old; split = refl; takes = took.2 }; wakes = subst {A = Option ℕ} (λ o. Wakes o sets.0) whom sets.2 })
