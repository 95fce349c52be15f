use Rattle.std.proofs.Common.{◌≡◌, ℕ, List, Option, Some, refl, sym, ap, ◌∙◌, subst, arith}
use Rattle.wait_core.specs.declared.step.Spot.TheVariants.{Cv}
use Rattle.wait_core.specs.declared.view.Job.TheVariants as job
use Rattle.wait_core.specs.declared.view.Made.{Made}
use Rattle.wait_core.specs.declared.view.WaitView.{WaitView}
use Rattle.wait_core.specs.Machine.{Place, as_kept, outer}
use Rattle.wait_core.specs.declared.step.Call.TheVariants as call
use Rattle.wait_core.specs.Seats.{size_of}
use Rattle.condition_variable.specs.Visits.{MayWakeNow, after_wake, entering, stands}
use Rattle.condition_variable.specs.Calls.{Signals}
use Rattle.wait_core.specs.Jobs.{resumed, signals}
use Rattle.condition_variable.proofs.Walks.{may_enter, may_free, sends, visited, all_wide, signal_enters, signal_first, signal_wakes, signal_ends, signal_behind, roused}
use Rattle.condition_variable.proofs.waking.signal.Goals as goal

pub take_spot-requires-clause-job : goal.take_spot-requires-clause-job
take_spot-requires-clause-job g c = λ _ _. may_enter (Cv c.args.cv) (job.Signal c.args.cv) (entering (Some (call.Signal c.args.cv)) c.args.seat.now.view.target c.args.seat.now.view.place) (signal_enters c.args.cv c.args.seat.now.view.target c.args.seat.now.view.place) refl

pub step-requires-clause-place : goal.step-requires-clause-place
step-requires-clause-place g c = λ _ _. may_free (size_of c.args.table.now) c.args.seat.now.view c.args.cv (job.Signal c.args.cv) refl (entering (Some (call.Signal c.args.cv)) c.args.seat.now.view.target c.args.seat.now.view.place) (signal_enters c.args.cv c.args.seat.now.view.target c.args.seat.now.view.place) c.take_spot.new.seat c.pop-woken.new.seat c.take_spot.ensures.view.0 c.take_spot.ensures.view.1 (c.pop-woken.ensures.seat) (c.target-target.result) (c.target-target.ensures ∙ ap (λ (y : WaitView _). y.target) c.take_spot.ensures.view.1) c.requires.condition

pub step-requires-clause-hand : goal.step-requires-clause-hand
step-requires-clause-hand g c = λ _ _. sends (size_of c.args.table.now) c.args.seat.now.view c.args.cv (job.Signal c.args.cv) refl (entering (Some (call.Signal c.args.cv)) c.args.seat.now.view.target c.args.seat.now.view.place) (signal_enters c.args.cv c.args.seat.now.view.target c.args.seat.now.view.place) c.take_spot.new.seat c.pop-woken.new.seat c.take_spot.ensures.view.0 c.take_spot.ensures.view.1 (c.pop-woken.ensures.seat)

pub take_spot-requires-clause-place : goal.take_spot-requires-clause-place
take_spot-requires-clause-place g c = λ _ _. (omega (arith, c.requires.condition), signal_first c.args.cv c.args.seat.now.view.target, c.requires.condition, c.requires.place)

pub pop-woken-requires-clause-below : goal.pop-woken-requires-clause-below
pop-woken-requires-clause-below g c = λ _ _. all_wide c.args.table.now.procs 64 c.take_spot.new.seat.list c.take_spot.ensures.few c.take_spot.ensures.list.all

pub wake-requires-clause-place : goal.wake-requires-clause-place
wake-requires-clause-place g c =
    let v = c.args.seat.now.view in
    let list : List ℕ = c.take_spot.new.seat.list in
    let at = visited (size_of c.args.table.now) c.args.seat.now.view c.args.cv (job.Signal c.args.cv) refl (entering (Some (call.Signal c.args.cv)) c.args.seat.now.view.target c.args.seat.now.view.place) (signal_enters c.args.cv c.args.seat.now.view.target c.args.seat.now.view.place) c.take_spot.new.seat c.pop-woken.new.seat c.take_spot.ensures.view.0 c.take_spot.ensures.view.1 (c.pop-woken.ensures.seat) c.step.new.seat.view c.target-target.result _ (as_kept c.step.new.seat.list c.step.new.seat.record) c.step.ensures.view in
    λ _ _. subst {A = Option ℕ × Place} (λ y. MayWakeNow c.args.table.now.procs y.0 y.1) (λ i. (sym c.pop-woken.ensures.head i, sym (ap (λ (y : WaitView _). y.place) at) i)) (signal_wakes c.args.table.now.procs c.args.cv list (outer (entering (Some (call.Signal c.args.cv)) v.target v.place)) c.take_spot.ensures.list.all)

pub returns-clause-signalled : goal.returns-clause-signalled
returns-clause-signalled g c =
    let v = c.args.seat.now.view in
    let list : List ℕ = c.take_spot.new.seat.list in
    let cv : ℕ = c.args.cv in
    let took = c.take_spot.ensures.view in
    let sets = c.wake.ensures.woken in
    let woken : Option ℕ = c.pop-woken.result in
    let p : Place = outer (entering (Some (call.Signal cv)) v.target v.place) in
    let target : c.target-target.result ≡ v.target = c.target-target.ensures ∙ ap (λ (y : WaitView _). y.target) took.1 in
    let at = visited (size_of c.args.table.now) c.args.seat.now.view c.args.cv (job.Signal c.args.cv) refl (entering (Some (call.Signal c.args.cv)) c.args.seat.now.view.target c.args.seat.now.view.place) (signal_enters c.args.cv c.args.seat.now.view.target c.args.seat.now.view.place) c.take_spot.new.seat c.pop-woken.new.seat c.take_spot.ensures.view.0 c.take_spot.ensures.view.1 (c.pop-woken.ensures.seat) c.step.new.seat.view c.target-target.result _ (as_kept c.step.new.seat.list c.step.new.seat.record) c.step.ensures.view in
    let ends : after_wake woken (signals cv list p) ≡ resumed v.place = ap (λ (o : Option ℕ). after_wake o (signals cv list p)) c.pop-woken.ensures.head ∙ (signal_ends cv list p ∙ ap resumed (signal_behind cv v.target v.place)) in
    let woke = roused v c.step.new.seat.view c.wake.new.seat.view (signals cv list p) (resumed v.place) c.target-target.result v.heeds woken _ sets.0 at sets.1 ends in
    subst {A = Option ℕ × Option ℕ} (λ y. (more : List Made) × (c.wake.new.seat.view ≡ stands v (resumed v.place) y.0 v.heeds more) × Signals cv y.0 y.1 more) (λ i. (target i, sym c.wake.ensures.who i))
    (_, woke, record { found = list; head = c.pop-woken.ensures.head; rouses = record { visit = _; sets = sets.0; split = refl; visits = record { took = took.0; word = c.step.result.old; split = refl; takes = took.2 }; wakes = sets.2 } })
