use Rattle.std.proofs.Common.{◌≡◌, ℕ, None, Some, refl, ap, ◌∙◌}
use Rattle.wait_core.specs.declared.step.Spot.TheVariants.{Cv}
use Rattle.wait_core.specs.declared.view.Job.TheVariants as job
use Rattle.wait_core.specs.declared.view.WaitView.{WaitView}
use Rattle.wait_core.specs.Lists.{is_listed}
use Rattle.wait_core.specs.Machine.{as_kept, number_of}
use Rattle.wait_core.specs.Seats.{size_of}
use Rattle.condition_variable.specs.Visits.{entering}
use Rattle.condition_variable.proofs.Walks.{asks_nothing, may_enter, may_free, sends, visited}
use Rattle.condition_variable.proofs.prepare.leave_target.Goals as goal

pub take_spot-requires-clause-client : goal.take_spot-requires-clause-client
take_spot-requires-clause-client g c = λ _ _. let v = c.args.seat.now.view in asks_nothing (g.P.Party.means c.args.table.now.party) (size_of c.args.table.now) c.args.target v.own (Some c.args.begins) v c.requires.take.0

pub take_spot-requires-clause-job : goal.take_spot-requires-clause-job
take_spot-requires-clause-job g c = λ _ _. may_enter (Cv c.args.target) (job.Cancel c.args.target) (entering (Some c.args.begins) c.args.seat.now.view.target c.args.seat.now.view.place) c.requires.take.1 refl

pub step-requires-clause-place : goal.step-requires-clause-place
step-requires-clause-place g c = λ _ _. may_free (size_of c.args.table.now) c.args.seat.now.view c.args.target (job.Cancel c.args.target) refl (entering (Some c.args.begins) c.args.seat.now.view.target c.args.seat.now.view.place) c.requires.take.1 c.take_spot.new.seat c.leave-off.new.seat c.take_spot.ensures.view.0 c.take_spot.ensures.view.1 (c.leave-off.ensures.seat) (None) refl c.requires.target.1

pub step-requires-clause-hand : goal.step-requires-clause-hand
step-requires-clause-hand g c = λ _ _. sends (size_of c.args.table.now) c.args.seat.now.view c.args.target (job.Cancel c.args.target) refl (entering (Some c.args.begins) c.args.seat.now.view.target c.args.seat.now.view.place) c.requires.take.1 c.take_spot.new.seat c.leave-off.new.seat c.take_spot.ensures.view.0 c.take_spot.ensures.view.1 (c.leave-off.ensures.seat)

pub returns-clause-left : goal.returns-clause-left
returns-clause-left g c =
    let v = c.args.seat.now.view in
    let own : number_of c.take_spot.new.seat.view.own ≡ number_of v.own = ap (λ (y : WaitView _). number_of y.own) c.take_spot.ensures.view.1 in
    (c.take_spot.new.seat.list, _, visited (size_of c.args.table.now) c.args.seat.now.view c.args.target (job.Cancel c.args.target) refl (entering (Some c.args.begins) c.args.seat.now.view.target c.args.seat.now.view.place) c.requires.take.1 c.take_spot.new.seat c.leave-off.new.seat c.take_spot.ensures.view.0 c.take_spot.ensures.view.1 (c.leave-off.ensures.seat) c.step.new.seat.view None _ (as_kept c.step.new.seat.list c.step.new.seat.record) c.step.ensures.view, record { took = c.take_spot.ensures.view.0; word = c.step.result.old; split = refl; takes = c.take_spot.ensures.view.2 }, c.leave-off.ensures.off ∙ ap (λ (o : ℕ). Rattle.std.specs.Prelude.not (is_listed o c.take_spot.new.seat.list)) own)
