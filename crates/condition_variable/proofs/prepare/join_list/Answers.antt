use Rattle.std.proofs.Common.{Some, refl}
use Rattle.wait_core.specs.declared.step.Spot.TheVariants.{Cv}
use Rattle.wait_core.specs.declared.view.Job.TheVariants as job
use Rattle.wait_core.specs.Machine.{as_kept, number_of}
use Rattle.wait_core.specs.Seats.{size_of}
use Rattle.condition_variable.specs.Visits.{entering}
use Rattle.condition_variable.proofs.Walks.{asks_nothing, may_enter, may_free, sends, visited, room_for, belongs_nowhere}
use Rattle.condition_variable.proofs.prepare.join_list.Goals as goal

pub take_spot-requires-clause-client : goal.take_spot-requires-clause-client
take_spot-requires-clause-client g c = λ _ _. let v = c.args.seat.now.view in asks_nothing (g.P.Party.means c.args.table.now.party) (size_of c.args.table.now) c.args.cv v.own c.args.begins v c.requires.take.0

pub take_spot-requires-clause-job : goal.take_spot-requires-clause-job
take_spot-requires-clause-job g c = λ _ _. may_enter (Cv c.args.cv) (job.Prepare c.args.cv) (entering c.args.begins c.args.seat.now.view.target c.args.seat.now.view.place) c.requires.take.1 refl

pub step-requires-clause-place : goal.step-requires-clause-place
step-requires-clause-place g c = λ _ _. may_free (size_of c.args.table.now) c.args.seat.now.view c.args.cv (job.Prepare c.args.cv) refl (entering c.args.begins c.args.seat.now.view.target c.args.seat.now.view.place) c.requires.take.1 c.take_spot.new.seat c.join.new.seat c.take_spot.ensures.view.0 c.take_spot.ensures.view.1 (c.join.ensures) (Some c.args.cv) refl c.requires.condition

pub step-requires-clause-hand : goal.step-requires-clause-hand
step-requires-clause-hand g c = λ _ _. sends (size_of c.args.table.now) c.args.seat.now.view c.args.cv (job.Prepare c.args.cv) refl (entering c.args.begins c.args.seat.now.view.target c.args.seat.now.view.place) c.requires.take.1 c.take_spot.new.seat c.join.new.seat c.take_spot.ensures.view.0 c.take_spot.ensures.view.1 (c.join.ensures)

pub join-requires-clause-room : goal.join-requires-clause-room
join-requires-clause-room g c =
    let v = c.args.seat.now.view in
    λ _ _. room_for (size_of c.args.table.now) (number_of v.own) _ c.args.cv c.take_spot.new.seat.list c.take_spot.ensures.list (belongs_nowhere c.args.cv v.target (entering c.args.begins v.target v.place) c.requires.take.1 c.requires.target) c.take_spot.ensures.few

pub returns-clause-joined : goal.returns-clause-joined
returns-clause-joined g c =
    (c.take_spot.new.seat.list, _, visited (size_of c.args.table.now) c.args.seat.now.view c.args.cv (job.Prepare c.args.cv) refl (entering c.args.begins c.args.seat.now.view.target c.args.seat.now.view.place) c.requires.take.1 c.take_spot.new.seat c.join.new.seat c.take_spot.ensures.view.0 c.take_spot.ensures.view.1 (c.join.ensures) c.step.new.seat.view (Some c.args.cv) _ (as_kept c.step.new.seat.list c.step.new.seat.record) c.step.ensures.view, record { took = c.take_spot.ensures.view.0; word = c.step.result.old; split = refl; takes = c.take_spot.ensures.view.2 })
