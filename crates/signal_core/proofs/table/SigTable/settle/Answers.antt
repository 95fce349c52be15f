use Rattle.std.proofs.Common.{subst}
use Rattle.signal_core.specs.Promises.{EmitsWhatItAbsorbed}
use Rattle.signal_core.specs.Seats.{SeatView, seat_view, about_of}
use Rattle.signal_core.specs.Stood.{Stood}
use Rattle.signal_core.proofs.Asks.{settles_allowed}
use Rattle.signal_core.proofs.LastEmitted.{last_emitted}
use Rattle.signal_core.proofs.table.SigTable.settle.Goals as goal

pub make-requires-clause-told : goal.make-requires-clause-told
make-requires-clause-told g c =
    let t = c.args.self.now in
    let seat = c.seat.inside.seat in
    settles_allowed g.K.Kinds.shows (about_of t) t.table_id.slots seat.id seat.me (Stood g.K.Kinds.shows t (seat_view seat)) (λ s r there. record { state = s; rule = r; here = there })

pub returns-clause-emitted : goal.returns-clause-emitted
returns-clause-emitted g c =
    let stood = c.make.ensures.told.2 in
    subst (λ (v : SeatView). EmitsWhatItAbsorbed g.K.Kinds.shows v.view) c.seat.view_is (last_emitted g.K.Kinds.shows (about_of c.args.self.now) stood.state stood.rule c.seat.inside.seat.id c.seat.inside.seat.me.0 stood.here)
