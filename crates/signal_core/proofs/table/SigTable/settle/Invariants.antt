use Rattle.signal_core.specs.Seats.{seat_view}
use Rattle.signal_core.specs.Stood.{Stood}
use Rattle.signal_core.specs.Told.{settles}
use Rattle.signal_core.proofs.table.SigTable.settle.Given as goal

abbrev pub ghosts-make : goal.ghosts-make
ghosts-make g a = record { gives = settles (Stood g.K.Kinds.shows a.self.now (seat_view a.seat.now)) a.seat.now.me }
