use Rattle.signal_core.specs.Seats.{about_of}
use Rattle.signal_core.specs.Told.{looks}
use Rattle.signal_core.proofs.table.SigTable.seat.Given as goal

abbrev pub ghosts-make : goal.ghosts-make
ghosts-make g a = record { gives = looks (about_of a.self.now) a.seat.now.me }
