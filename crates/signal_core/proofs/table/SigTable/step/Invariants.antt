use Rattle.signal_core.specs.Seats.{about_of}
use Rattle.signal_core.specs.Told.{does}
use Rattle.signal_core.proofs.table.SigTable.step.Given as goal

abbrev pub ghosts-make : goal.ghosts-make
ghosts-make g a = record { gives = does g.K.Kinds.shows (about_of a.self.now) a._why.now a.seat.now.me }
