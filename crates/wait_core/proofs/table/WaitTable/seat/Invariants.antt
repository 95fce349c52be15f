use Rattle.wait_core.specs.Seats.{size_of}
use Rattle.wait_core.specs.Told.{looks}
use Rattle.wait_core.specs.Seating.{comes}
use Rattle.wait_core.proofs.table.WaitTable.seat.Given as goal

abbrev pub ghosts-make : goal.ghosts-make
ghosts-make g a = record { gives = looks (size_of a.self.now) a.seat.now.me }

abbrev pub ghosts-split : goal.ghosts-split
ghosts-split g a = record { right = comes (g.P.Party.first a.self.now.party) }
