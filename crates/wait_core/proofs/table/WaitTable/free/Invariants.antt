use Rattle.wait_core.specs.Seats.{size_of}
use Rattle.wait_core.specs.Told.{TellsBarrier, does}
use Rattle.wait_core.specs.Seating.{party_of}
use Rattle.wait_core.specs.Barriers.{waits_at}
use Rattle.wait_core.proofs.table.WaitTable.free.Given as goal

abbrev pub ghosts-make : goal.ghosts-make
ghosts-make g a = record { gives = let t = a.self.now in does (size_of t) (TellsBarrier (g.P.Party.means t.party) (size_of t) t.phase (g.P.Party.word_count t.party) a._why.now a.seat.now.id (waits_at a.seat.now.me.0.place) (party_of a.seat.now.me.0)) a._why.now a.seat.now.me }
