use Rattle.wait_core.specs.Seating.{party_of}
use Rattle.wait_core.specs.Ops.{op_at}
use Rattle.wait_core.specs.Closing.{Stood}
use Rattle.wait_core.specs.Told.{does_client}
use Rattle.wait_core.proofs.table.WaitTable.client.Given as goal

abbrev pub ghosts-make : goal.ghosts-make
ghosts-make g a = record {
  gives = does_client (g.P.Party.after a.self.now.party (party_of a.seat.now.me.0) a._why.now)
      (Stood (g.P.Party.means a.self.now.party) (g.P.Party.word_count a.self.now.party) a.self.now a.seat.now.id a.seat.now.me.0 (op_at (g.P.Party.does a.self.now.party a._why.now))) a.seat.now.me;
}
