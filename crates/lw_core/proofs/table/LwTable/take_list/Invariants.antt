use Rattle.lw_core.specs.Closing.{size_of}
use Rattle.lw_core.proofs.table.LwTable.take_list.Given as goal

abbrev pub ghosts-make : goal.ghosts-make
ghosts-make g a = record { size = size_of a.self.now; step = a.step }
