use Rattle.lw_core.specs.declared.step.LwStep.TheVariants as kind
use Rattle.lw_core.specs.Closing.{size_of}
use Rattle.lw_core.proofs.table.LwTable.seat.Given as goal

abbrev pub ghosts-next_number : goal.ghosts-next_number
ghosts-next_number g a = record { size = size_of a.self.now; step = kind.WaitLoad }
