use Rattle.std.proofs.Common.{sym, subst}
use Rattle.signal_core.specs.Words.{Opens}
use Rattle.signal_core.proofs.Openings.{opens}
use Rattle.signal_core.proofs.table.SigTable.new.Goals as goal

pub new-requires : goal.new-requires
new-requires g c = opens g.K.Kinds.shows _ _ _ c.requires.procs.0 c.requires.procs.1 c.requires.generation (subst (Opens _) (sym c.as_slice.ensures.value) c.in_ok-words.ensures)
