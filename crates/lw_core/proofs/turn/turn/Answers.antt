use Rattle.lw_core.specs.declared.step.WordOp.TheVariants.{Load, Store, Add, Sub, And, Or, Change}
use Rattle.lw_core.proofs.Asks.{table_allows_as}
use Rattle.lw_core.proofs.turn.turn.Goals as goal

pub load-requires : goal.load-requires
load-requires g c = (c.requires.table.0, c.requires.table.1, table_allows_as g.G.Guarded.lawful _ g.K.Doing.size _ _ _ _ c.args.op Load g.K.Doing.step c.requires.size c.in-Load.is c.requires.allowed)

pub swap-requires : goal.swap-requires
swap-requires g c = (c.requires.table.0, c.requires.table.1, table_allows_as g.G.Guarded.lawful _ g.K.Doing.size _ _ _ _ c.args.op (Store c.in-Store.value) g.K.Doing.step c.requires.size c.in-Store.is c.requires.allowed)

pub fetch_add-requires : goal.fetch_add-requires
fetch_add-requires g c = (c.requires.table.0, c.requires.table.1, table_allows_as g.G.Guarded.lawful _ g.K.Doing.size _ _ _ _ c.args.op (Add c.in-Add.by) g.K.Doing.step c.requires.size c.in-Add.is c.requires.allowed)

pub fetch_sub-requires : goal.fetch_sub-requires
fetch_sub-requires g c = (c.requires.table.0, c.requires.table.1, table_allows_as g.G.Guarded.lawful _ g.K.Doing.size _ _ _ _ c.args.op (Sub c.in-Sub.by) g.K.Doing.step c.requires.size c.in-Sub.is c.requires.allowed)

pub fetch_and-requires : goal.fetch_and-requires
fetch_and-requires g c = (c.requires.table.0, c.requires.table.1, table_allows_as g.G.Guarded.lawful _ g.K.Doing.size _ _ _ _ c.args.op (And c.in-And.mask) g.K.Doing.step c.requires.size c.in-And.is c.requires.allowed)

pub fetch_or-requires : goal.fetch_or-requires
fetch_or-requires g c = (c.requires.table.0, c.requires.table.1, table_allows_as g.G.Guarded.lawful _ g.K.Doing.size _ _ _ _ c.args.op (Or c.in-Or.bits) g.K.Doing.step c.requires.size c.in-Or.is c.requires.allowed)

pub compare_exchange-requires : goal.compare_exchange-requires
compare_exchange-requires g c = (c.requires.table.0, c.requires.table.1, table_allows_as g.G.Guarded.lawful _ g.K.Doing.size _ _ _ _ c.args.op (Change c.in-Change.from c.in-Change.to) g.K.Doing.step c.requires.size c.in-Change.is c.requires.allowed)
