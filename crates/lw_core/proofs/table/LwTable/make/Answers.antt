use Rattle.std.proofs.Common.{◌∙◌, ap, sym, subst}
use Rattle.lw_core.specs.declared.step.LwStep.{LwStep}
use Rattle.lw_core.specs.Closing.{size_of}
use Rattle.lw_core.specs.Machine.{word_of}
use Rattle.lw_core.specs.Ops.{result_of, TableAllows}
use Rattle.lw_core.proofs.Asks.{table_allows}
use Rattle.lw_core.proofs.table.LwTable.make.Goals as goal

pub turn-requires-clause-allowed : goal.turn-requires-clause-allowed
turn-requires-clause-allowed g c = let table = c.self.inside.table.shared in let seat = c.args.seat.now in let sized = ap size_of c.self.view_is in
    subst (λ (k : LwStep). TableAllows g.G.Guarded.lawful table.key table.table_id.slots seat.id seat.me c.word-word.result (result_of c.op.result) k) (sym c.requires.doing.1)
    (table_allows g.G.Guarded.lawful table.key (size_of c.args.self.now) c.args.step seat.me table.table_id.slots seat.id c.args.own c.word-word.result c.op.result
    (c.self.invariant.keyed ∙ sized) c.requires.own c.requires.range c.requires.allowed c.requires.carried (c.word-word.ensures ∙ ap (λ z. word_of z c.args.own c.args.step) sized) c.op.ensures)
