use Rattle.std.proofs.Common.{rules, ap, sym, ◌∙◌, subst, arith}
use Rattle.atomic_table.specs.Table.{Allows}
use Rattle.lw_core.specs.declared.view.Size.{Size}
use Rattle.lw_core.specs.Closing.{size_of}
use Rattle.lw_core.specs.Ops.{about}
use Rattle.lw_core.specs.Rule.{Rule}
use Rattle.lw_core.specs.Told.{looks}
use Rattle.lw_core.proofs.Asks.{looks_allowed}
use Rattle.lw_core.proofs.table.LwTable.next_number.Goals as goal

pub load-requires : goal.load-requires
load-requires g c =
    let table = c.self.inside.table.shared in let seat = c.args.from.now in let wide = c.self.invariant.words in
    let sized = c.self.invariant.keyed ∙ (ap size_of c.self.view_is ∙ sym c.requires.size) in
    (search rules, omega arith, subst (λ (z : Size). Allows (Rule g.G.Guarded.lawful table.key) table.table_id.slots seat.id seat.me 0 (λ n. n) (looks z about seat.me)) sized (looks_allowed g.G.Guarded.lawful table.key table.table_id.slots seat.id seat.me))
