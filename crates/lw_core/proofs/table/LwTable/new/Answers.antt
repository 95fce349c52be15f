use Rattle.std.proofs.Common.{Some, length, ap, sym, subst, ◌∙◌}
use Rattle.lw_core.specs.Words.{Opens}
use Rattle.lw_core.proofs.RuleKeeps.{opens}
use Rattle.lw_core.specs.Machine.{mode_in}
use Rattle.lw_core.specs.Told.{Sat}
use Rattle.lw_core.proofs.Touches.{fresh_mode}
use Rattle.lw_core.proofs.table.LwTable.new.Goals as goal

pub new-requires : goal.new-requires
new-requires g c = opens g.G.Guarded.lawful _ _ _ c.in_ok-lists.ensures.1 g.G.Guarded.zeros c.requires.locks.1 c.requires.procs.0 c.requires.procs.1 (ap length c.as_slice.ensures.value ∙ c.in_ok-words.ensures.0) (subst (Opens c.args.locks) (sym c.as_slice.ensures.value) c.in_ok-words.ensures.1)
    c.in_ok-lists.ensures.0

pub returns-clause-empty : goal.returns-clause-empty
returns-clause-empty g c = λ l. ap (λ t. mode_in l t.view) c.new-3.ensures ∙ (ap (λ (m : Sat). mode_in l m.0) c.in-Ok.ensures.ok.4 ∙ fresh_mode (Some 0) l)
