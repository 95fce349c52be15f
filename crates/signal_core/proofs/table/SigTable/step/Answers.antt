use Rattle.std.proofs.Common.{◌<◌, ℕ, ap, sym, ◌∙◌, subst}
use Rattle.signal_core.specs.Words.{pend_at, word_count}
use Rattle.signal_core.specs.Machine.{Allowed}
use Rattle.signal_core.specs.Seats.{about_of}
use Rattle.signal_core.proofs.RuleKept.{word_below}
use Rattle.signal_core.proofs.Asks.{step_turns, in_range}
use Rattle.signal_core.proofs.table.SigTable.step.Goals as goal

pub op-requires : goal.op-requires
op-requires g c = let t = c.args.self.now in in_range g.K.Kinds.shows (about_of t) c.args.step _ _ _ c.requires.place

pub make-old-requires-clause-table : goal.make-old-requires-clause-table
make-old-requires-clause-table g c =
    let t = c.args.self.now in
    let seat = c.seat.inside.seat in
    let id = ap (λ (v : _). v.table_id) c.seat.view_is ∙ c.requires.table in
    let ok = subst (λ v. Allowed g.K.Kinds.shows (about_of t) c.args.step v.view) (sym c.seat.view_is) c.requires.place in (
      id,
      subst (λ (n : ℕ). n < t.table_id.words) (sym c.word-word.ensures)
          (word_below g.K.Kinds.shows (about_of t) c.seat.inside.number t.table_id.words c.args.step _ _ _ (subst (λ v. pend_at c.seat.inside.number < v.words) id c.seat.invariant.3)
          (ap (λ v. v.table_id.words) (sym c.self.view_is) ∙ (c.self.invariant.1 ∙ ap (λ v. word_count (about_of v)) c.self.view_is)) c.seat.invariant.1 ok),
    )

pub make-old-requires-clause-told : goal.make-old-requires-clause-told
make-old-requires-clause-told g c =
    let t = c.args.self.now in
    let seat = c.seat.inside.seat in
    step_turns g.K.Kinds.shows (about_of t) t.table_id.slots seat.id seat.me c.word-word.result c.seat.inside.number c.args.step c.op.result c.word-word.ensures c.op.ensures c.seat.invariant.1
    (subst (λ v. Allowed g.K.Kinds.shows (about_of t) c.args.step v.view) (sym c.seat.view_is) c.requires.place)
