use Rattle.std.proofs.Common.{refl, ap, ◌∙◌}
use Rattle.wait_core.specs.declared.view.WaitView.{WaitView}
use Rattle.join_law.specs.declared.view.HashView.{HashView}
use Rattle.hash_probe.proofs.Handling.{worked_some}
use Rattle.hash_probe.proofs.Working.{counted_on, worked_start}
use Rattle.hash_probe.proofs.stores.probe_store.Goals as goal

pub loop-init : goal.loop-init
loop-init g c = (c.requires.awake, refl, refl, c.requires.hand, c.requires.counted, worked_start c.args.tables.now c.args.seats.now c.args.marks.now c.args.pairs.now.items c.args.steps.now)

pub returns-then-empty-clause-worked : goal.returns-then-empty-clause-worked
returns-then-empty-clause-worked g c =
    let l = c.loop in
    let w = c.handle_held.new in
    let e = c.take_some-empty.ensures in
    worked_some c.args.tables.now c.args.seats.now l.seats c.take_some-empty.new.seats w.seats c.args.marks.now l.marks w.marks c.args.pairs.now.items l.pairs.items w.pairs.items c.args.steps.now l.steps w.steps l.invariant.5 e.view e.none e.others.0 e.others.1
    c.handle_held.ensures.worked

pub loop-preserved : goal.loop-preserved
loop-preserved g c =
    let t = c.args.tables.now in
    let v = c.args.seats.now in
    let l = c.loop in
    let inv = l.invariant in
    let w = c.handle_held.new in
    let e = c.take_some-empty.ensures in
    let h = c.handle_held.ensures in
    let all = worked_some t v l.seats c.take_some-empty.new.seats w.seats c.args.marks.now l.marks w.marks c.args.pairs.now.items l.pairs.items w.pairs.items c.args.steps.now l.steps w.steps inv.5 e.view e.none e.others.0 e.others.1 h.worked in (
      h.awake.0,
      h.awake.1 ∙ (e.table.1 ∙ inv.1),
      h.attached ∙ (ap (λ (y : WaitView HashView). y.attached) e.view ∙ inv.2),
      h.hand,
      counted_on t v w.seats c.args.marks.now w.marks c.args.pairs.now.items w.pairs.items c.args.steps.now w.steps all c.requires.counted,
      all,
    )
