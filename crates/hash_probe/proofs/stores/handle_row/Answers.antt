use Rattle.std.proofs.Common.{refl, ap, ◌∙◌, arith}
use Rattle.wait_core.specs.declared.view.WaitView.{WaitView}
use Rattle.join_law.specs.declared.view.HashView.{HashView}
use Rattle.hash_probe.proofs.Handling.{handles_given, row_worked}
use Rattle.hash_probe.proofs.stores.handle_row.Goals as goal

pub returns-then-goes_on-clause-worked : goal.returns-then-goes_on-clause-worked
returns-then-goes_on-clause-worked g c =
    let h = c.heed.ensures in
    (row_worked c.args.tables.now c.args.seats.now c.heed.new.seats c.probe_next.new.seats c.args.marks.now c.heed.new.marks c.probe_next.new.marks c.args.pairs.now.items c.probe_next.new.pairs.items c.args.steps.now c.probe_next.new.steps h.client h.stays h.lock h.says h.looked c.probe_next.ensures.handles).1

pub returns-else-goes_on-clause-worked : goal.returns-else-goes_on-clause-worked
returns-else-goes_on-clause-worked g c =
    let h = c.heed.ensures in
    let u = c.heed.new.seats in
    let w = c.give_up.new.seats in
    let pairs = c.args.pairs.now.items in
    let steps = c.args.steps.now in
    let marks = c.heed.new.marks in
    let handled = handles_given c.args.tables.now u w marks marks c.args.row pairs pairs steps steps c.give_up.ensures.given refl refl refl refl (c.goes_on.ensures.no c.if-goes_on.false) (omega arith) c.give_up.ensures.others.0 c.give_up.ensures.others.1 in
    (row_worked c.args.tables.now c.args.seats.now u w c.args.marks.now marks marks pairs pairs steps steps h.client h.stays h.lock h.says h.looked handled).1

pub returns-then-goes_on-clause-drained : goal.returns-then-goes_on-clause-drained
returns-then-goes_on-clause-drained g c = c.probe_next.ensures.handles.drained ∙ ap (λ (y : HashView). y.drained) c.heed.ensures.client

pub returns-else-goes_on-clause-drained : goal.returns-else-goes_on-clause-drained
returns-else-goes_on-clause-drained g c = ap (λ (y : WaitView HashView). y.client.drained) c.give_up.ensures.given ∙ ap (λ (y : HashView). y.drained) c.heed.ensures.client
