use Rattle.std.proofs.Common.{sym, ap, subst}
use Rattle.wait_core.specs.declared.view.WaitView.{WaitView}
use Rattle.join_law.specs.declared.view.HashView.{HashView}
use Rattle.hash_probe.specs.Loads.{ProbesNone}
use Rattle.hash_probe.proofs.RowsDone.{stays_none}
use Rattle.hash_probe.proofs.Working.{worked_left, worked_none, worked_on}
use Rattle.hash_probe.proofs.probe.Goals as goal

pub returns-clause-probed : goal.returns-clause-probed
returns-clause-probed g c =
    let t = c.args.tables.now in
    let v = c.args.seats.now in
    let a = c.probe_batches.new in
    let s = c.draw_start-start.new.seats in
    let b = c.probe_batches-2.new in
    let d = c.probe_batches-3.new in
    let w = c.leave.new.seats in
    let same = c.draw_start-start.ensures.same in
    let pairs = c.args.pairs.now.items in
    let steps = c.args.steps.now in
    let drawn = worked_none t a.seats s a.marks a.pairs.items a.steps (subst (ProbesNone a.seats.wait.view.client) (ap (λ (y : WaitView HashView). y.client) (sym same.2)) (stays_none a.seats.wait.view.client)) (record { own = ap (λ (y : WaitView HashView). y.own) same.2; pending = ap (λ (y : WaitView HashView). y.pending) same.2; taken = ap (λ (y : WaitView HashView). y.taken) same.2; drawn = ap (λ (y : WaitView HashView). y.drawn) same.2 }) same.3 same.4 in
    let first = worked_on t v a.seats s _ a.marks a.marks pairs a.pairs.items a.pairs.items steps a.steps a.steps c.probe_batches.ensures.worked drawn in
    let second = worked_on t v s b.seats _ a.marks b.marks pairs a.pairs.items b.pairs.items steps a.steps b.steps first c.probe_batches-2.ensures.worked in
    let third = worked_on t v b.seats d.seats _ b.marks d.marks pairs b.pairs.items d.pairs.items steps b.steps d.steps second c.probe_batches-3.ensures.worked in
    worked_on t v d.seats w _ d.marks d.marks pairs d.pairs.items d.pairs.items steps d.steps d.steps third (worked_left t d.seats w d.marks d.pairs.items d.steps c.leave.ensures.client c.leave.ensures.numbers c.leave.ensures.lock c.leave.ensures.signal)
