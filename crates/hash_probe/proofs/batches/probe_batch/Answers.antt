use Rattle.std.proofs.Common.{◌≡◌, sym, ap, ◌∙◌, subst}
use Rattle.wait_core.specs.declared.view.WaitView.{WaitView}
use Rattle.join_law.specs.declared.view.HashView.{HashView}
use Rattle.hash_probe.specs.Loads.{ProbesNone}
use Rattle.hash_probe.specs.Rows.{found_done}
use Rattle.hash_probe.proofs.RowsDone.{done_none}
use Rattle.hash_probe.proofs.Working.{numbers_on, worked_none}
use Rattle.hash_probe.proofs.batches.probe_batch.Goals as goal

pub returns-then-phase-ge-SCAN-clause-worked : goal.returns-then-phase-ge-SCAN-clause-worked
returns-then-phase-ge-SCAN-clause-worked g c =
    let v = c.args.seats.now.wait.view in
    let u = c.attach-phase.new.seat.view in
    let w = c.skip_batch.new.seats in
    let is = c.attach-phase.ensures.attached.1 in
    let done : w.wait.view.client ≡ found_done c.args.batch v.client = c.skip_batch.ensures.client ∙ ap (λ (y : WaitView HashView). found_done c.args.batch y.client) is in
    let numbers = numbers_on v u w.wait.view (record { own = ap (λ (y : WaitView HashView). y.own) is; pending = ap (λ (y : WaitView HashView). y.pending) is; taken = ap (λ (y : WaitView HashView). y.taken) is; drawn = ap (λ (y : WaitView HashView). y.drawn) is }) c.skip_batch.ensures.numbers in
    worked_none c.args.tables.now c.args.seats.now w c.args.marks.now c.args.pairs.now.items c.args.steps.now (subst (ProbesNone v.client) (sym done) (done_none v.client c.args.batch)) numbers c.skip_batch.ensures.others.0 c.skip_batch.ensures.others.1
