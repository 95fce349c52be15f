use Rattle.std.proofs.Common.{◌-◌, [], false, List, None, subst, sym}
use Rattle.row_model.specs.declared.Pair.{Pair}
use Rattle.hash_probe.specs.Probes.{Probes}
use Rattle.join_end.specs.Works.{HasDone, work_of}
use Rattle.join_end.proofs.Workers.{built_done, built_numbers, late_done, late_numbers, sorted_done}
use Rattle.join_end.proofs.worker.work.Goals as goal

pub returns-in-Ready-clause-done : goal.returns-in-Ready-clause-done
returns-in-Ready-clause-done g c =
    let t = c.args.tables.now in
    let s = c.enter.new.seats in
    let u = c.build-built.new.seats in
    let probed = c.probe-said in
    let new = c.requires.new in
    let begun = c.enter.ensures.new new.0 new.1 new.2 in
    let f : Probes t u probed.new.seats probed.result [] probed.new.pairs.items c.build-built.new.steps probed.new.steps = subst (λ (l : List Pair). Probes t u probed.new.seats probed.result l probed.new.pairs.items c.build-built.new.steps probed.new.steps) c.requires.pairs probed.ensures.probed in
    sorted_done t.waits.party probed.new.seats probed.new.pairs.items c.sort.new.pairs.items probed.result.over probed.result.out_of_memory (probed.new.steps - c.args.steps.now) c.sort.ensures.same
    (built_done t s u probed.new.seats new.0 new.1 c.in-Ready.buckets c.in-Ready.batches c.in-Ready.elected probed.result probed.new.pairs.items c.args.steps.now c.build-built.new.steps probed.new.steps begun c.in-Ready.ensures.built f probed.ensures.left.0 probed.ensures.quiet)

pub returns-in-Ready-clause-numbers : goal.returns-in-Ready-clause-numbers
returns-in-Ready-clause-numbers g c m n new =
    let t = c.args.tables.now in
    let u = c.build-built.new.seats in
    let probed = c.probe-said in
    let f : Probes t u probed.new.seats probed.result [] probed.new.pairs.items c.build-built.new.steps probed.new.steps = subst (λ (l : List Pair). Probes t u probed.new.seats probed.result l probed.new.pairs.items c.build-built.new.steps probed.new.steps) c.requires.pairs probed.ensures.probed in
    built_numbers t c.enter.new.seats u probed.new.seats m n c.in-Ready.buckets c.in-Ready.batches c.in-Ready.elected probed.result probed.new.pairs.items c.args.steps.now c.build-built.new.steps probed.new.steps (c.enter.ensures.new m n new) c.in-Ready.ensures.built f

pub returns-in-Late-clause-done : goal.returns-in-Late-clause-done
returns-in-Late-clause-done g c =
    let p = c.args.tables.now.waits.party in
    let w = c.leave_late.new.seats in
    let new = c.requires.new in
    let begun = c.enter.ensures.new new.0 new.1 new.2 in
    let steps = c.build-built.new.steps - c.args.steps.now in
    subst (λ (l : List Pair). HasDone p (work_of w l None false steps)) (sym c.requires.pairs)
    (late_done p c.enter.new.seats c.build-built.new.seats w new.0 new.1 c.args.steps.now c.build-built.new.steps begun c.in-Late.ensures.built c.leave_late.ensures.same.0 c.leave_late.ensures.signal)

pub returns-in-Late-clause-numbers : goal.returns-in-Late-clause-numbers
returns-in-Late-clause-numbers g c m n new =
    late_numbers c.enter.new.seats c.build-built.new.seats c.leave_late.new.seats m n c.args.steps.now c.build-built.new.steps (c.enter.ensures.new m n new) c.in-Late.ensures.built c.leave_late.ensures.same.2 c.leave_late.ensures.signal
