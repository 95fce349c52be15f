use Rattle.std.proofs.Common.{◌≡◌, ◌≢◌, ◌≤◌, ◌<◌, ℕ, refl, sym, ◌∙◌, subst, arith, ⊎_elim}
use Rattle.std.proofs.lemmas.Bool.{cases_eq}
use Rattle.hash_probe.specs.Rows.{times_done}
use Rattle.hash_probe.proofs.Working.{counted_on, worked_on, worked_start}
use Rattle.hash_probe.proofs.batches.probe_batches.Goals as goal

pub loop-batch-init : goal.loop-batch-init
loop-batch-init g c =
    (c.requires.working, refl, c.requires.counted, worked_start c.args.tables.now c.args.seats.now c.args.marks.now c.args.pairs.now.items c.args.steps.now, λ b low high. absurd (omega arith))

pub loop-batch-preserved : goal.loop-batch-preserved
loop-batch-preserved g c =
    let t = c.args.tables.now in
    let v = c.args.seats.now in
    let l = c.loop-batch in
    let w = c.probe_batch.new in
    let inv = l.invariant in
    let worked = c.probe_batch.ensures.worked in
    let batch : ℕ = l.batch in (
      c.probe_batch.ensures.working.0,
      c.probe_batch.ensures.working.1 ∙ inv.1,
      counted_on t l.seats w.seats l.marks w.marks l.pairs.items w.pairs.items l.steps w.steps worked inv.2,
      worked_on t v l.seats w.seats c.args.marks.now l.marks w.marks c.args.pairs.now.items l.pairs.items w.pairs.items c.args.steps.now l.steps w.steps inv.3 worked,
      λ b low high. ⊎_elim
          (λ (e : b ≡ batch). subst (λ (n : ℕ). 1 ≤ times_done n w.seats.wait.view.client) (sym e) c.probe_batch.ensures.done)
          (λ (ne : b ≢ batch). let more = worked.does.only.done b in let was : 1 ≤ times_done b l.seats.wait.view.client = inv.4 b low (let less : b < batch = omega arith in less) in omega arith)
          (cases_eq b batch),
    )
