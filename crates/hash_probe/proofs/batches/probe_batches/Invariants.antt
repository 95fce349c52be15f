use Rattle.std.proofs.Common.{◌≡◌, ◌≤◌, ◌<◌, ℕ, [], ◌∷◌}
use Rattle.join_law.specs.Phases.{RUN, build}
use Rattle.hash_probe.specs.Rows.{times_done}
use Rattle.hash_probe.specs.Working.{IsCounted, IsWorking, Worked}
use Rattle.hash_probe.proofs.batches.probe_batches.Given as goal

abbrev pub invariant-loop-batch : goal.invariant-loop-batch
invariant-loop-batch g l =
    let v = l.fn.seats in
    let w = l.seats in
    IsWorking l.tables w l.table ((build, RUN) ∷ []) × (w.wait.id ≡ v.wait.id) × IsCounted l.marks w
    × Worked l.tables v w l.fn.marks l.marks l.fn.pairs.items l.pairs.items l.fn.steps l.steps
    × ((b : ℕ) → l.fn.first ≤ b → b < l.batch → 1 ≤ times_done b w.wait.view.client)
