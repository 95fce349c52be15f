use Rattle.std.proofs.Common.{◌≡◌, [], ◌∷◌}
use Rattle.join_law.specs.Phases.{RUN, batch_bar, build}
use Rattle.hash_build.specs.Hashing.{SameWaitNumbers}
use Rattle.hash_probe.specs.Loads.{ProbesNone}
use Rattle.hash_probe.specs.Working.{IsWorking}
use Rattle.hash_probe.proofs.batches.pass_to_probe.Given as goal

abbrev pub invariant-loop-phase : goal.invariant-loop-phase
invariant-loop-phase g l =
    let v = l.fn.seats in
    let w = l.seats in
    IsWorking l.tables w l.table ((batch_bar l.batch, l.phase) ∷ (build, RUN) ∷ []) × (w.wait.id ≡ v.wait.id) × (w.lock ≡ v.lock) × (w.signal ≡ v.signal)
    × ProbesNone v.wait.view.client w.wait.view.client × SameWaitNumbers v.wait.view w.wait.view
