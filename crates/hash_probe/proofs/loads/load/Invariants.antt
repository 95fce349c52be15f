use Rattle.std.proofs.Common.{◌≡◌, [], ◌∷◌}
use Rattle.wait_core.specs.Seating.{client_moved}
use Rattle.join_law.specs.Phases.{LOAD, RUN, batch_bar, build}
use Rattle.hash_probe.specs.Loads.{ProbesNone}
use Rattle.hash_probe.specs.Working.{IsWorking}
use Rattle.hash_probe.proofs.loads.load.Given as goal

abbrev pub invariant-loop : goal.invariant-loop
invariant-loop g l =
    let v = l.fn.seats in
    let w = l.seats in
    IsWorking l.tables w l.table ((batch_bar l.batch, LOAD) ∷ (build, RUN) ∷ []) × (w.wait.id ≡ v.wait.id) × (w.lock ≡ v.lock) × (w.signal ≡ v.signal)
    × (w.wait.view ≡ client_moved v.wait.view w.wait.view.client) × ProbesNone v.wait.view.client w.wait.view.client
