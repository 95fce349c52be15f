use Rattle.std.proofs.Common.{◌≡◌, true, [], ◌∷◌, None}
use Rattle.wait_core.specs.Parties.{Elected}
use Rattle.join_law.specs.Phases.{build}
use Rattle.join_party.specs.Workers.{IsAt}
use Rattle.hash_build.specs.Hashing.{Reached}
use Rattle.hash_build.proofs.build.Given as goal

abbrev pub invariant-loop-phase : goal.invariant-loop-phase
invariant-loop-phase g l =
    let v = l.fn.seats in
    let w = l.seats in
    IsAt l.tables w × (w.wait.id ≡ v.wait.id) × (w.wait.view.place ≡ []) × (w.wait.view.target ≡ None) × (w.wait.view.attached ≡ (build, l.phase) ∷ [])
    × (l.elected ≡ true → Elected w.wait.view.elections build l.phase) × Reached v w l.fn.steps l.steps
