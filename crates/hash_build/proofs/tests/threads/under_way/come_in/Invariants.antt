use Rattle.std.proofs.Common.{◌≡◌, [], ◌∷◌, None}
use Rattle.join_law.specs.Phases.{build}
use Rattle.join_party.specs.Workers.{IsAt}
use Rattle.hash_build.specs.Hashing.{IsFree}
use Rattle.hash_build.proofs.tests.threads.under_way.come_in.Given as goal

abbrev pub invariant-loop-phase : goal.invariant-loop-phase
invariant-loop-phase g l =
    let w = l.seats.wait.view in
    IsAt l.tables l.seats × (w.place ≡ []) × (w.target ≡ None) × IsFree l.seats.lock.view × (w.attached ≡ (build, l.phase) ∷ []) × (w.client.hand ≡ [])
