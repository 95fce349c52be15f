use Rattle.std.proofs.Common.{◌≡◌, ℕ, ◌<◌, [], ◌∷◌, List, Some, sym, ap, ◌∙◌, subst, arith}
use Rattle.wait_core.specs.Parties.{phase_of}
use Rattle.wait_core.specs.Seating.{party_of}
use Rattle.join_law.specs.Phases.{RUN, batch_bar, build}
use Rattle.join_law.specs.Quiet.{Quiet, Passes}
use Rattle.join_party.specs.Joins.{join}
use Rattle.hash_probe.proofs.Attached.{phase_first}
use Rattle.hash_probe.proofs.batches.go_on.Goals as goal

pub arrive_and_wait-requires-clause-client : goal.arrive_and_wait-requires-clause-client
arrive_and_wait-requires-clause-client g c κs within =
    let v = c.args.seats.now.wait.view in
    let bar : ℕ = batch_bar c.args.batch in
    let few : c.args.phase < 3 = c.requires.attached.0 in
    subst (λ (b : ℕ). (x : ℕ) × (phase_of v.attached b ≡ Some x) × Quiet (join c.args.tables.now.waits.party) (party_of v) b x × Passes b x) (sym c.barrier_of.ensures)
    (c.args.phase, ap (λ (a : List (ℕ × ℕ)). phase_of a bar) c.requires.attached.1 ∙ phase_first bar c.args.phase ((build, RUN) ∷ []), c.requires.quiet, omega arith)
