use Rattle.std.proofs.Common.{◌≡◌, ℕ, [], ◌∷◌, List, Some, sym, ap, ◌∙◌, subst, arith}
use Rattle.wait_core.specs.Parties.{phase_of}
use Rattle.wait_core.specs.Seating.{party_of}
use Rattle.join_law.specs.Phases.{RUN, PROBE, batch_bar, build}
use Rattle.join_law.specs.Quiet.{Quiet, Passes}
use Rattle.join_party.specs.Joins.{join}
use Rattle.hash_probe.proofs.Attached.{phase_first}
use Rattle.hash_probe.proofs.batches.leave_unless_last.Goals as goal

pub arrive_and_detach_except_last-requires-clause-client : goal.arrive_and_detach_except_last-requires-clause-client
arrive_and_detach_except_last-requires-clause-client g c κs within =
    let v = c.args.seats.now.wait.view in
    let bar : ℕ = batch_bar c.args.batch in
    subst (λ (b : ℕ). (x : ℕ) × (phase_of v.attached b ≡ Some x) × Quiet (join c.args.tables.now.waits.party) (party_of v) b x × Passes b x) (sym c.barrier_of-bar.ensures)
    (PROBE, ap (λ (a : List (ℕ × ℕ)). phase_of a bar) c.requires.attached ∙ phase_first bar PROBE ((build, RUN) ∷ []), c.requires.quiet, omega arith)
