use Rattle.std.proofs.Common.{◌≡◌, ℕ, suc, List, Some, sym, ap, subst, arith}
use Rattle.wait_core.specs.Parties.{phase_of}
use Rattle.wait_core.specs.Seating.{party_of}
use Rattle.join_law.specs.Phases.{RUN}
use Rattle.join_law.specs.Quiet.{Quiet, Passes, Stays}
use Rattle.join_party.specs.Joins.{join}
use Rattle.hash_probe.proofs.batches.leave.Goals as goal

pub arrive_and_detach-requires-clause-client : goal.arrive_and_detach-requires-clause-client
arrive_and_detach-requires-clause-client g c κs within =
    let v = c.args.seats.now.wait.view in
    subst (λ (b : ℕ). (x : ℕ) × (phase_of v.attached b ≡ Some x) × Quiet (join c.args.tables.now.waits.party) (party_of v) b x × (Passes b x × (Stays b x → ⊥) × (Stays b (suc x) → ⊥))) (sym c.the_build.ensures)
    (RUN, ap (λ (a : List (ℕ × ℕ)). phase_of a 0) c.requires.attached, c.requires.quiet, (omega arith, λ none. none, λ none. none))
