use Rattle.std.proofs.Common.{◌≡◌, []}
use Rattle.row_model.specs.declared.Side.TheVariants.{Inner}
use Rattle.wait_core.specs.Seating.{party_of}
use Rattle.join_law.specs.Machine.{At, claim_phase}
use Rattle.join_law.specs.Phases.{build}
use Rattle.join_party.proofs.tests.claiming.claim_all.Given as goal

abbrev pub invariant-loop : goal.invariant-loop
invariant-loop g l = (l.seats.wait.table_id ≡ l.tables.waits.table_id) × (l.seats.wait.view.place ≡ []) × At (party_of l.seats.wait.view) build (claim_phase Inner)
