use Rattle.std.proofs.Common.{◌≡◌, ℕ, Some, sym, ap, subst, arith}
use Rattle.wait_core.specs.Parties.{phase_of}
use Rattle.wait_core.specs.Seating.{party_of}
use Rattle.join_law.specs.Quiet.{Quiet, Passes}
use Rattle.join_law.specs.declared.view.HashView.{HashView}
use Rattle.join_party.specs.Joins.{join}
use Rattle.join_party.proofs.tests.claiming.go_to_hash.Goals as goal

pub arrive_and_wait-requires-clause-client : goal.arrive_and_wait-requires-clause-client
arrive_and_wait-requires-clause-client g c κs within =
    let v = c.args.seats.now.wait.view in subst (λ (b : ℕ). (x : ℕ) × (phase_of v.attached b ≡ Some x) × Quiet (join c.args.tables.now.waits.party) (party_of v) b x × Passes b x) (sym c.the_build.ensures)
    (1, c.requires.phase, (ap (λ (y : HashView). y.hand) c.requires.idle.2, tt), omega arith)
