use Rattle.std.proofs.Common.{◌≡◌, ℕ, drop}
use Rattle.wait_core.specs.Seating.{party_of}
use Rattle.join_party.specs.Joins.{join}
use Rattle.hash_probe.specs.Holding.{HoldsRows}
use Rattle.hash_probe.specs.Working.{IsAwake, IsCounted, Worked}
use Rattle.hash_probe.proofs.stores.handle_held.Given as goal

abbrev pub invariant-loop-held : goal.invariant-loop-held
invariant-loop-held g l =
    let v = l.fn.seats in
    let w = l.seats in
    ((batch : ℕ) × HoldsRows (join l.tables.waits.party) (party_of w.wait.view) batch (drop l.held-index l.rows)) × IsAwake l.tables w × (w.wait.id ≡ v.wait.id) × (w.wait.view.attached ≡ v.wait.view.attached) × (w.wait.view.client.drained ≡ v.wait.view.client.drained) × IsCounted l.marks w
    × Worked l.tables v w l.fn.marks l.marks l.fn.pairs.items l.pairs.items l.fn.steps l.steps
