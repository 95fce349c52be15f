use Rattle.std.proofs.Common.{◌≡◌, []}
use Rattle.hash_probe.specs.Working.{IsAwake, IsCounted, Worked}
use Rattle.hash_probe.proofs.stores.probe_store.Given as goal

abbrev pub invariant-loop : goal.invariant-loop
invariant-loop g l =
    let v = l.fn.seats in
    let w = l.seats in
    IsAwake l.tables w × (w.wait.id ≡ v.wait.id) × (w.wait.view.attached ≡ v.wait.view.attached) × (w.wait.view.client.hand ≡ []) × IsCounted l.marks w
    × Worked l.tables v w l.fn.marks l.marks l.fn.pairs.items l.pairs.items l.fn.steps l.steps
