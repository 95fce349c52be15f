use Rattle.std.proofs.Common.{◌≡◌, ◌-◌, length}
use Rattle.wait_core.specs.Seating.{client_moved, party_of}
use Rattle.join_party.specs.Joins.{join}
use Rattle.hash_probe.specs.Holding.{HoldsRows}
use Rattle.hash_probe.specs.Loads.{ProbesNone}
use Rattle.hash_probe.proofs.stores.take_some.Given as goal

abbrev pub invariant-loop-store : goal.invariant-loop-store
invariant-loop-store g l =
    let v = l.fn.seats in
    let w = l.seats in
    (w.wait.table_id ≡ v.wait.table_id) × (w.wait.id ≡ v.wait.id) × (w.lock ≡ v.lock) × (w.signal ≡ v.signal) × (w.wait.view ≡ client_moved v.wait.view w.wait.view.client) × ProbesNone v.wait.view.client w.wait.view.client
    × HoldsRows (join l.tables.waits.party) (party_of w.wait.view) l.batch l.held.items

-- each turn takes one row more
abbrev pub decreases-loop-store : goal.decreases-loop-store
decreases-loop-store g l = 64 - length l.held.items
