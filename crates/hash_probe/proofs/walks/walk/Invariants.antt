use Rattle.std.proofs.Common.{◌≡◌, ℕ, ◌+◌, ◌≤◌, List, ◌++◌}
use Rattle.join_party.specs.Joins.{join}
use Rattle.hash_probe.specs.Looks.{agreeing_among}
use Rattle.hash_probe.specs.Walks.{pairs_among, walking}
use Rattle.hash_probe.proofs.walks.walk.Given as goal

abbrev pub invariant-loop : goal.invariant-loop
invariant-loop g l =
    let p = l.waits.party in
    (l.seat.table_id ≡ l.fn.seat.table_id) × (l.seat.id ≡ l.fn.seat.id) × (l.next ≤ (join p).inner)
    × (passed : List ℕ) × (l.seat.view ≡ walking l.fn.seat.view l.row passed l.next) × (l.pairs.items ≡ l.fn.pairs.items ++ pairs_among (join p) l.row passed) × (l.steps ≤ l.fn.steps + agreeing_among p.inner.now p.buckets l.hash passed)
