use Rattle.std.proofs.Common.{◌≡◌, ℕ, ◌+◌, ◌-◌, length, refl, ap, arith}
use Rattle.join_party.specs.Joins.{join}
use Rattle.hash_probe.proofs.Handling.{added_by, handles_given, handles_probed, unmarked_not}
use Rattle.hash_probe.proofs.Probing.{row_ends}
use Rattle.hash_probe.proofs.stores.probe_next.Goals as goal

pub invariant_of-seats : goal.invariant_of-seats
invariant_of-seats g c =
    record { ends = row_ends (join c.args.tables.now.waits.party) c.probe_row.result c.args.seats.now.wait.view c.probe_row.new.seat.view c.args.row c.args.pairs.now.items c.probe_row.new.pairs.items c.probe_row.ensures.probed c.probe_row.ensures.given c.args.seats.now.ends }

pub returns-in-Ok-clause-handles : goal.returns-in-Ok-clause-handles
returns-in-Ok-clause-handles g c =
    let v = c.args.seats.now in
    let u = c.probe_row.new.seat.view in
    let before = c.args.pairs.now.items in
    let after = c.probe_row.new.pairs.items in
    let count : ℕ = c.in-Ok.count in
    let added : ℕ = c.len.result - c.len-before.result in
    let d = c.in-Ok.ensures.probed in
    let mine = added_by (join c.args.tables.now.waits.party) v.wait.view u c.args.row count before after d in
    let all = mine.0 in
    let more : length after ≡ length before + added = omega arith in
    handles_probed c.args.tables.now v c.count_row.new.seats u c.args.marks.now c.count_row.new.marks c.args.row count added before after c.args.steps.now c.probe_row.new.steps c.requires.unmarked d c.in-Ok.ensures.few c.probe_row.ensures.looks more
    (ap (λ s. s.view) c.count_row.ensures.others.1) c.count_row.ensures.others.0 c.count_row.ensures.counts

pub returns-in-Err-clause-handles : goal.returns-in-Err-clause-handles
returns-in-Err-clause-handles g c =
    let d = c.in-Err.ensures.given in
    handles_given c.args.tables.now c.args.seats.now _ c.args.marks.now _ c.args.row c.args.pairs.now.items c.probe_row.new.pairs.items c.args.steps.now c.probe_row.new.steps d.view d.pairs refl refl refl (unmarked_not c.args.marks.now) c.probe_row.ensures.looks refl refl
