use Rattle.std.proofs.Common.{List, ◌+◌, drop, get_or, refl, ◌∙◌}
use Rattle.std.proofs.lemmas.List.{drop_all, drop_more}
use Rattle.wait_core.specs.Seating.{party_of}
use Rattle.join_party.specs.Joins.{join}
use Rattle.hash_probe.specs.declared.stores.Held.{Held}
use Rattle.hash_probe.proofs.Holding.{holds_fewer, may_probe_first, none_held}
use Rattle.hash_probe.proofs.Working.{counted_on, worked_on, worked_start}
use Rattle.hash_probe.proofs.stores.handle_held.Goals as goal

-- what stands past the end of a list
abbrev past : Held
past = record { row = 0; hash = 0 }

pub loop-held-init : goal.loop-held-init
loop-held-init g c = (c.requires.holds, c.requires.awake, refl, refl, refl, c.requires.counted, worked_start c.args.tables.now c.args.seats.now c.args.marks.now c.args.pairs.now.items c.args.steps.now)

pub handle_row-requires-clause-row : goal.handle_row-requires-clause-row
handle_row-requires-clause-row g c =
    let rows : List Held = c.args.rows.now in
    let l = c.loop-held in
    let i = l.held-index in
    let h = l.invariant.0 in
    (may_probe_first (join c.args.tables.now.waits.party) (party_of l.seats.wait.view) h.0 (drop i rows) h.1 (get_or rows i past) (drop (i + 1) rows) (drop_more rows i past c.loop-held-test.true)).0

pub handle_row-requires-clause-hash : goal.handle_row-requires-clause-hash
handle_row-requires-clause-hash g c =
    let rows : List Held = c.args.rows.now in
    let l = c.loop-held in
    let i = l.held-index in
    let h = l.invariant.0 in
    (may_probe_first (join c.args.tables.now.waits.party) (party_of l.seats.wait.view) h.0 (drop i rows) h.1 (get_or rows i past) (drop (i + 1) rows) (drop_more rows i past c.loop-held-test.true)).1

pub loop-held-preserved : goal.loop-held-preserved
loop-held-preserved g c =
    let t = c.args.tables.now in
    let v = c.args.seats.now in
    let rows : List Held = c.args.rows.now in
    let l = c.loop-held in
    let i = l.held-index in
    let inv = l.invariant in
    let w = c.handle_row.new in
    let e = c.handle_row.ensures in (
      (
        inv.0.0,
        holds_fewer (join t.waits.party) (party_of l.seats.wait.view) inv.0.0 (drop i rows) inv.0.1 (get_or rows i past) (drop (i + 1) rows) (drop_more rows i past c.loop-held-test.true) (party_of w.seats.wait.view) e.attached e.worked.does.only.known e.hand,
      ),
      e.awake.0,
      e.awake.1 ∙ inv.2,
      e.attached ∙ inv.3,
      e.drained ∙ inv.4,
      counted_on t l.seats w.seats l.marks w.marks l.pairs.items w.pairs.items l.steps w.steps e.worked inv.5,
      worked_on t v l.seats w.seats c.args.marks.now l.marks w.marks c.args.pairs.now.items l.pairs.items w.pairs.items c.args.steps.now l.steps w.steps inv.6 e.worked,
    )

pub returns-clause-hand : goal.returns-clause-hand
returns-clause-hand g c =
    let rows : List Held = c.args.rows.now in
    let l = c.loop-held in
    let h = l.invariant.0 in
    none_held (join c.args.tables.now.waits.party) (party_of l.seats.wait.view) h.0 (drop l.held-index rows) h.1 (drop_all l.held-index rows c.loop-held-test.false)
