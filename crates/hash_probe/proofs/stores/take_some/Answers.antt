use Rattle.std.proofs.Common.{◌≡◌, ℕ, sym, ap, ◌∙◌, subst}
use Rattle.wait_core.specs.declared.view.WaitView.{WaitView}
use Rattle.wait_core.specs.Seating.{client_moved, party_of}
use Rattle.join_law.specs.declared.view.HashView.{HashView}
use Rattle.join_law.specs.Machine.{took}
use Rattle.join_party.specs.Joins.{join}
use Rattle.hash_probe.specs.Holding.{HoldsRows}
use Rattle.hash_probe.specs.Loads.{ProbesNone}
use Rattle.hash_probe.proofs.Holding.{holds_more}
use Rattle.hash_probe.proofs.RowsDone.{none_on, took_none}
use Rattle.hash_probe.proofs.stores.take_some.Goals as goal

pub loop-store-preserved : goal.loop-store-preserved
loop-store-preserved g c =
    let j = join c.args.tables.now.waits.party in
    let v = c.args.seats.now.wait.view in
    let l = c.loop-store in
    let inv = l.invariant in
    let u = l.seats.wait.view in
    let w = c.hash_word-hash.new.seat.view in
    let row : ℕ = c.in-Some.row in
    let hash : ℕ = c.hash_word-hash.result in
    let e = c.hash_word-hash.ensures in
    let moved : w ≡ client_moved u (took u.client row) = e.view ∙ c.in-Some.ensures.taken in
    let client : w.client ≡ took u.client row = ap (λ (y : WaitView HashView). y.client) moved in
    let others = ap (λ (y : WaitView HashView). client_moved y (took u.client row)) inv.4 in (
      e.table.0 ∙ (c.take.ensures.table.0 ∙ inv.0),
      e.table.1 ∙ (c.take.ensures.table.1 ∙ inv.1),
      c.take.ensures.others.0 ∙ inv.2,
      c.take.ensures.others.1 ∙ inv.3,
      moved ∙ (others ∙ ap (client_moved v) (sym client)),
      none_on v.client u.client w.client inv.5 (subst (ProbesNone u.client) (sym client) (took_none u.client row)),
      subst (HoldsRows j (party_of w) c.args.batch) (sym c.push.ensures.items)
          (holds_more j (party_of u) c.args.batch l.held.items inv.6 (party_of w) row hash c.in-Some.ensures.row e.hash (ap (λ (y : WaitView HashView). y.attached) moved) (ap (λ (y : HashView). y.known) client) (ap (λ (y : HashView). y.hand) client)),
    )
