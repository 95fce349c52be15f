use Rattle.std.proofs.Common.{◌≡◌, ℕ, refl, sym, ◌∙◌, subst, arith}
use Rattle.wait_core.specs.declared.view.WaitView.{WaitView}
use Rattle.wait_core.specs.Seating.{client_moved, party_of}
use Rattle.join_law.specs.declared.view.HashView.{HashView}
use Rattle.join_law.specs.declared.step.HashStep.TheVariants.{StoreSizes}
use Rattle.join_law.specs.Machine.{May, after}
use Rattle.join_party.specs.Joins.{join}
use Rattle.hash_build.proofs.Hashing.{still_ends}
use Rattle.hash_build.proofs.Resizing.{growing_resized, may_store}
use Rattle.hash_build.proofs.resize.store_sizes.Goals as goal

pub client-requires-clause-may : goal.client-requires-clause-may
client-requires-clause-may c κs =
    let j = join c.args.tables.now.waits.party in
    let v = c.args.seats.now.wait.view in
    let may = may_store j c.args.growth c.args.phases v c.args.sizes c.args.grown c.word.result c.requires.growing.attached c.requires.phase c.requires.elected c.requires.fresh c.requires.other c.requires.known c.requires.grown.0 c.word.ensures in
    subst {A = ℕ × WaitView HashView} (λ x. May j (party_of x.1) (StoreSizes x.0 c.word.result)) (λ i. (sym c.bar.ensures i, sym c.clear_batch_sizes.ensures.view i)) (omega arith, may)

pub invariant_of-seats : goal.invariant_of-seats
invariant_of-seats c = record { ends = still_ends c.clear_batch_sizes.new.seats.wait.view _ _ c.client.ensures.view refl refl refl refl c.clear_batch_sizes.new.seats.ends }

pub returns-clause-growing : goal.returns-clause-growing
returns-clause-growing c =
    let clear = c.clear_batch_sizes.ensures in
    let growing = c.requires.growing in (
      growing_resized (join c.args.tables.now.waits.party) c.args.tables.now c.args.seats.now _ c.args.growth c.args.phases c.bar.result c.word.result c.client.result.old growing c.bar.ensures
          (record { lock = (λ i. (clear.others.0 i).table_id) ∙ growing.at.lock; wait = c.client.ensures.table.0 ∙ (clear.table.0 ∙ growing.at.wait); signal = (λ i. (clear.others.1 i).table_id) ∙ growing.at.signal })
          clear.others.0 (subst (λ (y : WaitView HashView). c.client.new.seat.view ≡ client_moved y (after (join c.args.tables.now.waits.party) (party_of y) (StoreSizes c.bar.result c.word.result) c.client.result.old)) clear.view c.client.ensures.view),
      c.client.ensures.table.1 ∙ clear.table.1,
    )
