use Rattle.std.proofs.Common.{◌≡◌, ℕ, List, ◌∷◌, sym, ap, ◌∙◌, subst}
use Rattle.lw_core.specs.declared.seat.LwSeat.{LwSeat}
use Rattle.wait_core.specs.declared.view.WaitView.{WaitView}
use Rattle.wait_core.specs.Parties.{Elected, phase_of}
use Rattle.join_law.specs.declared.view.HashView.{HashView}
use Rattle.hash_build.specs.Hashing.{IsFree}
use Rattle.hash_build.proofs.Passing.{growing_first}
use Rattle.hash_build.proofs.growths.attach_both.Goals as goal

pub returns-clause-growing : goal.returns-clause-growing
returns-clause-growing g c =
    let read = c.read_sizes-sizes.ensures in
    let w = c.read_sizes-sizes.new.seats in
    let first = c.attach-batches.ensures.attached.1 in
    let second = c.attach-buckets.ensures.attached.1 in
    let view = read.view in
    let before = c.attach-buckets.new.seat.view in
    let stays : w.wait.view.attached ≡ before.attached = ap (λ (y : WaitView HashView). y.attached) view in
    let stored : w.wait.view.client.stored ≡ before.client.stored = ap (λ (y : WaitView HashView). y.client.stored) view in
    let attached = stays ∙ (ap (λ (y : WaitView HashView). y.attached) second ∙ ap (λ (l : List (ℕ × ℕ)). (c.barrier_of-bar-2.result, c.attach-buckets.result) ∷ l) (ap (λ (y : WaitView HashView). y.attached) first ∙ ap (λ (l : List (ℕ × ℕ)). (c.barrier_of-bar.result, c.attach-batches.result) ∷ l) c.requires.attached)) in (
      growing_first c.args.tables.now w _ c.barrier_of-bar.result c.barrier_of-bar-2.result c.barrier_of-bar.ensures c.barrier_of-bar-2.ensures
          (record {
            lock = ap (λ (l : LwSeat). l.table_id) read.others.0 ∙ c.requires.table.lock;
            wait = read.table.0 ∙ (c.attach-buckets.ensures.table.0 ∙ (c.attach-batches.ensures.table.0 ∙ c.requires.table.wait));
            signal = (λ i. (read.others.1 i).table_id) ∙ c.requires.table.signal;
          })
          (ap (λ (y : WaitView HashView). y.place) view ∙ ap (λ (y : WaitView HashView). y.place) second, ap (λ (y : WaitView HashView). y.target) view ∙ (ap (λ (y : WaitView HashView). y.target) second ∙ (ap (λ (y : WaitView HashView). y.target) first ∙ c.requires.idle.1)))
          (subst (λ (l : LwSeat). IsFree l.view) (sym read.others.0) c.requires.idle.2)
          attached
          (ap (λ (y : WaitView HashView). y.client.hand) view ∙ (ap (λ (y : WaitView HashView). y.client.hand) second ∙ (ap (λ (y : WaitView HashView). y.client.hand) first ∙ c.requires.hand)))
          (λ ph. ((λ on. (read.ends ph).0 (ap (λ l. phase_of l 1) (sym stays) ∙ on)), (λ on. (read.ends ph).1 (ap (λ l. phase_of l 2) (sym stays) ∙ on))))
          (λ bar ph later on e. read.stored bar ph later (ap (λ l. phase_of l bar) (sym stays) ∙ on) (subst (λ (l : List (ℕ × ℕ)). Elected l bar later) stored e)),
      read.table.1 ∙ (c.attach-buckets.ensures.table.1 ∙ c.attach-batches.ensures.table.1),
    )
