use Rattle.std.proofs.Common.{◌<◌, ℕ, refl, sym, subst, arith}
use Rattle.std.proofs.lemmas.Nat.{pow_pos}
use Rattle.join_law.proofs.Openings.{opening_stands}
use Rattle.join_party.proofs.RowsMeeting.{rows_meet}
use Rattle.join_party.proofs.tables.open_tables.Goals as goal

pub new-requires-3-clause-opening : goal.new-requires-3-clause-opening
new-requires-3-clause-opening c = λ κs.
    let few = c.new-arg-1.given.0 in
    let n : ℕ = c.args.plan.buckets in
    let power = c.requires.buckets.0 in
    let some : 0 < n = subst (λ (x : ℕ). 0 < x) (sym power.1) (pow_pos power.0) in
    let chains = c.most_chains in
    let range = chains.ensures.range in
    opening_stands _ (rows_meet c.args.inner.now c.args.outer.now chains.result n c.next_power_of_two.result few.0 few.1)
    (record { half = omega arith; buckets = omega arith; batches = omega arith; most = omega arith; room = omega arith; few = omega arith; powers = (power, (0, refl)) }) 0
