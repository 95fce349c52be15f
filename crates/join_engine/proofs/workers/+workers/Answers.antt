use Rattle.std.proofs.Common.{◌≡◌, ◌+◌, ◌-◌, ◌∷◌, ℕ, None, false, length, sum, rules, subst}
use Rattle.join_engine.specs.Workers.{IsLeader, Together}
use Rattle.join_engine.proofs.Gathering.{nobody, with_sums}
use Rattle.join_engine.proofs.workers.+workers.Goals as goal

pub returns-in_default-clause-together : goal.returns-in_default-clause-together
returns-in_default-clause-together g t c =
    let none : 0 ≡ length c.args.steps.now = search rules in
    subst (λ (n : ℕ). Together c.args.shared.now.tables.now c.args.leader.now n c.args.pairs.now.items (record { over = None; short = false }) (sum c.args.steps.now) (sum c.args.steps.now)) none
    (nobody c.args.shared.now.tables.now c.args.leader.now c.args.pairs.now.items (sum c.args.steps.now) c.requires.idle c.requires.pairs)

pub returns-clause-leader : goal.returns-clause-leader
returns-clause-leader g t c =
    let number : ℕ = c.args.shared.now.tables.now.plan.workers - length c.args.steps.now in
    let one_more : length c.in-Some.rest.now + 1 ≡ length c.args.steps.now = search rules in
    subst (IsLeader c.gather.new.leader c.args.shared.now.tables.now.plan.workers) one_more (c.gather.ensures.leader c.args.shared.now.tables.now.plan.workers (length c.in-Some.rest.now) (number + 1) (search rules) (search rules))

pub returns-clause-together : goal.returns-clause-together
returns-clause-together g t c =
    let number : ℕ = c.args.shared.now.tables.now.plan.workers - length c.args.steps.now in
    let is : c.args.steps.now ≡ c.in-Some.first.now ∷ c.in-Some.rest.now = search rules in
    let counted = with_sums c.args.shared.now.tables.now _ _ _ _ _ _ c.gather.new.leader c.gather.new.pairs.items c.gather.result (number + 1) c.in-Some.first.now c.in-Some.rest.now c.args.steps.now c.gather.ensures.together is in
    search (rules, counted)
