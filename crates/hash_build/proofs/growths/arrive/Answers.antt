use Rattle.std.proofs.Common.{◌≡◌, ℕ, Some, refl, sym, ◌∙◌, subst}
use Rattle.wait_core.specs.Parties.{phase_of}
use Rattle.wait_core.specs.Seating.{party_of}
use Rattle.join_law.specs.Quiet.{Quiet, Passes}
use Rattle.join_party.specs.Joins.{join}
use Rattle.hash_build.proofs.Passing.{growing_passed, may_arrive}
use Rattle.hash_build.proofs.growths.arrive.Goals as goal

pub arrive_and_wait-requires-clause-client : goal.arrive_and_wait-requires-clause-client
arrive_and_wait-requires-clause-client g c κs within =
    let v = c.args.seats.now.wait.view in
    let j = join c.args.tables.now.waits.party in
    subst (λ (b : ℕ). (x : ℕ) × (phase_of v.attached b ≡ Some x) × Quiet j (party_of v) b x × Passes b x) (sym c.barrier_of-bar.ensures)
    (may_arrive j c.args.growth c.args.phases v c.requires.growing.attached c.requires.growing.hand c.requires.before c.requires.quiet)

pub returns-clause-growing : goal.returns-clause-growing
returns-clause-growing g c = (
  growing_passed c.args.tables.now c.args.seats.now _ c.args.growth c.args.phases c.barrier_of-bar.result c.in-Ok.elected c.requires.growing c.requires.before c.barrier_of-bar.ensures
      (record { lock = c.requires.growing.at.lock; wait = c.arrive_and_wait.ensures.table.0 ∙ c.requires.growing.at.wait; signal = c.requires.growing.at.signal }) refl c.in-Ok.ensures.arrived,
  c.arrive_and_wait.ensures.table.1,
)
