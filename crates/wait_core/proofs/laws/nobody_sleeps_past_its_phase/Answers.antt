use Rattle.wait_core.proofs.Runs.{reached_holds}
use Rattle.wait_core.proofs.Sleepers.{late_wakes}
use Rattle.wait_core.proofs.laws.nobody_sleeps_past_its_phase.Goals as goal

pub returns-clause-states : goal.returns-clause-states
returns-clause-states g c = let p = c.args.party.now in λ s r id o b ph v at own waits late asleep. late_wakes (g.P.Party.means p) c.args.size c.args.phase (g.P.Party.word_count p) s r id o v at own b ph waits late asleep

pub returns-clause-runs : goal.returns-clause-runs
returns-clause-runs g c =
    let p = c.args.party.now in
    let laws = g.met.P.Party g.world.𝓛 g.world.𝓜 g.world.𝓡 ((λ s x. x), (λ x. x), (λ x. x), λ x. x) in
    λ s reached id o b ph v at own waits late asleep. late_wakes (g.P.Party.means p) c.args.size c.args.phase (g.P.Party.word_count p) s
    (reached_holds (g.P.Party.does p) (g.P.Party.may p) (g.P.Party.after p) (g.P.Party.first p) g.P.Party.spent g.P.Party.both (g.P.Party.means p) c.args.size c.args.phase (g.P.Party.word_count p) (record { enter = laws.enter_keeps p; notice = laws.notice_keeps p; elect = laws.elect_keeps p; pass = laws.pass_keeps p; leave = laws.leave_keeps p }) (laws.step_inside p) (laws.step_keeps p) (laws.draw_keeps p) (laws.join_keeps p) (g.P.Party.opens p) s reached)
    id o v at own b ph waits late asleep
