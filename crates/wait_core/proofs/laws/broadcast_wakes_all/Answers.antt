use Rattle.wait_core.proofs.Runs.{step_holds, reached_holds}
use Rattle.wait_core.proofs.Broadcasting.{all_taken_off}
use Rattle.wait_core.proofs.laws.broadcast_wakes_all.Goals as goal

pub returns-clause-states : goal.returns-clause-states
returns-clause-states g c =
    let p = c.args.party.now in
    let laws = g.met.P.Party g.world.𝓛 g.world.𝓜 g.world.𝓡 ((λ s x. x), (λ x. x), (λ x. x), λ x. x) in
    λ s t es run r id q d n list v a there idle some. all_taken_off (g.P.Party.does p) (g.P.Party.may p) (g.P.Party.after p) (g.P.Party.first p) g.P.Party.spent g.P.Party.both (g.P.Party.means p) c.args.size c.args.phase (g.P.Party.word_count p)
    (step_holds (g.P.Party.does p) (g.P.Party.may p) (g.P.Party.after p) (g.P.Party.first p) g.P.Party.spent g.P.Party.both (g.P.Party.means p) c.args.size c.args.phase (g.P.Party.word_count p) (record { enter = laws.enter_keeps p; notice = laws.notice_keeps p; elect = laws.elect_keeps p; pass = laws.pass_keeps p; leave = laws.leave_keeps p }) (laws.step_inside p) (laws.step_keeps p) (laws.draw_keeps p) (laws.join_keeps p))
    es s t run r id q d list a v there idle n some

pub returns-clause-runs : goal.returns-clause-runs
returns-clause-runs g c =
    let p = c.args.party.now in
    let laws = g.met.P.Party g.world.𝓛 g.world.𝓜 g.world.𝓡 ((λ s x. x), (λ x. x), (λ x. x), λ x. x) in
    λ s t es run reached id q d n list v a there idle some. all_taken_off (g.P.Party.does p) (g.P.Party.may p) (g.P.Party.after p) (g.P.Party.first p) g.P.Party.spent g.P.Party.both (g.P.Party.means p) c.args.size c.args.phase (g.P.Party.word_count p)
    (step_holds (g.P.Party.does p) (g.P.Party.may p) (g.P.Party.after p) (g.P.Party.first p) g.P.Party.spent g.P.Party.both (g.P.Party.means p) c.args.size c.args.phase (g.P.Party.word_count p) (record { enter = laws.enter_keeps p; notice = laws.notice_keeps p; elect = laws.elect_keeps p; pass = laws.pass_keeps p; leave = laws.leave_keeps p }) (laws.step_inside p) (laws.step_keeps p) (laws.draw_keeps p) (laws.join_keeps p))
    es s t run (reached_holds (g.P.Party.does p) (g.P.Party.may p) (g.P.Party.after p) (g.P.Party.first p) g.P.Party.spent g.P.Party.both (g.P.Party.means p) c.args.size c.args.phase (g.P.Party.word_count p) (record { enter = laws.enter_keeps p; notice = laws.notice_keeps p; elect = laws.elect_keeps p; pass = laws.pass_keeps p; leave = laws.leave_keeps p }) (laws.step_inside p) (laws.step_keeps p) (laws.draw_keeps p) (laws.join_keeps p) (g.P.Party.opens p) s reached) id q d list a v there idle n some
