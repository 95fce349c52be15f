use Rattle.wait_core.proofs.RuleKept.{machine_kept}
use Rattle.wait_core.proofs.laws.machine_step_keeps.Goals as goal

pub returns : goal.returns
returns g c =
    let p = c.args.party.now in
    let laws = g.met.P.Party g.world.𝓛 g.world.𝓜 g.world.𝓡 ((λ s x. x), (λ x. x), (λ x. x), λ x. x) in
    λ s id o v k r at own ok suits. machine_kept (g.P.Party.means p) c.args.size c.args.phase (g.P.Party.word_count p) s r id v o at own (record { enter = laws.enter_keeps p; notice = laws.notice_keeps p; elect = laws.elect_keeps p; pass = laws.pass_keeps p; leave = laws.leave_keeps p }) k ok suits
