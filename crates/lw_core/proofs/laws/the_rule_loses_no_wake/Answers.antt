use Rattle.lw_core.proofs.NoLostWake.{no_wake_is_lost, no_free_lock_is_slept_for, no_stale_sleep}
use Rattle.lw_core.proofs.laws.the_rule_loses_no_wake.Goals as goal

pub returns-clause-pending : goal.returns-clause-pending
returns-clause-pending g c = no_wake_is_lost g.G.Guarded.lawful c.args.size

pub returns-clause-answered : goal.returns-clause-answered
returns-clause-answered g c = no_free_lock_is_slept_for g.G.Guarded.lawful c.args.size

pub returns-clause-current : goal.returns-clause-current
returns-clause-current g c = no_stale_sleep g.G.Guarded.lawful c.args.size
