use Rattle.hash_build.proofs.Reporting.{touched_same}
use Rattle.hash_build.proofs.report.store_change.Goals as goal

pub returns-else-old-new-clause-steps : goal.returns-else-old-new-clause-steps
returns-else-old-new-clause-steps c = touched_same c.args.lock c.args.at c.args.old c.args.new c.args.seat.now.view c.if-old-new.false
