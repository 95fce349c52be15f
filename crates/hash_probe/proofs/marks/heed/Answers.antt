use Rattle.hash_probe.proofs.marks.heed.Goals as goal

pub returns-then-hear-clause-says : goal.returns-then-hear-clause-says
returns-then-hear-clause-says g c = c.hear.ensures.says c.args.tables.now.waits.party

pub returns-else-hear-clause-says : goal.returns-else-hear-clause-says
returns-else-hear-clause-says g c = c.hear.ensures.says c.args.tables.now.waits.party
