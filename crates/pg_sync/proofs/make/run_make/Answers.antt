use Rattle.std.proofs.Common.{◌∙◌}
use Rattle.pg_sync.proofs.MakeFacts.{made-shows}
use Rattle.pg_sync.proofs.make.run_make.Goals as goal

pub returns-clause-answer : goal.returns-clause-answer
returns-clause-answer g c = made-shows c.args.rows c.args.start c.as_slice.result.now _ _ _ _ _ (c.as_slice.ensures.value ∙ c.in-Ok.ensures.pairs) c.write_made.ensures.answer
