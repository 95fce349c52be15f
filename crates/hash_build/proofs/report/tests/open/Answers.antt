use Rattle.std.proofs.Common.{refl, arith}
use Rattle.hash_build.proofs.report.tests.open.Goals as goal

pub open_tables-requires-clause-buckets : goal.open_tables-requires-clause-buckets
open_tables-requires-clause-buckets g c = ((3, refl), omega arith)
