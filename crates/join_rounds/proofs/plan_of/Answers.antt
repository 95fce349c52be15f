use Rattle.std.proofs.Common.{refl, arith}
use Rattle.join_rounds.proofs.plan_of.Goals as goal

pub returns-then-batches-clause-buckets : goal.returns-then-batches-clause-buckets
returns-then-batches-clause-buckets c = ((16, refl), omega arith)

pub returns-else-batches-clause-buckets : goal.returns-else-batches-clause-buckets
returns-else-batches-clause-buckets c = ((18, refl), omega arith)
