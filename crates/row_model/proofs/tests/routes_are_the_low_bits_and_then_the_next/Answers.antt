use Rattle.std.proofs.Common.{refl, arith}
use Rattle.row_model.proofs.tests.routes_are_the_low_bits_and_then_the_next.Goals as goal

pub of-requires-clause-buckets : goal.of-requires-clause-buckets
of-requires-clause-buckets g c = ((2, refl), omega arith)

pub of-requires-clause-batches : goal.of-requires-clause-batches
of-requires-clause-batches g c = ((1, refl), omega arith)
