use Rattle.std.proofs.Common.{◌≡◌, ◌++◌, ◌+◌, ◌≤◌, length}
use Rattle.std.specs.Prelude.{slice_get}
use Rattle.row_model.specs.Table.{pairs_of}
use Rattle.join_engine.specs.Limit.{pair_limit}
use Rattle.join_engine.specs.Looks.{rows_from}
use Rattle.join_engine.proofs.ChainFacts.{chain_at, confirmed}
use Rattle.join_engine.proofs.hashed.probe_chain.Given as goal

abbrev pub invariant-chain : goal.invariant-chain
invariant-chain g l = record {
  known : l.candidate ≡ slice_get (chain_at l.inner l.hash l.candidate) 0;
  pairs : l.pairs.items ++ confirmed l.outer l.inner l.o (chain_at l.inner l.hash l.candidate) ≡ l.fn.pairs.items ++ pairs_of l.outer l.inner l.o;
  few : length l.pairs.items ≤ pair_limit;
  looks : l.steps + length (chain_at l.inner l.hash l.candidate) ≤ l.fn.steps + length (rows_from l.inner 0 l.hash);
}

abbrev pub decreases-chain : goal.decreases-chain
decreases-chain g l = length (chain_at l.inner l.hash l.candidate)
