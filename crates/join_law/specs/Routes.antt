-- Where the hash of a key leads, and the heads that it names.
use Rattle.std.specs.Prelude.{ℕ, ◌+◌, ◌-◌, ◌*◌, ◌/◌, ◌==◌, nat_lt, cond}
use Rattle.row_model.specs.Routes as route
use Rattle.join_law.specs.Layout.{Join, SizesOf, chain_no, store_no, outer_no}
use Rattle.join_law.specs.Phases.{batch_growth}

-- the bucket and the batch of a hash, by these sizes
abbrev pub bucket_of : SizesOf → ℕ → ℕ
bucket_of z x = route.bucket_of z.buckets x

abbrev pub batch_of : SizesOf → ℕ → ℕ
batch_of z x = route.batch_of z.buckets z.batches x

-- the heads of its chain, of its inner store and of its outer store
abbrev pub chain_at : Join → SizesOf → ℕ → ℕ
chain_at j z x = chain_no j z.half (batch_of z x * z.buckets + bucket_of z x)

abbrev pub store_at : Join → SizesOf → ℕ → ℕ
store_at j z x = store_no j z.half (batch_of z x)

abbrev pub outer_at : Join → SizesOf → ℕ → ℕ
outer_at j z x = outer_no j (batch_of z x)

-- where an inner row goes while rows are hashed: one of batch 0 into its chain, any other into its store
abbrev pub hashed_at : Join → SizesOf → ℕ → ℕ
hashed_at j z x = cond (batch_of z x == 0) (chain_at j z x) (store_at j z x)

-- the sizes before a growth at this barrier, from those after it
abbrev pub before_growth : Join → ℕ → SizesOf → SizesOf
before_growth j bar z = record {
  half = 1 - z.half;
  buckets = cond (bar == batch_growth) z.buckets (z.buckets / 2);
  batches = cond (bar == batch_growth) (cond (z.batches == j.first_batches) 1 (z.batches / 2)) z.batches;
}

-- the heads that may hold rows while rows are hashed, in turn: the chains of batch 0, then the stores from 1 on
abbrev pub old_head : Join → SizesOf → ℕ → ℕ
old_head j z turn = cond (nat_lt turn z.buckets) (chain_no j z.half turn) (store_no j z.half (turn - z.buckets + 1))

abbrev pub old_heads : SizesOf → ℕ
old_heads z = z.buckets + z.batches - 1
