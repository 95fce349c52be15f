-- Where the hash of a key leads. Buckets and batches are powers of two.
use Rattle.std.specs.Prelude.{ℕ, ◌-◌, bit_and}
use Rattle.std.specs.Int.{w32, rotate_right, trailing_zeros}

-- the bucket: the lowest bits of the hash
unfoldable pub bucket_of : ℕ → ℕ → ℕ
bucket_of buckets hash = bit_and hash (buckets - 1)

-- the batch: the lowest bits of the hash that is rotated to the right past those of the bucket
unfoldable pub batch_of : ℕ → ℕ → ℕ → ℕ
batch_of buckets batches hash = bit_and (rotate_right w32 hash (trailing_zeros w32 buckets)) (batches - 1)
