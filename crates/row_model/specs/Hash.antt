-- FNV-1a of 32 bits, and the hash of a key.
use Rattle.std.specs.Prelude.{◌*◌, ◌%◌, ◌^◌, ℕ, List, fold, bit_xor, Option, Some, None, if◌then◌else◌}
use Rattle.row_model.specs.Table.{is_present}

-- one byte more
abbrev pub fnv1a_step : ℕ → ℕ → ℕ
fnv1a_step hash byte = bit_xor hash byte * 16777619 % 2 ^ 32

unfoldable pub fnv1a : List ℕ → ℕ
fnv1a bytes = fold fnv1a_step 2166136261 bytes

-- an empty key has no hash
abbrev pub hash_of_key : List ℕ → Option ℕ
hash_of_key key = if is_present key then Some (fnv1a key) else None
