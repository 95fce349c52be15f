-- Laws of options, and of numbers that are powers of two.
use Rattle.std.proofs.Common.{◌≡◌, ℕ, ◌-◌, ◌/◌, ◌%◌, ◌≤◌, List, [], ◌∷◌, take, take_all, drop, length, map, String, Global, string_bytes, get_or, count_ones, Some, refl, arith, zero, suc}
use Rattle.std.specs.Int.{IsPowerOfTwo}
use lib.Count.{ones_step}
use Rattle.std.proofs.lemmas.Nat.{ones_le_self, zero_from_ones}
use Rattle.std.proofs.Math.Nat.{two-pow-succ}
use Rattle.pg_sync.specs.Words.{IsPlan, Options, no_options, plan_of, add_option, read_options}

-- an even number is a power of two where its half is one
twice : (n half : ℕ) → n % 2 ≡ 0 → half ≡ n / 2 → IsPowerOfTwo half → IsPowerOfTwo n
twice n half even is p = (suc p.0, omega (arith, two-pow-succ p.0))

-- a number of which one bit is set is a power of two
one_bit : (d n last : ℕ) → n ≤ d → last ≡ n % 2 → count_ones n ≡ 1 → IsPowerOfTwo n
one_bit zero n last h l e = absurd (omega (arith, ones_le_self n))
one_bit (suc d) n zero h l e =
    let step = ones_step n in
    twice n (n / 2) (omega arith) refl (one_bit d (n / 2) (n / 2 % 2) (omega arith) refl (omega arith))
one_bit (suc d) n (suc last) h l e =
    let step = ones_step n in
    let half = zero_from_ones (n / 2) (omega arith) in
    (0, omega arith)

pub power_of_one_bit : (n : ℕ) → count_ones n ≡ 1 → IsPowerOfTwo n
power_of_one_bit n = one_bit n n (n % 2) (omega arith) refl

-- the defaults are within their limits
pub defaults : IsPlan (plan_of no_options)
defaults = record { workers = (omega arith, omega arith); buckets = ((10, refl), omega arith); mem = (omega arith, omega arith) }

-- options are read by their first name and value, and then by the words that are left
pub reads_on : (given more : Options) (ws : List (String Global)) (name value : String Global) → 2 ≤ length ws → name ≡ get_or ws 0 name → value ≡ get_or ws 1 value
    → Some more ≡ add_option given (string_bytes name) (string_bytes value)
    → read_options more (map string_bytes (take (length ws - 2) (drop 2 ws))) ≡ read_options given (map string_bytes ws)
unfolding read_options
reads_on given more [] name value few h0 h1 e = absurd (omega arith)
reads_on given more (w0 ∷ []) name value few h0 h1 e = absurd (omega arith)
reads_on given more (w0 ∷ w1 ∷ ws) name value few h0 h1 e =
    rw (take_all (length (w0 ∷ w1 ∷ ws) - 2) ws (omega arith), ← h0, ← h1, ← e) refl
