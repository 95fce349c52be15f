-- Lemmas on masks, and on tests of a kind against a bound.
use Rattle.std.proofs.Common.{◌≡◌, ◌≢◌, ◌⊎◌, ℕ, ◌^◌, ◌<◌, ◌≤◌, nat_lt, bit_or, Bool, true, false, cond, List, length, get_or, set, refl, ap, ◌∙◌, inl, inr, arith, get_or-set_same, get_or-set_other}
use Rattle.std.proofs.lemmas.Bool.Decides.{nat_tests}
use Rattle.std.proofs.lemmas.Nat.Bits.{bit_at_or, bit_at-pow_same, bit_at-pow_other, bit_at-zero, bit_at-lt}
use mathlib.Core.Logic.{dite}
use native.Mathlib.Decide.{ℕ_discrete}
use Rattle.std.specs.Int.{bit_at}
use Rattle.signal_core.specs.Words.{mask_at}

-- a bit that is set
pub or_same : (n k : ℕ) → bit_at (bit_or n (2 ^ k)) k ≡ 1
or_same n k = let a = bit_at_or n (2 ^ k) k in let b = bit_at-pow_same k in let c = bit_at-lt n k in omega arith

pub or_other : (n k j : ℕ) → j ≢ k → bit_at (bit_or n (2 ^ k)) j ≡ bit_at n j
or_other n k j apart = let a = bit_at_or n (2 ^ k) j in let b = bit_at-pow_other k j apart in omega arith

pub or_most : (n k j : ℕ) → bit_at n j ≤ bit_at (bit_or n (2 ^ k)) j
or_most n k j = let a = bit_at_or n (2 ^ k) j in omega arith

-- a later bound leaves less
pub cut_le : (k a b x : ℕ) → a ≤ b → cond (nat_lt k b) 0 x ≤ cond (nat_lt k a) 0 x
cut_le k a b x le = by_case (nat_lt k a) (nat_lt k b) refl refl
  where
    by_case : (p q : Bool) → nat_lt k a ≡ p → nat_lt k b ≡ q → cond q 0 x ≤ cond p 0 x
    by_case p true ea eb = omega arith
    by_case false false ea eb = omega arith
    by_case true false ea eb = absurd (grind (arith, nat_tests, ea, eb, le))

pub cut_most : (b : Bool) (x : ℕ) → cond b 0 x ≤ x
cut_most true x = omega arith
cut_most false x = omega arith

pub lt_true : (k n : ℕ) → k < n → nat_lt k n ≡ true
lt_true k n h = grind (arith, nat_tests)

pub lt_false : (k n : ℕ) → n ≤ k → nat_lt k n ≡ false
lt_false k n h = grind (arith, nat_tests)

module _ (words : List ℕ) where
  -- another word than a mask
  pub mask_else : (s i x k : ℕ) → mask_at s ≢ i → bit_at (get_or (set words i x) (mask_at s) 0) k ≡ bit_at (get_or words (mask_at s) 0) k
  mask_else s i x k apart = ap (λ n. bit_at n k) (get_or-set_other words i (mask_at s) x 0 apart)

  -- a bit of a mask is set
  pub mask_or : (q j s k : ℕ) → mask_at q < length words → let n = get_or words (mask_at q) 0 in
      (bit_at (get_or (set words (mask_at q) (bit_or n (2 ^ j))) (mask_at s) 0) k ≤ bit_at (get_or words (mask_at s) 0) k) ⊎ ((s ≡ q) × (k ≡ j))
  mask_or q j s k wide = dite (ℕ_discrete s q)
      (λ is. dite (ℕ_discrete k j) (λ same. inr (is, same))
      (λ apart. inl (let n : ℕ = get_or words (mask_at q) 0 in let a = ap (λ (x : ℕ). bit_at (get_or (set words (mask_at q) (bit_or n (2 ^ j))) (mask_at x) 0) k) is in
      let b = ap (λ (x : ℕ). bit_at x k) (get_or-set_same words (mask_at q) (bit_or n (2 ^ j)) 0 wide) in let c = or_other n j k apart in
      let d = ap (λ (x : ℕ). bit_at (get_or words (mask_at x) 0) k) is in omega arith)))
      (λ ne. inl (let a = mask_else s (mask_at q) (bit_or (get_or words (mask_at q) 0) (2 ^ j)) k (λ e. ne (omega arith)) in omega arith))

  -- the bit stands
  pub mask_has : (q j : ℕ) → mask_at q < length words → bit_at (get_or (set words (mask_at q) (bit_or (get_or words (mask_at q) 0) (2 ^ j))) (mask_at q) 0) j ≡ 1
  mask_has q j wide = ap (λ (x : ℕ). bit_at x j) (get_or-set_same words (mask_at q) (bit_or (get_or words (mask_at q) 0) (2 ^ j)) 0 wide) ∙ or_same (get_or words (mask_at q) 0) j

  -- and no bit is lost
  pub mask_kept : (q j s k : ℕ) → mask_at q < length words → bit_at (get_or words (mask_at s) 0) k ≤ bit_at (get_or (set words (mask_at q) (bit_or (get_or words (mask_at q) 0) (2 ^ j))) (mask_at s) 0) k
  mask_kept q j s k wide = dite (ℕ_discrete s q)
      (λ is. let n : ℕ = get_or words (mask_at q) 0 in let a = ap (λ (x : ℕ). bit_at (get_or (set words (mask_at q) (bit_or n (2 ^ j))) (mask_at x) 0) k) is in
      let b = ap (λ (x : ℕ). bit_at x k) (get_or-set_same words (mask_at q) (bit_or n (2 ^ j)) 0 wide) in let c = or_most n j k in
      let d = ap (λ (x : ℕ). bit_at (get_or words (mask_at x) 0) k) is in omega arith)
      (λ ne. let a = mask_else s (mask_at q) (bit_or (get_or words (mask_at q) 0) (2 ^ j)) k (λ e. ne (omega arith)) in omega arith)

  -- the mask of q is cleared
  pub mask_clear : (q k : ℕ) → mask_at q < length words → bit_at (get_or (set words (mask_at q) 0) (mask_at q) 0) k ≡ 0
  mask_clear q k wide = ap (λ (x : ℕ). bit_at x k) (get_or-set_same words (mask_at q) 0 0 wide) ∙ bit_at-zero k

  pub mask_cleared : (q s k : ℕ) → mask_at q < length words → bit_at (get_or (set words (mask_at q) 0) (mask_at s) 0) k ≤ bit_at (get_or words (mask_at s) 0) k
  mask_cleared q s k wide = dite (ℕ_discrete s q)
      (λ is. let a = ap (λ (x : ℕ). bit_at (get_or (set words (mask_at q) 0) (mask_at x) 0) k) is in let b = mask_clear q k wide in omega arith)
      (λ ne. let a = mask_else s (mask_at q) 0 k (λ e. ne (omega arith)) in omega arith)
