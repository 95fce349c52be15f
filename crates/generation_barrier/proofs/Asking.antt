-- What is asked, kind by kind; and what is put back, bit by bit.
use Rattle.std.proofs.Common.{◌≡◌, ℕ, suc, ◌+◌, ◌/◌, ◌^◌, bit_and, bit_or, Bool, sym, ap, ◌∙◌, subst, arith}
use Rattle.std.specs.Int.{bit_at}
use Rattle.std.proofs.lemmas.Nat.Bits.{shr_and_one, bit_at_or, bit_at-pow_other, bit_at-lt}
use mathlib.Core.Logic.{dite}
use native.Mathlib.Decide.{ℕ_discrete}
use Rattle.signal_core.specs.Machine.{IsPart}
use Rattle.generation_barrier.specs.Absorbing.{Asks, AsksOne}

module _ {A : Type 0} (meets : A → ℕ → Bool → A → Type 0) where
  pub asks_more : (found n : ℕ) (a : A) (failed : ℕ) (m : A) (x : ℕ) (b : A) → Asks meets found n a failed m → AsksOne meets found n m failed x b → Asks meets found (n + 1) a x b
  asks_more found n a failed m x b before one = let e : suc n ≡ n + 1 = omega arith in subst (λ (y : ℕ). Asks meets found y a x b) e (m, failed, before, one)

-- the test of a bit
pub bit_test : (n k : ℕ) → bit_and (n / 2 ^ k) 1 ≡ 1 → bit_at n k ≡ 1
bit_test n k e = sym (shr_and_one n k) ∙ e

pub bit_untest : (n k : ℕ) → (bit_and (n / 2 ^ k) 1 ≡ 1 → ⊥) → bit_at n k ≡ 0
bit_untest n k ne = let a = shr_and_one n k in let b = bit_at-lt n k in dite (ℕ_discrete (bit_at n k) 0) (λ e. e) (λ some. absurd (ne (omega arith)))

-- a kind that was found failed
pub part_more : (failed found k : ℕ) → IsPart failed found → bit_at found k ≡ 1 → IsPart (bit_or failed (2 ^ k)) found
part_more failed found k part has j = let a = bit_at_or failed (2 ^ k) j in let b = part j in dite (ℕ_discrete j k)
    (λ is. let c : bit_at found j ≡ bit_at found k = ap (bit_at found) is in let d = bit_at-lt failed j in let e = bit_at-lt (2 ^ k) j in omega arith)
    (λ ne. let c = bit_at-pow_other k j ne in omega arith)
