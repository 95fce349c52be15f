-- A number is a power of two in one way.
use Rattle.std.proofs.Common.{◌≡◌, ℕ, ◌^◌, refl, sym, ap, ◌∙◌, subst, arith}
use Rattle.std.proofs.Props.{props}
use Rattle.std.proofs.Math.Path.{Σ_path}
use Rattle.std.proofs.lemmas.Nat.Bits.{bit_at-pow_same, bit_at-pow_other}
use mathlib.Core.HLevel.{is_prop→PathP}
use mathlib.Core.Logic.{dite}
use native.Mathlib.Decide.{ℕ_discrete}
use Rattle.std.specs.Int.{IsPowerOfTwo, bit_at}

same_exponent : (k l : ℕ) → 2 ^ k ≡ 2 ^ l → k ≡ l
same_exponent k l same = dite (ℕ_discrete k l) (λ e. e)
    (λ other. let one : bit_at (2 ^ k) k ≡ 1 = bit_at-pow_same k in let none : bit_at (2 ^ k) k ≡ 0 = ap (λ n. bit_at n k) same ∙ bit_at-pow_other l k other in absurd (omega arith))

pub power_in_one_way : (n : ℕ) → IsProp (IsPowerOfTwo n)
power_in_one_way n a b = Σ_path (same_exponent a.0 b.0 (sym a.1 ∙ b.1)) (is_prop→PathP (λ i. n ≡ 2 ^ same_exponent a.0 b.0 (sym a.1 ∙ b.1) i) (λ i. Prim.hlevel props) a.1 b.1)
