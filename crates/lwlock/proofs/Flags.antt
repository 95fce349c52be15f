-- Flags of a state word as a mask finds them.
use Rattle.std.proofs.Common.{◌≡◌, ℕ, ◌*◌, ◌^◌, ◌<◌, Bool, true, false, cond, not, eqb, bit_and, bit_or, sym, ap, ◌∙◌, arith, eq-eqb, ne_eqb}
use Rattle.std.proofs.lemmas.Nat.{and_mask}
use Rattle.std.proofs.lemmas.Nat.Bits.{and_pow}
use mathlib.Core.Logic.{dite}
use native.Mathlib.Decide.{ℕ_discrete}
use Rattle.lw_core.specs.Words.{has_waiters, release_ok, locked, has_flag, clear_flag, lock_part}
use Rattle.lw_core.specs.Machine.{calls_for_wake}
use Rattle.lw_core.proofs.Flags.{and_flag, and_locked, or_ok, clear_le}
use Rattle.lwlock.specs.Wakes.{answered_to, woken_to}

set_or_not : (flag masked : ℕ) → (flag ≡ 1 → masked ≡ 0 → flag ≡ 0) → (flag ≡ 0 → masked ≡ 0) → flag < 2 → eqb flag 1 ≡ not (eqb masked 0)
set_or_not flag masked some none small = dite (ℕ_discrete flag 1)
    (λ one. eq-eqb flag 1 one ∙ ap not (sym (ne_eqb masked 0 (λ z. let z' : flag ≡ 0 = some one z in absurd (omega arith)))))
    (λ other. ne_eqb flag 1 other ∙ ap not (sym (eq-eqb masked 0 (none (omega arith)))))

masked_waiters : (w : ℕ) → eqb (has_flag has_waiters w) 1 ≡ not (eqb (bit_and w 0x4000_0000) 0)
masked_waiters w = let e : bit_and w 0x4000_0000 ≡ has_flag has_waiters w * 0x4000_0000 = and_pow w 30 in set_or_not (has_flag has_waiters w) (bit_and w 0x4000_0000) (λ one none. omega arith) (λ none. omega arith) (omega arith)

masked_ok : (w : ℕ) → eqb (has_flag release_ok w) 1 ≡ not (eqb (bit_and w 0x2000_0000) 0)
masked_ok w = let e : bit_and w 0x2000_0000 ≡ has_flag release_ok w * 0x2000_0000 = and_pow w 29 in set_or_not (has_flag release_ok w) (bit_and w 0x2000_0000) (λ one none. omega arith) (λ none. omega arith) (omega arith)

-- a release calls for a wake as three masks say
pub calls_by_masks : (w : ℕ) → calls_for_wake w ≡ cond (not (eqb (bit_and w 0x4000_0000) 0)) (cond (not (eqb (bit_and w 0x2000_0000) 0)) (eqb (bit_and w 0x01ff_ffff) 0) false) false
calls_by_masks w = let part : lock_part w ≡ bit_and w 0x01ff_ffff = sym (and_mask w 25) in λ i. cond (masked_waiters w i) (cond (masked_ok w i) (eqb (part i) 0) false) false

-- the word after a wake, flag by flag
pub answered_locker : (w : ℕ) → w < 2 ^ 32 → bit_and (bit_and w 0xffff_ffff_efff_ffff) 0xffff_ffff_dfff_ffff ≡ answered_to w true
answered_locker w small = let le = clear_le locked w in ap (λ (x : ℕ). bit_and x 0xffff_ffff_dfff_ffff) (and_locked w (omega arith)) ∙ and_flag 29 (clear_flag locked w) (omega arith) (omega arith)

pub answered_other : (w : ℕ) → w < 2 ^ 32 → bit_or (bit_and w 0xffff_ffff_efff_ffff) 0x2000_0000 ≡ answered_to w false
answered_other w small = ap (λ (x : ℕ). bit_or x 0x2000_0000) (and_locked w (omega arith)) ∙ or_ok (clear_flag locked w)

answered_small : (w : ℕ) (locker : Bool) → w < 2 ^ 32 → answered_to w locker < 2 ^ 64
answered_small w true small = let a = clear_le locked w in let b = clear_le release_ok (clear_flag locked w) in omega arith
answered_small w false small = let a = clear_le locked w in omega arith

pub woken_none : (w answered : ℕ) (locker : Bool) → w < 2 ^ 32 → answered ≡ answered_to w locker → bit_and answered 0xffff_ffff_bfff_ffff ≡ woken_to w locker true
woken_none w answered locker small is = ap (λ (x : ℕ). bit_and x 0xffff_ffff_bfff_ffff) is ∙ and_flag 30 (answered_to w locker) (omega arith) (answered_small w locker small)
