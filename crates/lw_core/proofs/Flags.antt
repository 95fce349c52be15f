-- Lemmas on the flags of a state word.
use Rattle.std.proofs.Common.{◌≡◌, ℕ, zero, suc, ◌+◌, ◌-◌, ◌*◌, ◌^◌, ◌<◌, ◌≤◌, eqb, Bool, true, false, cond, List, bit_and, bit_or, sym, ap, ◌∙◌, subst, arith}
use Rattle.std.specs.Int.{bit_at}
use Rattle.std.specs.Int.Bits.{bit_xor, or_add_and, xor_add_and, and_self}
use Rattle.std.proofs.lemmas.Bool.{eqb-false}
use Rattle.std.proofs.lemmas.Nat.{and-not, and_comm, and_assoc, or_lt, pow_below, pow-add}
use Rattle.std.proofs.lemmas.Nat.Bits.{and_pow, bit_at_or, bit_at_and, bit_at_xor, bit_at-pow_same, bit_at-pow_other, bit_at-lt}
use Rattle.lw_core.specs.declared.view.Waiter.{Waiter}
use Rattle.lw_core.specs.Words.{locked, release_ok, has_waiters, has_flag, set_flag, clear_flag, lock_part}
use Rattle.lw_core.specs.WaitLists.{has_locker, is_empty}
use Rattle.lw_core.specs.Machine.{woken_word}

pub flag_most : (f w : ℕ) → has_flag f w ≤ 1
flag_most f w = omega arith

-- A FLAG AS A BIT. LOCKED is bit 28, RELEASE_OK 29 and HAS_WAITERS 30. A bit is 0 or 1
on_bit : (h : ℕ) → h < 2 → (P : ℕ → Type 0) → P 0 → P 1 → P h
on_bit zero below P none one = none
on_bit (suc zero) below P none one = one
on_bit (suc (suc h)) below P none one = absurd (omega arith)

-- the bit k is set by an `or`, and cleared by an `xor` with itself
or_flag : (k w : ℕ) → bit_or w (2 ^ k) ≡ set_flag (2 ^ k) w
or_flag k w = let sum = or_add_and w (2 ^ k) in
    on_bit (bit_at w k) (bit_at-lt w k) (λ (h : ℕ). bit_and w (2 ^ k) ≡ h * 2 ^ k → bit_or w (2 ^ k) ≡ w + 2 ^ k * (1 - h)) (λ bit. omega arith) (λ bit. omega arith) (and_pow w k)

xor_and : (k w : ℕ) → bit_xor w (bit_and w (2 ^ k)) + bit_and w (2 ^ k) ≡ w
xor_and k w = let sum = xor_add_and w (bit_and w (2 ^ k)) in let twice = sym (and_assoc (2 ^ k) w w) ∙ ap (λ (n : ℕ). bit_and n (2 ^ k)) (and_self w) in omega arith

xor_flag : (k w : ℕ) → bit_xor w (bit_and w (2 ^ k)) ≡ clear_flag (2 ^ k) w
xor_flag k w = let sum = xor_and k w in let bit = and_pow w k in omega arith

-- a flag that is set or cleared
pub flag_set : (k w : ℕ) → has_flag (2 ^ k) (set_flag (2 ^ k) w) ≡ 1
flag_set k w = ap (λ (n : ℕ). bit_at n k) (sym (or_flag k w)) ∙ omega (arith, bit_at_or w (2 ^ k) k, bit_at-pow_same k)

pub flag_cleared : (k w : ℕ) → has_flag (2 ^ k) (clear_flag (2 ^ k) w) ≡ 0
flag_cleared k w = ap (λ (n : ℕ). bit_at n k) (sym (xor_flag k w)) ∙ omega (arith, bit_at_xor w (bit_and w (2 ^ k)) k, bit_at_and w (2 ^ k) k, bit_at-pow_same k)

-- and another flag with it
pub set_keeps : (k j w : ℕ) → eqb j k ≡ false → has_flag (2 ^ j) (set_flag (2 ^ k) w) ≡ has_flag (2 ^ j) w
set_keeps k j w apart = ap (λ (n : ℕ). bit_at n j) (sym (or_flag k w)) ∙ omega (arith, bit_at_or w (2 ^ k) j, bit_at-pow_other k j (eqb-false j k apart))

pub clear_keeps : (k j w : ℕ) → eqb j k ≡ false → has_flag (2 ^ j) (clear_flag (2 ^ k) w) ≡ has_flag (2 ^ j) w
clear_keeps k j w apart = ap (λ (n : ℕ). bit_at n j) (sym (xor_flag k w)) ∙ omega (arith, bit_at_xor w (bit_and w (2 ^ k)) j, bit_at_and w (2 ^ k) j, bit_at-pow_other k j (eqb-false j k apart))

-- the word after a wake, whatever the wake took and kept
abbrev woken_by : ℕ → Bool → Bool → ℕ
woken_by w locker none = let answered : ℕ = cond locker (clear_flag release_ok (clear_flag locked w)) (set_flag release_ok (clear_flag locked w)) in cond none (clear_flag has_waiters answered) answered

unlocked_by : (w : ℕ) (locker none : Bool) → has_flag locked (woken_by w locker none) ≡ 0
unlocked_by w true true = omega arith
unlocked_by w true false = omega arith
unlocked_by w false true = omega arith
unlocked_by w false false = omega arith

pub woken_unlocked : (took kept : List Waiter) (w : ℕ) → has_flag locked (woken_word took kept w) ≡ 0
woken_unlocked took kept w = unlocked_by w (has_locker took) (is_empty kept)

ok_by : (w : ℕ) (none : Bool) → has_flag release_ok (woken_by w false none) ≡ 1
ok_by w true = omega arith
ok_by w false = omega arith

pub woken_ok : (took kept : List Waiter) (w : ℕ) → has_locker took ≡ false → has_flag release_ok (woken_word took kept w) ≡ 1
woken_ok took kept w e = subst (λ (b : Bool). has_flag release_ok (woken_by w b (is_empty kept)) ≡ 1) (sym e) (ok_by w (is_empty kept))

waiters_by : (w : ℕ) (locker : Bool) → has_flag has_waiters (woken_by w locker false) ≡ has_flag has_waiters w
waiters_by w true = omega arith
waiters_by w false = omega arith

pub woken_waiters : (took kept : List Waiter) (w : ℕ) → is_empty kept ≡ false → has_flag has_waiters (woken_word took kept w) ≡ has_flag has_waiters w
woken_waiters took kept w e = subst (λ (b : Bool). has_flag has_waiters (woken_by w (has_locker took) b) ≡ has_flag has_waiters w) (sym e) (waiters_by w (has_locker took))

cleared_by : (w : ℕ) (none : Bool) → has_flag release_ok (woken_by w true none) ≡ 0
cleared_by w true = omega arith
cleared_by w false = omega arith

pub woken_cleared : (took kept : List Waiter) (w : ℕ) → has_locker took ≡ true → has_flag release_ok (woken_word took kept w) ≡ 0
woken_cleared took kept w e = subst (λ (b : Bool). has_flag release_ok (woken_by w b (is_empty kept)) ≡ 0) (sym e) (cleared_by w (is_empty kept))

emptied_by : (w : ℕ) (locker : Bool) → has_flag has_waiters (woken_by w locker true) ≡ 0
emptied_by w true = omega arith
emptied_by w false = omega arith

pub woken_emptied : (took kept : List Waiter) (w : ℕ) → is_empty kept ≡ true → has_flag has_waiters (woken_word took kept w) ≡ 0
woken_emptied took kept w e = subst (λ (b : Bool). has_flag has_waiters (woken_by w (has_locker took) b) ≡ 0) (sym e) (emptied_by w (has_locker took))

-- the lock part stays, below the flags
part_above : (k : ℕ) → 25 ≤ k → 2 ^ k ≡ 2 ^ (k - 25) * 0x0200_0000
part_above k high = let parts : k ≡ k - 25 + 25 = omega arith in ap (λ (n : ℕ). 2 ^ n) parts ∙ pow-add 2 (k - 25) 25

pub part_set : (k w : ℕ) → 25 ≤ k → lock_part (set_flag (2 ^ k) w) ≡ lock_part w
part_set k w high = let above = part_above k high in on_bit (bit_at w k) (bit_at-lt w k) (λ (h : ℕ). lock_part (w + 2 ^ k * (1 - h)) ≡ lock_part w) (omega arith) (omega arith)

part_clear : (k w : ℕ) → 25 ≤ k → lock_part (clear_flag (2 ^ k) w) ≡ lock_part w
part_clear k w high = let above = part_above k high in let sum = xor_and k w in
    on_bit (bit_at w k) (bit_at-lt w k) (λ (h : ℕ). bit_and w (2 ^ k) ≡ h * 2 ^ k → lock_part (w - 2 ^ k * h) ≡ lock_part w) (λ bit. omega arith) (λ bit. omega arith) (and_pow w k)

-- the word stays below 2 ^ 32
pub small_set : (k w : ℕ) → k < 32 → w < 2 ^ 32 → set_flag (2 ^ k) w < 2 ^ 32
small_set k w low small = subst (λ (n : ℕ). n < 2 ^ 32) (or_flag k w) (or_lt 32 w (2 ^ k) small (pow_below k 32 low))

pub clear_le : (f w : ℕ) → clear_flag f w ≤ w
clear_le f w = omega arith

part_by : (w : ℕ) (locker none : Bool) → lock_part (woken_by w locker none) ≡ lock_part w
part_by w true true = omega arith
part_by w true false = omega arith
part_by w false true = omega arith
part_by w false false = omega arith

pub part_woken : (took kept : List Waiter) (w : ℕ) → lock_part (woken_word took kept w) ≡ lock_part w
part_woken took kept w = part_by w (has_locker took) (is_empty kept)

small_by : (w : ℕ) (locker none : Bool) → w < 2 ^ 32 → woken_by w locker none < 2 ^ 32
small_by w true true small = omega arith
small_by w true false small = omega arith
small_by w false true small = omega arith
small_by w false false small = omega arith

pub small_woken : (took kept : List Waiter) (w : ℕ) → w < 2 ^ 32 → woken_word took kept w < 2 ^ 32
small_woken took kept w small = small_by w (has_locker took) (is_empty kept) small

-- the machine's operations on bits
pub or_locked : (w : ℕ) → bit_or w 0x1000_0000 ≡ set_flag locked w
or_locked w = or_flag 28 w

pub or_ok : (w : ℕ) → bit_or w 0x2000_0000 ≡ set_flag release_ok w
or_ok w = or_flag 29 w

pub or_waiters : (w : ℕ) → bit_or w 0x4000_0000 ≡ set_flag has_waiters w
or_waiters w = or_flag 30 w

pub and_flag : (k w : ℕ) → k < 64 → w < 2 ^ 64 → bit_and w (2 ^ 64 - 1 - 2 ^ k) ≡ clear_flag (2 ^ k) w
and_flag k w low small = let sum = and-not 64 (2 ^ k) w (pow_below k 64 low) small in let bit = and_pow w k in let a = and_comm w (2 ^ k) in let b = and_comm w (2 ^ 64 - 1 - 2 ^ k) in omega arith

pub and_locked : (w : ℕ) → w < 2 ^ 64 → bit_and w 0xffff_ffff_efff_ffff ≡ clear_flag locked w
and_locked w small = and_flag 28 w (omega arith) small

pub and_locked_waiters : (w : ℕ) → w < 2 ^ 64 → bit_and w 0xffff_ffff_afff_ffff ≡ clear_flag has_waiters (clear_flag locked w)
and_locked_waiters w small = let le = clear_le locked w in sym (and_assoc 0xffff_ffff_bfff_ffff w 0xffff_ffff_efff_ffff) ∙ (ap (λ (x : ℕ). bit_and x 0xffff_ffff_bfff_ffff) (and_locked w small) ∙ and_flag 30 (clear_flag locked w) (omega arith) (omega arith))

-- the word after the list went home
pub part_unlocked : (clears : Bool) (w : ℕ) → lock_part (cond clears (clear_flag has_waiters (clear_flag locked w)) (clear_flag locked w)) ≡ lock_part w
part_unlocked true w = part_clear 30 (clear_flag locked w) (omega arith) ∙ part_clear 28 w (omega arith)
part_unlocked false w = part_clear 28 w (omega arith)

pub small_unlocked : (clears : Bool) (w : ℕ) → w < 2 ^ 32 → cond clears (clear_flag has_waiters (clear_flag locked w)) (clear_flag locked w) < 2 ^ 32
small_unlocked true w small = let a = clear_le has_waiters (clear_flag locked w) in let b = clear_le locked w in omega arith
small_unlocked false w small = let b = clear_le locked w in omega arith
