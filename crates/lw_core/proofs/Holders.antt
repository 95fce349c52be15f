-- Of one lock: its word counts its holders after a grant, after a release, and with one seat more. The lists are the modes in which each seat holds it.
use Rattle.std.proofs.Common.{◌≡◌, ◌≢◌, ℕ, ◌+◌, ◌-◌, ◌/◌, ◌%◌, ◌^◌, ◌<◌, ◌≤◌, true, List, [], ◌∷◌, ◌++◌, set, Option, None, Some, refl, ◌∙◌, arith}
use Rattle.std.proofs.lemmas.Bool.{eqb-true}
use mathlib.Core.Option as maybe
use lib.ListN.{get_elem?}
use Rattle.proc_table.specs.declared.Mode.{Mode}
use Rattle.proc_table.specs.declared.Mode.TheVariants.{Shared, Exclusive}
use Rattle.seat_roster.specs.Totals.{total}
use Rattle.lw_core.specs.Words.{grant_of, is_free, lock_part, Conflicts}
use Rattle.lw_core.specs.CountsHolders.{is_shared, is_exclusive, CountsHolders}
use Rattle.seat_roster.proofs.Totals.{total_set, total_snoc, total_at, total_two}

abbrev Modes : Type 0
Modes = List (Option Mode)

pub one_mode : (m : Option Mode) → is_shared m + is_exclusive m ≤ 1
one_mode None = omega arith
one_mode (Some Shared) = omega arith
one_mode (Some Exclusive) = omega arith

pub counts_granted : (modes : Modes) (id n : ℕ) (m : Mode) → get_elem? modes id ≡ maybe.some None → is_free m n ≡ true → total is_shared modes + total is_exclusive modes ≤ 64 → CountsHolders n modes → CountsHolders (n + grant_of m) (set modes id (Some m))
counts_granted modes id n Shared at free few c =
    let a = total_set is_shared modes id None (Some Shared) at in let b = total_set is_exclusive modes id None (Some Shared) at in
    let low : (n / 16777216) % 2 ≡ 0 = eqb-true _ _ free in let small = c.fits in let part = c.counted in let alone = c.alone in
    record { fits = omega arith; counted = omega arith; alone = λ some. omega arith }
counts_granted modes id n Exclusive at free few c =
    let a = total_set is_shared modes id None (Some Exclusive) at in let b = total_set is_exclusive modes id None (Some Exclusive) at in
    let low : n % 33554432 ≡ 0 = eqb-true _ _ free in let small = c.fits in let part = c.counted in let alone = c.alone in
    record { fits = omega arith; counted = omega arith; alone = λ some. omega arith }

-- a holder's grant is in the word
pub grant_below : (modes : Modes) (id n : ℕ) (m : Mode) → get_elem? modes id ≡ maybe.some (Some m) → CountsHolders n modes → grant_of m ≤ n
grant_below modes id n Shared at c = let a = total_at is_shared modes id (Some Shared) at in let part = c.counted in omega arith
grant_below modes id n Exclusive at c = let a = total_at is_exclusive modes id (Some Exclusive) at in let part = c.counted in omega arith

-- and in its lock part
pub part_holds : (modes : Modes) (id n : ℕ) (m : Mode) → get_elem? modes id ≡ maybe.some (Some m) → CountsHolders n modes → grant_of m ≤ lock_part n
part_holds modes id n Shared at c = let a = total_at is_shared modes id (Some Shared) at in let part = c.counted in omega arith
part_holds modes id n Exclusive at c = let a = total_at is_exclusive modes id (Some Exclusive) at in let part = c.counted in omega arith

-- nobody holds a lock whose lock part is 0
pub none_holds : (modes : Modes) (id n : ℕ) (o : Option Mode) → get_elem? modes id ≡ maybe.some o → CountsHolders n modes → lock_part n ≡ 0 → o ≡ None
none_holds modes id n None at c free = refl
none_holds modes id n (Some Shared) at c free = let a = part_holds modes id n Shared at c in absurd (omega arith)
none_holds modes id n (Some Exclusive) at c free = let a = part_holds modes id n Exclusive at c in absurd (omega arith)

pub counts_released : (modes : Modes) (id n : ℕ) (m : Mode) → get_elem? modes id ≡ maybe.some (Some m) → CountsHolders n modes → CountsHolders (n - grant_of m) (set modes id None)
counts_released modes id n Shared at c =
    let a = total_set is_shared modes id (Some Shared) None at in let b = total_set is_exclusive modes id (Some Shared) None at in
    let small = c.fits in let part = c.counted in let alone = c.alone in record { fits = omega arith; counted = omega arith; alone = λ some. omega arith }
counts_released modes id n Exclusive at c =
    let a = total_set is_shared modes id (Some Exclusive) None at in let b = total_set is_exclusive modes id (Some Exclusive) None at in
    let small = c.fits in let part = c.counted in let alone = c.alone in record { fits = omega arith; counted = omega arith; alone = λ some. omega arith }

-- the lock part of the word stays
pub counts_flagged : (modes : Modes) (n x : ℕ) → lock_part x ≡ lock_part n → x < 2 ^ 32 → CountsHolders n modes → CountsHolders x modes
counts_flagged modes n x part small c = record { fits = small; counted = part ∙ c.counted; alone = c.alone }

pub counts_more : (modes : Modes) (n : ℕ) → CountsHolders n modes → CountsHolders n (modes ++ None ∷ [])
counts_more modes n c = let a = total_snoc is_shared modes None in let b = total_snoc is_exclusive modes None in let part = c.counted in let alone = c.alone in
    record { fits = c.fits; counted = omega arith; alone = λ some. omega arith }

-- two seats don't hold the lock in conflicting modes
pub holders_agree : (modes : Modes) (i j n : ℕ) (m k : Mode) → j ≢ i → get_elem? modes i ≡ maybe.some (Some m) → get_elem? modes j ≡ maybe.some (Some k) → CountsHolders n modes → Conflicts m k → ⊥
holders_agree modes i j n Shared Shared apart at there c h = h
holders_agree modes i j n Shared Exclusive apart at there c h =
    let a = total_at is_shared modes i (Some Shared) at in let b = total_at is_exclusive modes j (Some Exclusive) there in let one = c.alone (omega arith) in omega arith
holders_agree modes i j n Exclusive Shared apart at there c h =
    let a = total_at is_exclusive modes i (Some Exclusive) at in let b = total_at is_shared modes j (Some Shared) there in let one = c.alone (omega arith) in omega arith
holders_agree modes i j n Exclusive Exclusive apart at there c h =
    let two = total_two is_exclusive modes i j (Some Exclusive) (Some Exclusive) apart at there in let one = c.alone (omega arith) in omega arith

-- beside an exclusive holder nobody holds the lock
pub alone_holds : (modes : Modes) (i j n : ℕ) (o : Option Mode) → j ≢ i → get_elem? modes i ≡ maybe.some (Some Exclusive) → get_elem? modes j ≡ maybe.some o → CountsHolders n modes → o ≡ None
alone_holds modes i j n None apart at there c = refl
alone_holds modes i j n (Some k) apart at there c = absurd (holders_agree modes i j n Exclusive k apart at there c tt)
