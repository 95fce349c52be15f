-- A lock's state word counts the seats that hold the lock.
use Rattle.std.specs.Prelude.{◌≡◌, ℕ, ◌+◌, ◌*◌, ◌^◌, ◌<◌, List, Option, None, Some}
use Rattle.proc_table.specs.declared.Mode.{Mode}
use Rattle.proc_table.specs.declared.Mode.TheVariants.{Shared, Exclusive}
use Rattle.seat_roster.specs.Totals.{total}
use Rattle.lw_core.specs.Words.{lock_part}

-- 1 where the lock is held in the mode
abbrev pub is_shared : Option Mode → ℕ
is_shared None = 0
is_shared (Some Shared) = 1
is_shared (Some Exclusive) = 0

abbrev pub is_exclusive : Option Mode → ℕ
is_exclusive None = 0
is_exclusive (Some Shared) = 0
is_exclusive (Some Exclusive) = 1

-- Of one lock, with the mode in which each seat holds it: the lock part of its word is 2^24 times the number of exclusive holders plus the number of shared holders, and an exclusive holder is the only holder
pub record CountsHolders (word : ℕ) (modes : List (Option Mode)) : Type 0 where
  pub fits : word < 2 ^ 32
  pub counted : lock_part word ≡ 0x0100_0000 * total is_exclusive modes + total is_shared modes
  pub alone : 0 < total is_exclusive modes → total is_exclusive modes + total is_shared modes ≡ 1
