-- The counts of the semaphores balance with what is owed, with what is to be given back, with those who wait and with those who were poked.
use Rattle.std.specs.Prelude.{◌≡◌, ℕ, ◌+◌, ◌<◌, ◌≤◌, List, slice_index}
use mathlib.Core.Option as maybe
use Rattle.seat_roster.specs.Totals.{total}
use Rattle.seat_roster.specs.Roster as roster
use Rattle.lw_core.specs.declared.view.Size.{Size}
use Rattle.lw_core.specs.Words.{Waiters, sem_at}
use Rattle.lw_core.specs.WaitLists.{times_on}
use Rattle.lw_core.specs.Stances.{Stance, is_own, own_amount, count_if, on_lists, in_round}

-- what a seat adds to one side for p: the posts that it owes p; and where it is p, its surplus, and 1 where it took the semaphore down in a sleep and hasn't read its waiting field since; and each `down` of p that ended
abbrev pub spends : ℕ → Stance → ℕ
spends p v = times_on p v.owed + (count_if v.between (is_own p v.own) + (own_amount p v.own v.surplus + roster.times p v.downed))

-- and to the other: each poke of p, and 1 where p is in a round
abbrev pub earns : ℕ → Stance → ℕ
earns p v = roster.times p v.poked + in_round p v

-- who is in a round and on no list has been taken off
abbrev pub Balances : Size → List ℕ → List (maybe.Option Waiters) → List Stance → ℕ → Type 0
Balances z words homes seats p = slice_index words (sem_at z p) + (total (spends p) seats + on_lists p homes seats) ≡ total (earns p) seats

-- 1 where p will take its semaphore down, which it found not to be 0
abbrev pub takes_down : ℕ → Stance → ℕ
takes_down p v = count_if v.downing (is_own p v.own)

pub record WakesAreConserved (z : Size) (words : List ℕ) (homes : List (maybe.Option Waiters)) (seats : List Stance) : Type 0 where
  pub balance : (p : ℕ) → p < z.procs → Balances z words homes seats p
  pub there : (p : ℕ) → p < z.procs → total (takes_down p) seats ≤ slice_index words (sem_at z p)
