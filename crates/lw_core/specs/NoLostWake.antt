-- Of those who sleep: none is off every list with no wake pending; none is on the list of a lock that nobody holds, releases or answers for; and none is on the list of a lock whose variable changed already while nobody updates it.
use Rattle.std.specs.Prelude.{◌≡◌, ℕ, ◌<◌, ◌≤◌, true, map, slice_index, Some, None}
use mathlib.Core.Option as maybe
use lib.ListN.{get_elem?}
use Rattle.seat_roster.specs.Totals.{total}
use Rattle.lw_core.specs.declared.view.Frame.TheVariants.{Asleep}
use Rattle.lw_core.specs.declared.view.Size.{Size}
use Rattle.lw_core.specs.declared.view.View.{View}
use Rattle.lw_core.specs.Words.{var_at, sem_at}
use Rattle.lw_core.specs.WaitLists.{times_on}
use Rattle.lw_core.specs.Machine.{LwState, top, mode_in}
use Rattle.lw_core.specs.Stances.{Stance, on_lists, round_at, stance_of}
use Rattle.lw_core.specs.FreeLockIsAnswered.{committed_at, IsAnswered}
use Rattle.lw_core.specs.VariableIsAnnounced.{watch_of, sleeps_for_at, updates_at}

-- how many posts the backend p is owed
abbrev pub posts_owed : ℕ → LwState → ℕ
posts_owed p s = total (λ (u : Stance). times_on p u.owed) (map stance_of s.views)

-- No backend is asleep at its semaphore in a round, off every list, with no wake pending: then its semaphore isn't 0, or somebody owes it a post
abbrev pub NoWakeIsLost : Size → LwState → Type 0
NoWakeIsLost z s = (id p : ℕ) (v : View) → get_elem? s.views id ≡ maybe.some v → v.own ≡ Some p → top v.place ≡ Some Asleep → round_at v.place ≡ true → on_lists p s.homes (map stance_of s.views) ≡ 0
    → slice_index s.words (sem_at z p) ≡ 0 → posts_owed p s ≡ 0 → ⊥

-- nobody holds the lock
abbrev pub IsHeldByNobody : ℕ → LwState → Type 0
IsHeldByNobody l s = (i : ℕ) (u : View) → get_elem? s.views i ≡ maybe.some u → mode_in l u ≡ None

-- No lock that nobody holds has a backend on its list past the attempt or the look that found it taken, while nobody is releasing it or answering for it
abbrev pub NoFreeLockIsSleptFor : Size → LwState → Type 0
NoFreeLockIsSleptFor z s = (l : ℕ) → l < z.locks → IsHeldByNobody l s → (id p : ℕ) (v : View) → get_elem? s.views id ≡ maybe.some v
    → v.own ≡ Some p → committed_at v.place ≡ Some l → 1 ≤ on_lists p s.homes (map stance_of s.views) → IsAnswered l s.homes s.views

-- nobody stored the lock's variable and has still to call those who wait for it, or to let go of the lock and wake them
abbrev pub IsUpdatedByNobody : ℕ → LwState → Type 0
IsUpdatedByNobody l s = (i : ℕ) (u : View) → get_elem? s.views i ≡ maybe.some u → updates_at u.place ≡ Some l → ⊥

-- No backend that sleeps until a lock's variable isn't the old value is on a list while the variable is another and nobody updates the lock
abbrev pub NoStaleSleep : Size → LwState → Type 0
NoStaleSleep z s = (l old : ℕ) → l < z.locks → IsUpdatedByNobody l s → (slice_index s.words (var_at l) ≡ old → ⊥) → (id p : ℕ) (v : View) → get_elem? s.views id ≡ maybe.some v
    → v.own ≡ Some p → sleeps_for_at v.place ≡ watch_of l old → 1 ≤ on_lists p s.homes (map stance_of s.views) → ⊥
