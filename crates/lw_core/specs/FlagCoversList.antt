-- HAS_WAITERS is set while anybody is on the list, or is about to be.
use Rattle.std.specs.Prelude.{◌≡◌, ℕ, ◌+◌, ◌==◌, cond, List, length, Option, None, Some}
use Rattle.seat_roster.specs.Totals.{total}
use Rattle.lw_core.specs.declared.view.Waiter.{Waiter}
use Rattle.lw_core.specs.Words.{has_waiters, has_flag}
use Rattle.lw_core.specs.Stances.{Stance, Hand}

abbrev pub is_flag : ℕ → Option ℕ → ℕ
is_flag l None = 0
is_flag l (Some k) = cond (k == l) 1 0

abbrev pub hand_length : ℕ → Option Hand → ℕ
hand_length l None = 0
hand_length l (Some h) = cond (h.lock == l) (length h.list) 0

-- how many a seat has of l's list in hand, and itself where it set the flag to queue
abbrev pub waits_for : ℕ → Stance → ℕ
waits_for l v = hand_length l v.hand + is_flag l v.flagged

abbrev pub FlagCoversList : ℕ → ℕ → List Waiter → List Stance → Type 0
FlagCoversList l word home seats = has_flag has_waiters word ≡ 0 → length home + total (waits_for l) seats ≡ 0
