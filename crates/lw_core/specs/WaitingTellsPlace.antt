-- What a backend's waiting field says.
use Rattle.std.specs.Prelude.{◌≡◌, ℕ, ◌+◌, ◌*◌, ◌<◌, List, slice_index}
use mathlib.Core.Option as maybe
use Rattle.seat_roster.specs.Totals.{total}
use Rattle.lw_core.specs.declared.view.Size.{Size}
use Rattle.lw_core.specs.Words.{Waiters, waiting_at}
use Rattle.lw_core.specs.WaitLists.{times_on}
use Rattle.lw_core.specs.Stances.{Stance, is_own, count_if, on_lists}

-- what a seat adds to the field of p: 1 where it is p and announced that it waits, 1 more where it marked p on the list in hand, and 2 where it took p off and p is still marked
abbrev pub adds_to : ℕ → Stance → ℕ
adds_to p v = count_if v.announced (is_own p v.own) + (times_on p v.marked + 2 * times_on p v.unlisted)

-- The field is 1 where the backend is on a list, or announced that it waits. It is 2 where somebody marked it, on the list or off it; and else 0
abbrev pub WaitingTellsPlace : Size → List ℕ → List (maybe.Option Waiters) → List Stance → Type 0
WaitingTellsPlace z words homes seats = (p : ℕ) → p < z.procs → slice_index words (waiting_at z p) ≡ on_lists p homes seats + total (adds_to p) seats
