-- A backend is on at most one condition's list, once, and that condition is its target, or it is broadcasting on it.
use Rattle.std.specs.Prelude.{ℕ, ◌<◌, ◌≤◌, List}
use Rattle.seat_roster.specs.Totals.{total}
use Rattle.wait_core.specs.Stances.{Stance, Homes, times_on, belongs_to}

-- who is on a list belongs there. A seat belongs to one condition at most, so it is on one list at most, once
abbrev pub ListedWhereItBelongs : ℕ → ℕ → Homes → List Stance → Type 0
ListedWhereItBelongs p x homes seats = times_on p x homes seats ≤ total (belongs_to p x) seats

abbrev pub TargetsAreListed : ℕ → Homes → List Stance → Type 0
TargetsAreListed slots homes seats = (p x : ℕ) → x < slots → ListedWhereItBelongs p x homes seats
