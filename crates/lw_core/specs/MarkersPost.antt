-- Who takes a backend off a list owes it a post until its waiting field is cleared; and a backend keeps no more wakes than it was poked.
use Rattle.std.specs.Prelude.{◌≡◌, ℕ, ◌+◌, ◌<◌, ◌≤◌, List}
use mathlib.Core.Option as maybe
use lib.ListN.{get_elem?}
use Rattle.seat_roster.specs.Totals.{total}
use Rattle.seat_roster.specs.Roster as roster
use Rattle.lw_core.specs.declared.view.Size.{Size}
use Rattle.lw_core.specs.WaitLists.{times_on}
use Rattle.lw_core.specs.Stances.{Stance, own_amount}

-- whom the seat took off a list and hasn't cleared the waiting field of, it hasn't posted either
abbrev pub PostsMarked : Stance → Type 0
PostsMarked v = (p : ℕ) → times_on p v.unlisted ≤ times_on p v.owed

-- the wakes that p has to give back, and those that ended a `down` of its own
abbrev pub spares : ℕ → Stance → ℕ
spares p v = own_amount p v.own v.surplus + roster.times p v.downed

abbrev pub poked_times : ℕ → Stance → ℕ
poked_times p v = roster.times p v.poked

pub record MarkersPost (z : Size) (seats : List Stance) : Type 0 where
  pub posts : (id : ℕ) (v : Stance) → get_elem? seats id ≡ maybe.some v → PostsMarked v
  pub poked : (p : ℕ) → p < z.procs → total (spares p) seats ≤ total (poked_times p) seats
