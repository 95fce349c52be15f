-- The numbers of backends: seat 0 draws them, and each stands in exactly one view.
use Rattle.std.specs.Prelude.{◌≡◌, ◌⊎◌, ℕ, ◌+◌, ◌≤◌, ◌==◌, nat_lt, cond, List, [], ◌∷◌, ◌++◌, length, Option, None, Some}
use mathlib.Core.Option as maybe
use lib.ListN.{get_elem?}
use Rattle.seat_roster.specs.Totals.{total}

-- the numbers that a seat stands for: its own, one drawn for a seat that isn't split off yet, and those taken over from seats that were joined into it; and the last number that it drew
pub record Numbers : Type 0 where
  pub own : Option ℕ
  pub pending : Option ℕ
  pub taken : List ℕ
  pub drawn : ℕ

abbrev pub one_if : Option ℕ → ℕ
one_if None = 0
one_if (Some n) = 1

-- how many numbers a seat stands for
abbrev pub count : Numbers → ℕ
count v = one_if v.own + one_if v.pending + length v.taken

abbrev pub times_in : ℕ → Option ℕ → ℕ
times_in x None = 0
times_in x (Some y) = cond (y == x) 1 0

abbrev pub times : ℕ → List ℕ → ℕ
times x [] = 0
times x (y ∷ ys) = cond (y == x) 1 0 + times x ys

-- how often a seat stands for x
abbrev pub stands : ℕ → Numbers → ℕ
stands x v = times_in x v.own + times_in x v.pending + times x v.taken

abbrev pub once_below : ℕ → ℕ → ℕ
once_below x next = cond (nat_lt x next) 1 0

-- the seat with the number 0 comes first, and the next number is one more than it has drawn
pub record IsDrawer (next id : ℕ) (v : Numbers) : Type 0 where
  pub first : id ≡ 0
  pub up_to : next ≡ v.drawn + 1
  pub kept : (v.pending ≡ None) ⊎ (v.pending ≡ Some v.drawn)

-- Each number below the next stands in exactly one seat. Only the seat with the number 0 draws, and no other is ever given that number
pub record Roster (procs next : ℕ) (seats : List Numbers) : Type 0 where
  pub once : (x : ℕ) → total (stands x) seats ≡ once_below x next
  pub counted : total count seats ≡ next
  pub few : next ≤ procs
  pub drawer : (id : ℕ) (v : Numbers) → get_elem? seats id ≡ maybe.some v → v.own ≡ Some 0 → IsDrawer next id v
  pub later : (id : ℕ) (v : Numbers) → get_elem? seats id ≡ maybe.some v → v.pending ≡ Some 0 → ⊥

-- a seat with this number and no other
abbrev pub numbered : Option ℕ → Numbers
numbered own = record { own = own; pending = None; taken = []; drawn = 0 }

-- a seat draws the next number
abbrev pub drew : Numbers → Numbers
drew v = record v { pending = Some (v.drawn + 1); drawn = v.drawn + 1 }

-- what stays with a seat when the number drawn goes to a new one
abbrev pub gave : Numbers → Numbers
gave v = record v { pending = None }

abbrev pub listed : Option ℕ → List ℕ
listed None = []
listed (Some n) = n ∷ []

-- a seat takes over the numbers of another
abbrev pub took : Numbers → Numbers → Numbers
took v w = record v { taken = v.taken ++ (listed w.own ++ w.taken) }
