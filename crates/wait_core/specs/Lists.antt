-- Lists of backends, the first to be woken at the head.
use Rattle.std.specs.Prelude.{ℕ, ◌<◌, ◌==◌, Bool, true, false, cond, List, [], ◌∷◌, ⊤}
use Rattle.seat_roster.specs.Roster.{times}

abbrev pub is_listed : ℕ → List ℕ → Bool
is_listed p [] = false
is_listed p (x ∷ xs) = cond (x == p) true (is_listed p xs)

abbrev pub is_empty : List ℕ → Bool
is_empty [] = true
is_empty (x ∷ xs) = false

-- the list without its head
abbrev pub rest_of : List ℕ → List ℕ
rest_of [] = []
rest_of (x ∷ xs) = xs

abbrev pub without : ℕ → List ℕ → List ℕ
without p [] = []
without p (x ∷ xs) = cond (x == p) (without p xs) (x ∷ without p xs)

-- how often q stands behind the first p
abbrev pub precedes : ℕ → ℕ → List ℕ → ℕ
precedes p q [] = 0
precedes p q (x ∷ xs) = cond (x == p) (times q xs) (precedes p q xs)

-- each backend on the list is one of the table's
abbrev pub AllBelow : ℕ → List ℕ → Type 0
AllBelow procs [] = ⊤
AllBelow procs (x ∷ xs) = (x < procs) × AllBelow procs xs
