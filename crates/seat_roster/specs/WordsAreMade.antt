-- Each word of a table is what the steps of its seats made of it.
use Rattle.std.specs.Prelude.{◌≡◌, ℕ, ◌+◌, ◌-◌, ◌<◌, ◌==◌, cond, List, map, slice_index}
use Rattle.seat_roster.specs.Totals.{total}

-- What a step that was made did, whatever its type: the word that it was on, where this backend made it, what it found there, and what it left
pub record Effect (M : Type 0) : Type 0 where
  pub word : ℕ → M → ℕ
  pub found : M → ℕ
  pub left : M → ℕ

-- these steps, each with the number of the backend that made it
abbrev pub signed : {M : Type 0} → ℕ → List M → List (ℕ × M)
signed by steps = map (λ m. (by, m)) steps

-- by how much a step raised the word i, and by how much it lowered it
abbrev pub raise : {M : Type 0} → Effect M → ℕ → ℕ × M → ℕ
raise e i s = cond (e.word s.0 s.1 == i) (e.left s.1 - e.found s.1) 0

abbrev pub lower : {M : Type 0} → Effect M → ℕ → ℕ × M → ℕ
lower e i s = cond (e.word s.0 s.1 == i) (e.found s.1 - e.left s.1) 0

-- Each seat has these steps. What a word below `count` was at the opening, and what all of them raised it by, is what it is now and what they lowered it by. Word 0 is the next number
abbrev pub AreMade : {M : Type 0} → Effect M → (ℕ → ℕ) → ℕ → List ℕ → List (List (ℕ × M)) → Type 0
AreMade e opened count words seats = (i : ℕ) → 0 < i → i < count → slice_index words i + total (total (lower e i)) seats ≡ opened i + total (total (raise e i)) seats
