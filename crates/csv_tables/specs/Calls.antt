-- Which calls fail of inputs and of a sink in memory, and how much one call moves.
use Rattle.std.specs.Prelude.{◌≡◌, ℕ, ◌+◌, ◌-◌, ◌^◌, min, Bool, ◌||◌, nat_eq, nat_le, List, length, Option, IsSome, is_none}
use Rattle.std.specs.List.{list_any}
use Rattle.row_model.specs.declared.Side.{Side}
use Rattle.csv_tables.specs.Faults.{KeepsSide}
use Rattle.csv_tables.specs.Memory.{Readable, Written, held_in, left_of}
use Rattle.csv_tables.specs.Sides.{at_side}

-- the number of the call after so many; counts stand still at 2^64 - 1
abbrev pub next_call : ℕ → ℕ
next_call calls = min (calls + 1) (2 ^ 64 - 1)

-- the call with this number is to fail
abbrev pub is_listed : ℕ → List ℕ → Bool
is_listed call failing = list_any (λ k. nat_eq k call) failing

-- of a side: what is left to read, whether it is open, and how many opens and how many reads failed
abbrev pub left_at : Readable → Side → Option (List ℕ)
left_at inputs side = left_of inputs.files (at_side side inputs.inner inputs.outer)

abbrev pub IsOpen : Readable → Side → Type 0
IsOpen inputs side = IsSome (at_side side inputs.inner inputs.outer)

abbrev pub opens_at : Readable → Side → ℕ
opens_at inputs side = at_side side inputs.inner_opens inputs.outer_opens

abbrev pub reads_at : Readable → Side → ℕ
reads_at inputs side = at_side side inputs.inner_reads inputs.outer_reads

-- what was held before is held, the same calls are to fail, and a read gives as much
abbrev pub IsAsMade : Readable → Readable → Type 0
IsAsMade old new = (new.files ≡ old.files) × (new.failing ≡ old.failing) × (new.piece ≡ old.piece)

-- nothing of a side has changed
abbrev pub LeavesSide : Readable → Readable → Side → Type 0
LeavesSide old new side = KeepsSide left_at (λ _ _ _. Unit {0}) IsOpen opens_at reads_at old new side

-- the next read fails, and the next open of a name
abbrev pub fails_to_read : Readable → Bool
fails_to_read inputs = is_listed (next_call inputs.calls) inputs.failing

abbrev pub fails_to_open : Readable → List ℕ → Bool
fails_to_open inputs name = fails_to_read inputs || is_none (held_in inputs.files name)

-- the next write to the sink fails
abbrev pub fails_to_write : Written → Bool
fails_to_write s = is_listed (next_call s.calls) s.failing || nat_le s.room (length s.bytes)

-- how many bytes the next write takes of so many
abbrev pub count_taken : Written → ℕ → ℕ
count_taken s n = min (min n s.piece) (s.room - length s.bytes)
