-- What a backend of a buffer is doing.
use Rattle.std.specs.Prelude.{◌≡◌, ℕ, [], None, Some}
use Rattle.proc_table.specs.declared.Mode.TheVariants.{Exclusive}
use Rattle.lw_core.specs.declared.view.View.{View}
use Rattle.lw_core.specs.Machine.{mode_in}
use Rattle.bounded_buffer.specs.declared.Backend.{Backend}
use Rattle.bounded_buffer.specs.declared.Buffer.{Buffer}

-- it has its seats at the buffer's tables, and waits for no condition
abbrev pub IsAt : Buffer → Backend → Type 0
IsAt buffer backend = (backend.lock.table_id ≡ buffer.locks.table_id) × (backend.wait.table_id ≡ buffer.conditions.table_id)
    × (backend.wait.view.place ≡ []) × (backend.wait.view.target ≡ None)

-- and it doesn't have the buffer's lock
abbrev pub IsIdle : Buffer → Backend → Type 0
IsIdle buffer backend = IsAt buffer backend × (backend.lock.view.place ≡ []) × (mode_in buffer.lock backend.lock.view ≡ None)

-- a seat has the lock for itself
abbrev pub IsIn : ℕ → View → Type 0
IsIn lock v = (v.place ≡ []) × (mode_in lock v ≡ Some Exclusive)

abbrev pub IsHolding : Buffer → Backend → Type 0
IsHolding buffer backend = IsAt buffer backend × IsIn buffer.lock backend.lock.view

-- it has the number 0 at both tables, so it draws the others
abbrev pub IsFirst : Backend → Type 0
IsFirst backend = (backend.lock.view.own ≡ Some 0) × (backend.wait.view.own ≡ Some 0)
