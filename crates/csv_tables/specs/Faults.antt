-- Counts of faults, and what an answer of a call leaves of them and of a side.
use Rattle.std.specs.Prelude.{◌≡◌, ◌+◌, ◌-◌, ◌^◌, ◌≤◌, ℕ, min, List, Option, Result, OnOk, OnErr}
use Rattle.row_model.specs.declared.Side.{Side}

-- a count is greater than before, or stands at its end
abbrev pub Rose : ℕ → ℕ → Type 0
Rose before now = min (before + 1) (2 ^ 64 - 1) ≤ now

-- a count never falls, rises where the call fails, and stays where it does not
pub record HasCause {T E : Type 0} (before now : ℕ) (result : Result T E) : Type 0 where
  pub later : before ≤ now
  pub failed : OnErr result (Rose before now)
  pub kept : OnOk result (now ≡ before)

-- a count never falls, and stays where the call does not fail
pub record KeepsCount {T E : Type 0} (before now : ℕ) (result : Result T E) : Type 0 where
  pub later : before ≤ now
  pub kept : OnOk result (now ≡ before)

-- nothing of a side has changed: neither what is left on it, nor what may be asked of it, nor its counts
pub record KeepsSide {I : Type 0} (left : I → Side → Option (List ℕ)) (may_open : I → Side → List ℕ → Type 0) (may_read : I → Side → Type 0) (opens reads : I → Side → ℕ) (old new : I) (side : Side) : Type 0 where
  pub left_kept : left new side ≡ left old side
  pub may_open_kept : (name : List ℕ) → may_open old side name → may_open new side name
  pub may_read_kept : may_read old side → may_read new side
  pub opens_kept : opens new side ≡ opens old side
  pub reads_kept : reads new side ≡ reads old side
