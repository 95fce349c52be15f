-- The atomic operation behind each kind of step.
use Rattle.std.specs.Prelude.{ℕ, ◌+◌, ◌-◌, ◌%◌, ◌^◌, ◌==◌, bit_and, bit_or, cond, List, Bool}
use prog.Atomic.{either}
use mathlib.Core.Option as maybe
use Rattle.atomic_table.specs.Table.{Step, step, Allows}
use Rattle.lw_core.specs.declared.step.GuardOp.TheVariants as guard
use Rattle.lw_core.specs.declared.step.LwStep.{LwStep}
use Rattle.lw_core.specs.declared.step.LwStep.TheVariants.{Load, Grant, Refuse, Sub, Peek, Guard, Lock, VarLoad, VarStore, Unlock, Flag, WaitStore, WaitLoad, Wake, Post, Look, Down, SetReleaseOk}
use Rattle.lw_core.specs.declared.step.WordOp.{WordOp}
use Rattle.lw_core.specs.declared.step.WordOp.TheVariants as op
use Rattle.lw_core.specs.declared.view.Size.{Size}
use Rattle.lw_core.specs.Words.{Waiters, grant_of}
use Rattle.lw_core.specs.Rule.{Rule}
use Rattle.lw_core.specs.Told.{Sat, does}

-- what the operation makes of a word
abbrev pub result_of : WordOp → ℕ → ℕ
result_of op.Load n = n
result_of (op.Store value) n = value
result_of (op.Add by) n = (n + by) % 2 ^ 64
result_of (op.Sub by) n = (n + (2 ^ 64 - by)) % 2 ^ 64
result_of (op.And mask) n = bit_and n mask
result_of (op.Or bits) n = bit_or n bits
result_of (op.Change old new) n = either (n == old) new n

-- all bits but LOCKED, and all but LOCKED and HAS_WAITERS
abbrev pub unlocked_mask : Bool → ℕ
unlocked_mask clears = cond clears 0xffff_ffff_afff_ffff 0xffff_ffff_efff_ffff

-- the operation of a step
abbrev pub op_of : LwStep → WordOp
op_of (Load l b) = op.Load
op_of (Grant l m w) = op.Change w ((w + grant_of m) % 2 ^ 64)
op_of (Refuse l m w) = op.Change w w
op_of (Sub l m b) = op.Sub (grant_of m)
op_of (Peek l b) = op.Load
op_of (Guard l k guard.Load) = op.Load
op_of (Guard l k (guard.Store x)) = op.Store x
op_of (Lock l b) = op.Or 0x1000_0000
op_of (VarLoad l) = op.Load
op_of (VarStore l x) = op.Store x
op_of (Unlock l clears) = op.And (unlocked_mask clears)
op_of (Flag l) = op.Or 0x4000_0000
op_of (WaitStore q x) = op.Store x
op_of WaitLoad = op.Load
op_of (Wake l w to) = op.Change w to
op_of (Post q b) = op.Add 1
op_of (Look b) = op.Load
op_of Down = op.Sub 1
op_of (SetReleaseOk l) = op.Or 0x2000_0000

-- no play of this table says anything of the operands
abbrev pub about : Step Waiters
about = step 0 0 0 0 maybe.none

-- what a step owes to the table: the rule is kept, and the seat's view goes on as the machine says
abbrev pub TableAllows : (ℕ → List ℕ → Type 0) → Size → ℕ → ℕ → Sat → ℕ → (ℕ → ℕ) → LwStep → Type 0
TableAllows lawful z slots id me word f k = Allows (Rule lawful z) slots id me word f (does lawful z k about me)
