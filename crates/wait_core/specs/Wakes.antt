-- Who sleeps, and which wakes are pending.
use Rattle.std.specs.Prelude.{◌≡◌, ℕ, ◌+◌, ◌≤◌, Some, true, map, slice_index}
use Rattle.wait_core.specs.declared.step.Until.TheVariants.{LatchOrShutdown}
use Rattle.wait_core.specs.declared.view.Frame.TheVariants.{Asleep}
use Rattle.wait_core.specs.declared.view.WaitView.{WaitView}
use Rattle.wait_core.specs.Words.{byte_at}
use Rattle.wait_core.specs.Machine.{WaitState, top}
use Rattle.wait_core.specs.Seating.{standing_of}
use Rattle.wait_core.specs.Places.{is_asleep, tells, stops, count_of}
use Rattle.seat_roster.specs.Totals.{total}
use Rattle.wait_core.specs.Stances.{stance_of, has_popped}

module _ {C : Type 0} where
  -- the seat's last step was a look at its wake byte that read 0
  abbrev pub IsAsleep : WaitView C → Type 0
  IsAsleep v = is_asleep (top v.place) ≡ true

  -- the same, in a wait that a shutdown ends
  abbrev pub SleepsTillShutdown : WaitView C → Type 0
  SleepsTillShutdown v = top v.place ≡ Some (Asleep LatchOrShutdown)

  -- the wake byte of p is 1, or a setter of p is under way
  abbrev pub LatchWakePending : ℕ → WaitState C → Type 0
  LatchWakePending p s = 1 ≤ slice_index s.words (byte_at p) + count_of (tells p) (map standing_of s.views)

  -- the wake byte of p is 1, or somebody who shuts down has still to store it
  abbrev pub ShutdownWakePending : ℕ → WaitState C → Type 0
  ShutdownWakePending p s = 1 ≤ slice_index s.words (byte_at p) + count_of (stops p) (map standing_of s.views)

  -- somebody popped p off a list, and hasn't found its latch set yet nor set it
  abbrev pub SignalPending : ℕ → WaitState C → Type 0
  SignalPending p s = 1 ≤ total (has_popped p) (map stance_of s.views)
