-- What a store of a lock's variable is followed by: whom the holder wakes.
use Rattle.std.specs.Prelude.{◌≡◌, ℕ, false, List, [], ◌∷◌, ◌++◌, None, Some}
use Rattle.proc_table.specs.declared.Mode.TheVariants.{Exclusive}
use Rattle.lw_core.specs.declared.step.LwStep.TheVariants.{Unlock, VarStore}
use Rattle.lw_core.specs.declared.view.Made.{Made}
use Rattle.lw_core.specs.declared.view.View.{View}
use Rattle.lw_core.specs.declared.view.Waiter.{Waiter}
use Rattle.lw_core.specs.Machine.{made, made_with, mode_in}
use Rattle.lw_core.specs.WaitLists.{lockers_from, until_free_from}
use Rattle.lwlock.specs.Wakes.{AllTake, TakesLast, WakesRightly, kinds, marked_by, told_by}

-- The holder took the list in hand and stored the variable. It marked those who wait until the lock is free at the head of the list that it found, and nobody else; it sent the list home without them, and told each of them
pub record UpdateWakes (l value : ℕ) (v w : View) : Type 0 where
  pub found : List Waiter
  pub taking : List Made
  pub old : ℕ
  pub marks : List Made
  pub home : ℕ
  pub since : List Made
  pub steps : w.steps ≡ v.steps ++ (taking ++ (made (VarStore l value) old ∷ (marks ++ (made_with (Unlock l false) home (lockers_from found) ∷ since))))
  pub taken : TakesLast l found taking
  pub only_took : AllTake taking
  pub marked : kinds marks ≡ marked_by (until_free_from found)
  pub told : kinds since ≡ told_by (until_free_from found)

-- The holder took the list in hand, stored the variable and sent the list home as it found it; then it let go of the lock, and woke as a release does
pub record ReleaseWakes (l value : ℕ) (v w : View) : Type 0 where
  pub found : List Waiter
  pub taking : List Made
  pub old : ℕ
  pub home : ℕ
  pub stored : View
  pub steps : stored.steps ≡ v.steps ++ (taking ++ (made (VarStore l value) old ∷ made_with (Unlock l false) home found ∷ []))
  pub taken : TakesLast l found taking
  pub only_took : AllTake taking
  pub held : mode_in l stored ≡ Some Exclusive
  pub woken : WakesRightly l None stored w
