-- Nobody sleeps for a lock that nobody holds, unless somebody releases it or answers for it.
use Rattle.std.specs.Prelude.{◌≡◌, ◌⊎◌, ℕ, ◌≤◌, true, cond, List, ◌∷◌, Option, None, Some, map}
use mathlib.Core.Option as maybe
use lib.ListN.{get_elem?}
use Rattle.lw_core.specs.declared.view.Frame.TheVariants.{Attempting, Trying, Unqueued, TakingList, Spinning, Dequeueing, Checking, Removing, Looking, Asleep, Downing, Sleeping, Waking, Marking, Detaching, Comparing, Reading, Returning, VarQueued, VarLeaving}
use Rattle.lw_core.specs.declared.view.View.{View}
use Rattle.lw_core.specs.Words.{Waiters, lock_part}
use Rattle.lw_core.specs.Machine.{Place}
use Rattle.lw_core.specs.Stances.{Entry, sleep_entry, on_lists, stance_of}
use Rattle.lw_core.specs.ReleaseOkIsOwed.{Answers}

-- the lock that the seat is releasing, from the release that calls for a wake to the exchange of that wake; or for which it makes the attempt that follows its sleep
abbrev pub attends_at : Place → Option ℕ
attends_at (TakingList l ∷ Waking k updated ∷ p) = Some k
attends_at (Spinning l ∷ Waking k updated ∷ p) = Some k
attends_at (Marking l updated found marked rest ∷ p) = Some l
attends_at (Detaching l updated found w ∷ p) = Some l
attends_at (Attempting l m ∷ Unqueued k n u true ∷ p) = Some k
attends_at (Trying l m w ∷ Unqueued k n u true ∷ p) = Some k
attends_at p = None

abbrev pub lock_in : Option Entry → Option ℕ
lock_in None = None
lock_in (Some e) = Some e.lock

-- the lock whose list the seat is on past the second attempt, which was refused, or the second look, which found an exclusive holder: it sleeps, or compares the variable first, or leaves the list since the variable changed
abbrev pub committed_at : Place → Option ℕ
committed_at (Looking ∷ p) = lock_in (sleep_entry p)
committed_at (Asleep ∷ p) = lock_in (sleep_entry p)
committed_at (Downing ∷ p) = lock_in (sleep_entry p)
committed_at (Sleeping l w answered ∷ p) = lock_in (sleep_entry (Sleeping l w answered ∷ p))
committed_at (TakingList l ∷ Comparing k old ∷ VarQueued j older ∷ p) = Some j
committed_at (Spinning l ∷ Comparing k old ∷ VarQueued j older ∷ p) = Some j
committed_at (Reading l old found ∷ VarQueued j older ∷ p) = Some j
committed_at (Returning l old found n ∷ VarQueued j older ∷ p) = Some j
committed_at (TakingList l ∷ Dequeueing j w ∷ VarLeaving old conflicted ∷ p) = cond conflicted (Some j) None
committed_at (Spinning l ∷ Dequeueing j w ∷ VarLeaving old conflicted ∷ p) = cond conflicted (Some j) None
committed_at (Checking l w found ∷ VarLeaving old conflicted ∷ p) = cond conflicted (Some l) None
committed_at (Removing l w found here ∷ VarLeaving old conflicted ∷ p) = cond conflicted (Some l) None
committed_at p = None

-- a seat attends to the lock l
pub record Attends (l : ℕ) (views : List View) : Type 0 where
  pub id : ℕ
  pub view : View
  pub at : get_elem? views id ≡ maybe.some view
  pub attends : attends_at view.place ≡ Some l

-- somebody was taken off the list and will set RELEASE_OK, or attends to the lock
abbrev pub IsAnswered : ℕ → List (maybe.Option Waiters) → List View → Type 0
IsAnswered l homes views = Answers l homes (map stance_of views) ⊎ Attends l views

abbrev pub FreeLockIsAnswered : ℕ → ℕ → List (maybe.Option Waiters) → List View → Type 0
FreeLockIsAnswered l word homes views = lock_part word ≡ 0 → (id p : ℕ) (v : View) → get_elem? views id ≡ maybe.some v → v.own ≡ Some p → committed_at v.place ≡ Some l → 1 ≤ on_lists p homes (map stance_of views)
    → IsAnswered l homes views
