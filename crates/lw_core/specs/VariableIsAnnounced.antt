-- Nobody sleeps for a change of a lock's variable that was made already, unless somebody is about to take it off the list.
use Rattle.std.specs.Prelude.{◌≡◌, ◌⊎◌, ℕ, ◌≤◌, false, cond, List, ◌∷◌, Option, None, Some, map}
use mathlib.Core.Option as maybe
use lib.ListN.{get_elem?}
use Rattle.lw_core.specs.declared.view.Frame.TheVariants.{TakingList, Spinning, Dequeueing, Checking, Removing, Looking, Asleep, Downing, Sleeping, Waking, Marking, Detaching, Peeking, Comparing, Reading, Returning, VarQueued, VarLeaving, Calling, Unhanding, Releasing}
use Rattle.lw_core.specs.declared.view.View.{View}
use Rattle.lw_core.specs.Words.{Waiters, release_ok, has_flag}
use Rattle.lw_core.specs.Machine.{Place}
use Rattle.lw_core.specs.Stances.{on_lists, stance_of}

-- a lock, and a value of its variable
pub record Watch : Type 0 where
  pub lock : ℕ
  pub value : ℕ

abbrev pub watch_of : ℕ → ℕ → Option Watch
watch_of l value = Some record { lock = l; value = value }

-- behind the semaphore: the lock and the old value of its variable that the sleep is for
abbrev pub sleep_watch : Place → Option Watch
sleep_watch (Sleeping l w false ∷ Peeking k old ∷ p) = watch_of k old
sleep_watch p = None

-- the seat sleeps until the variable isn't this any more
abbrev pub sleeps_for_at : Place → Option Watch
sleeps_for_at (Looking ∷ p) = sleep_watch p
sleeps_for_at (Asleep ∷ p) = sleep_watch p
sleeps_for_at (Downing ∷ p) = sleep_watch p
sleeps_for_at (Sleeping l w answered ∷ p) = sleep_watch (Sleeping l w answered ∷ p)
sleeps_for_at p = None

-- it sleeps so, or has queued to do so and set RELEASE_OK; also while it leaves the list since it has an outcome
abbrev pub watches_at : Place → Option Watch
watches_at (Peeking l old ∷ VarQueued k older ∷ p) = watch_of l old
watches_at (TakingList l ∷ Comparing k old ∷ VarQueued j older ∷ p) = watch_of k old
watches_at (Spinning l ∷ Comparing k old ∷ VarQueued j older ∷ p) = watch_of k old
watches_at (Reading l old found ∷ VarQueued k older ∷ p) = watch_of l old
watches_at (Returning l old found n ∷ VarQueued k older ∷ p) = watch_of l old
watches_at (TakingList l ∷ Dequeueing k w ∷ VarLeaving old conflicted ∷ p) = watch_of k old
watches_at (Spinning l ∷ Dequeueing k w ∷ VarLeaving old conflicted ∷ p) = watch_of k old
watches_at (Checking l w found ∷ VarLeaving old conflicted ∷ p) = watch_of l old
watches_at (Removing l w found here ∷ VarLeaving old conflicted ∷ p) = watch_of l old
watches_at p = sleeps_for_at p

-- it has the list in hand, and found this in the variable
abbrev pub reads_at : Place → Option Watch
reads_at (Returning l old found n ∷ p) = watch_of l n
reads_at p = None

-- the lock that the seat updates: it stored the variable, and will send the list home without those who wait for it, or let go of the lock, up to the exchange of the wake where that release calls for one
abbrev pub updates_at : Place → Option ℕ
updates_at (Calling l found marked rest ∷ p) = Some l
updates_at (Unhanding l found ∷ p) = Some l
updates_at (Releasing l ∷ p) = Some l
updates_at (TakingList l ∷ Waking k updated ∷ p) = cond updated (Some k) None
updates_at (Spinning l ∷ Waking k updated ∷ p) = cond updated (Some k) None
updates_at (Marking l updated found marked rest ∷ p) = cond updated (Some l) None
updates_at (Detaching l updated found w ∷ p) = cond updated (Some l) None
updates_at p = None

pub record Updates (l : ℕ) (views : List View) : Type 0 where
  pub id : ℕ
  pub view : View
  pub at : get_elem? views id ≡ maybe.some view
  pub updates : updates_at view.place ≡ Some l

-- Of the lock l, with its state word and its variable: while a backend that watches the variable is on the list RELEASE_OK is set; where it sleeps and is on the list the variable is still the old one, or somebody updates l; and who has the list in hand and read the variable has read what it is
pub record VariableIsAnnounced (l word variable : ℕ) (homes : List (maybe.Option Waiters)) (views : List View) : Type 0 where
  pub allowed : (id p old : ℕ) (v : View) → get_elem? views id ≡ maybe.some v → v.own ≡ Some p → watches_at v.place ≡ watch_of l old → 1 ≤ on_lists p homes (map stance_of views) → has_flag release_ok word ≡ 1
  pub announced : (id p old : ℕ) (v : View) → get_elem? views id ≡ maybe.some v → v.own ≡ Some p → sleeps_for_at v.place ≡ watch_of l old → 1 ≤ on_lists p homes (map stance_of views) → (variable ≡ old) ⊎ Updates l views
  pub read : (id n : ℕ) (v : View) → get_elem? views id ≡ maybe.some v → reads_at v.place ≡ watch_of l n → variable ≡ n
