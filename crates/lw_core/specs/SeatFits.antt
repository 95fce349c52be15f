-- What the place of each seat says of the locks that it holds, of the programs behind the innermost one, and of what it has to give back.
use Rattle.std.specs.Prelude.{◌≡◌, ℕ, ◌+◌, ◌*◌, ◌^◌, ◌<◌, ◌≤◌, Bool, true, false, List, [], ◌∷◌, ◌++◌, length, slice_index_or, Option, None, Some, IsSome}
use mathlib.Core.Option as maybe
use lib.ListN.{get_elem?}
use Rattle.proc_table.specs.declared.Mode.{Mode}
use Rattle.proc_table.specs.declared.Mode.TheVariants.{Exclusive}
use Rattle.lw_core.specs.declared.view.Frame.TheVariants.{Attempting, Trying, Unqueued, Queued, TakingList, Spinning, Queueing, Flagging, Announcing, Appending, Dequeueing, Checking, Removing, Withdrawing, Answering, Looking, Asleep, Downing, Sleeping, Woken, GivingBack, Waking, Marking, Detaching, Clearing, Posting, Peeking, Comparing, Reading, Returning, VarUnqueued, Allowing, VarQueued, VarLeaving, Storing, Publishing, Calling, Unhanding, Releasing}
use Rattle.lw_core.specs.declared.view.Hold.{Hold}
use Rattle.lw_core.specs.declared.view.Want.{Want}
use Rattle.lw_core.specs.declared.view.Want.TheVariants as want
use Rattle.lw_core.specs.WaitLists.{same_want, taken_from, until_free_from}
use Rattle.lw_core.specs.Machine.{Place, not_held, want_of}

-- a seat's number, its place, what it has of each lock and to give back; and its pokes, those whom it poked and those that it took over
pub record Seating : Type 0 where
  pub own : Option ℕ
  pub place : Place
  pub holds : List Hold
  pub surplus : ℕ
  pub pokes : ℕ
  pub poked : List ℕ
  pub taken : List ℕ

abbrev pub IsFreeOf : List Hold → ℕ → Type 0
IsFreeOf holds l = (slice_index_or holds l not_held).mode ≡ None

-- who wanted the lock l, and not until it is free, holds it by now
abbrev pub HoldsAs : List Hold → ℕ → Want → Type 0
HoldsAs holds l w = same_want w want.UntilFree ≡ false → IsSome (slice_index_or holds l not_held).mode

-- what a backend that tries for the mode queues for: that mode, or until the lock is free
abbrev pub QueuesFor : Want → Mode → Type 0
QueuesFor w m = same_want w want.UntilFree ≡ false → w ≡ want_of m

-- the seat holds the lock l exclusively
abbrev pub HoldsAlone : List Hold → ℕ → Type 0
HoldsAlone holds l = (slice_index_or holds l not_held).mode ≡ Some Exclusive

-- what is behind an attempt on l: nothing, or a call that may queue
abbrev pub FollowsAttempt : ℕ → Mode → ℕ → Place → Type 0
FollowsAttempt l m surplus [] = surplus ≡ 0
FollowsAttempt l m surplus (Unqueued k n w slept ∷ p) = (k ≡ l) × (n ≡ m) × QueuesFor w m × (p ≡ [])
FollowsAttempt l m surplus (Queued k n w ∷ p) = (k ≡ l) × (n ≡ m) × QueuesFor w m × (p ≡ [])
FollowsAttempt l m surplus p = ⊥

-- behind queueing for l: an attempt, or another look at its variable
abbrev pub FollowsQueueing : ℕ → Want → Place → Type 0
FollowsQueueing l w (Attempting k m ∷ Queued j n v ∷ p) = (k ≡ l) × (j ≡ l) × (n ≡ m) × (v ≡ w) × QueuesFor w m × (p ≡ [])
FollowsQueueing l w (Allowing k ∷ Peeking j old ∷ VarQueued i older ∷ p) = (k ≡ l) × (j ≡ l) × (i ≡ l) × (older ≡ old) × (w ≡ want.UntilFree) × (p ≡ [])
FollowsQueueing l w p = ⊥

-- what is behind a look at the lock l in a wait for its variable
abbrev pub FollowsLook : ℕ → ℕ → Place → Type 0
FollowsLook l old (VarUnqueued k older ∷ p) = (k ≡ l) × (older ≡ old) × (p ≡ [])
FollowsLook l old (VarQueued k older ∷ p) = (k ≡ l) × (older ≡ old) × (p ≡ [])
FollowsLook l old p = ⊥

-- behind leaving a list on which it queued for this: what is too much is given back. In a wait for the variable it queued until the lock is free
abbrev pub FollowsLeaving : Want → Place → Type 0
FollowsLeaving w (GivingBack ∷ p) = p ≡ []
FollowsLeaving w (VarLeaving old conflicted ∷ p) = (w ≡ want.UntilFree) × (p ≡ [])
FollowsLeaving w p = ⊥

-- behind a sleep: another attempt, or the end of the call
abbrev pub FollowsSleep : List Hold → ℕ → Want → Bool → Place → Type 0
FollowsSleep holds l w false (Woken k m ∷ p) = (k ≡ l) × (w ≡ want_of m) × IsFreeOf holds l × (p ≡ [])
FollowsSleep holds l w false (GivingBack ∷ p) = (w ≡ want.UntilFree) × (p ≡ [])
FollowsSleep holds l w false (Peeking k old ∷ VarUnqueued j older ∷ p) = (k ≡ l) × (j ≡ l) × (older ≡ old) × (w ≡ want.UntilFree) × IsFreeOf holds l × (p ≡ [])
FollowsSleep holds l w true (GivingBack ∷ p) = p ≡ []
FollowsSleep holds l w true (VarLeaving old conflicted ∷ p) = (w ≡ want.UntilFree) × (p ≡ [])
FollowsSleep holds l w answered p = ⊥

-- behind the semaphore: nothing, or a sleep
abbrev pub FollowsDown : List Hold → ℕ → Place → Type 0
FollowsDown holds surplus [] = surplus ≡ 0
FollowsDown holds surplus (Sleeping l w answered ∷ p) = FollowsSleep holds l w answered p
FollowsDown holds surplus p = ⊥

-- what the list of l is taken for
abbrev pub FollowsTaking : List Hold → ℕ → ℕ → Place → Type 0
FollowsTaking holds l surplus (Queueing k w ∷ p) = (k ≡ l) × IsFreeOf holds l × FollowsQueueing l w p
FollowsTaking holds l surplus (Dequeueing k w ∷ p) = (k ≡ l) × HoldsAs holds l w × FollowsLeaving w p
FollowsTaking holds l surplus (Waking k updated ∷ p) = (k ≡ l) × (surplus ≡ 0) × (p ≡ [])
FollowsTaking holds l surplus (Comparing k old ∷ p) = (k ≡ l) × IsFreeOf holds l × FollowsLook l old p
FollowsTaking holds l surplus (Storing k x releases ∷ p) = (k ≡ l) × (surplus ≡ 0) × HoldsAlone holds l × (p ≡ [])
FollowsTaking holds l surplus p = ⊥

-- Each frame stands where its program puts it. The seat doesn't hold the lock that it tries, and holds that on whose list it queued once it leaves the list; the word that it found is a state word; and those whom it takes off the list in hand are those whom the wake takes
abbrev pub PlaceFits : List Hold → ℕ → Place → Type 0
PlaceFits holds surplus [] = surplus ≡ 0
PlaceFits holds surplus (Attempting l m ∷ []) = ⊥
PlaceFits holds surplus (Attempting l m ∷ f ∷ p) = IsFreeOf holds l × FollowsAttempt l m surplus (f ∷ p)
PlaceFits holds surplus (Trying l m w ∷ p) = IsFreeOf holds l × (w < 2 ^ 32) × FollowsAttempt l m surplus p
PlaceFits holds surplus (TakingList l ∷ p) = FollowsTaking holds l surplus p
PlaceFits holds surplus (Spinning l ∷ p) = FollowsTaking holds l surplus p
PlaceFits holds surplus (Flagging l w found ∷ p) = IsFreeOf holds l × FollowsQueueing l w p
PlaceFits holds surplus (Announcing l w found ∷ p) = IsFreeOf holds l × FollowsQueueing l w p
PlaceFits holds surplus (Appending l w found ∷ p) = IsFreeOf holds l × FollowsQueueing l w p
PlaceFits holds surplus (Checking l w found ∷ p) = HoldsAs holds l w × FollowsLeaving w p
PlaceFits holds surplus (Removing l w found here ∷ p) = HoldsAs holds l w × FollowsLeaving w p
PlaceFits holds surplus (Withdrawing ∷ p) = FollowsLeaving want.UntilFree p
PlaceFits holds surplus (Answering l w ∷ Looking ∷ Sleeping k u true ∷ p) = (k ≡ l) × (u ≡ w) × HoldsAs holds l w × FollowsLeaving w p
PlaceFits holds surplus (Looking ∷ p) = FollowsDown holds surplus p
PlaceFits holds surplus (Asleep ∷ p) = FollowsDown holds surplus p
PlaceFits holds surplus (Downing ∷ p) = FollowsDown holds surplus p
PlaceFits holds surplus (Sleeping l w answered ∷ p) = FollowsSleep holds l w answered p
PlaceFits holds surplus (Woken l m ∷ p) = IsFreeOf holds l × (p ≡ [])
PlaceFits holds surplus (GivingBack ∷ p) = (0 < surplus) × (p ≡ [])
PlaceFits holds surplus (Marking l updated found marked rest ∷ p) = (marked ++ rest ≡ taken_from found) × (surplus ≡ 0) × (p ≡ [])
PlaceFits holds surplus (Detaching l updated found w ∷ p) = (w < 2 ^ 32) × (surplus ≡ 0) × (p ≡ [])
PlaceFits holds surplus (Clearing (u ∷ us) ∷ p) = (surplus ≡ 0) × (p ≡ [])
PlaceFits holds surplus (Posting (u ∷ us) ∷ p) = (surplus ≡ 0) × (p ≡ [])
PlaceFits holds surplus (Peeking l old ∷ p) = IsFreeOf holds l × FollowsLook l old p
PlaceFits holds surplus (Reading l old found ∷ p) = IsFreeOf holds l × FollowsLook l old p
PlaceFits holds surplus (Returning l old found n ∷ p) = IsFreeOf holds l × FollowsLook l old p
PlaceFits holds surplus (Allowing l ∷ Peeking k old ∷ VarQueued j older ∷ p) = IsFreeOf holds l × (k ≡ l) × (j ≡ l) × (older ≡ old) × (p ≡ [])
PlaceFits holds surplus (Publishing l x found releases ∷ p) = HoldsAlone holds l × (surplus ≡ 0) × (p ≡ [])
PlaceFits holds surplus (Calling l found marked rest ∷ p) = (marked ++ rest ≡ until_free_from found) × HoldsAlone holds l × (surplus ≡ 0) × (p ≡ [])
PlaceFits holds surplus (Unhanding l found ∷ p) = HoldsAlone holds l × (surplus ≡ 0) × (p ≡ [])
PlaceFits holds surplus (Releasing l ∷ p) = HoldsAlone holds l × (surplus ≡ 0) × (p ≡ [])
PlaceFits holds surplus p = ⊥

-- a seat without a number holds nothing, is in no call and made no poke. A seat pokes at most 1,048,576 times
pub record SeatFits (v : Seating) : Type 0 where
  pub long : length v.holds ≡ 200
  pub place : PlaceFits v.holds v.surplus v.place
  pub unnumbered : v.own ≡ None → (l : ℕ) → (slice_index_or v.holds l not_held).mode ≡ None
  pub idle : v.own ≡ None → (v.place ≡ []) × (v.pokes ≡ 0)
  pub pokes : v.pokes ≤ 1048576
  pub poked : length v.poked ≤ 1048576 * length v.taken + v.pokes

abbrev pub SeatsFit : List Seating → Type 0
SeatsFit seats = (id : ℕ) (v : Seating) → get_elem? seats id ≡ maybe.some v → SeatFits v
