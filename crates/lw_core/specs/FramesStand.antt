-- What each frame of a place names is the table's, and who will let go of a lock after a store leaves lawful words.
use Rattle.std.specs.Prelude.{◌≡◌, ℕ, ◌<◌, true, List, [], ◌∷◌, slice_index_or, ⊤}
use mathlib.Core.Option as maybe
use lib.ListN.{get_elem?}
use Rattle.lw_core.specs.declared.view.Frame.{Frame}
use Rattle.lw_core.specs.declared.view.Frame.TheVariants.{Attempting, Trying, Unqueued, Queued, TakingList, Spinning, Queueing, Flagging, Announcing, Appending, Dequeueing, Checking, Removing, Withdrawing, Answering, Looking, Asleep, Downing, Sleeping, Woken, GivingBack, Waking, Marking, Detaching, Clearing, Posting, Peeking, Comparing, Reading, Returning, VarUnqueued, Allowing, VarQueued, VarLeaving, Storing, Publishing, Calling, Unhanding, Releasing}
use Rattle.lw_core.specs.declared.view.Hold.{Hold}
use Rattle.lw_core.specs.declared.view.Size.{Size}
use Rattle.lw_core.specs.declared.view.View.{View}
use Rattle.lw_core.specs.WaitLists.{AllBelow}
use Rattle.lw_core.specs.Machine.{LwState, Place, not_held, LeavesLawful}

module _ (lawful : ℕ → List ℕ → Type 0) (z : Size) (holds : List Hold) where
  abbrev pub MayLetGo : ℕ → Type 0
  MayLetGo l = LeavesLawful (lawful l) (slice_index_or holds l not_held)

  abbrev pub FrameStands : Frame → Type 0
  FrameStands (Attempting l m) = l < z.locks
  FrameStands (Trying l m w) = l < z.locks
  FrameStands (Unqueued l m w slept) = l < z.locks
  FrameStands (Queued l m w) = l < z.locks
  FrameStands (TakingList l) = l < z.locks
  FrameStands (Spinning l) = l < z.locks
  FrameStands (Queueing l w) = l < z.locks
  FrameStands (Flagging l w found) = l < z.locks
  FrameStands (Announcing l w found) = l < z.locks
  FrameStands (Appending l w found) = l < z.locks
  FrameStands (Dequeueing l w) = l < z.locks
  FrameStands (Checking l w found) = l < z.locks
  FrameStands (Removing l w found here) = l < z.locks
  FrameStands Withdrawing = ⊤
  FrameStands (Answering l w) = l < z.locks
  FrameStands Looking = ⊤
  FrameStands Asleep = ⊤
  FrameStands Downing = ⊤
  FrameStands (Sleeping l w answered) = l < z.locks
  FrameStands (Woken l m) = l < z.locks
  FrameStands GivingBack = ⊤
  FrameStands (Waking l updated) = l < z.locks
  FrameStands (Marking l updated found marked rest) = (l < z.locks) × AllBelow z.procs found
  FrameStands (Detaching l updated found w) = (l < z.locks) × AllBelow z.procs found
  FrameStands (Clearing us) = AllBelow z.procs us
  FrameStands (Posting us) = AllBelow z.procs us
  FrameStands (Peeking l old) = l < z.locks
  FrameStands (Comparing l old) = l < z.locks
  FrameStands (Reading l old found) = l < z.locks
  FrameStands (Returning l old found n) = l < z.locks
  FrameStands (VarUnqueued l old) = l < z.locks
  FrameStands (Allowing l) = l < z.locks
  FrameStands (VarQueued l old) = l < z.locks
  FrameStands (VarLeaving old conflicted) = ⊤
  FrameStands (Storing l x releases) = (l < z.locks) × (releases ≡ true → MayLetGo l)
  FrameStands (Publishing l x found releases) = (l < z.locks) × AllBelow z.procs found × (releases ≡ true → MayLetGo l)
  FrameStands (Calling l found marked rest) = (l < z.locks) × AllBelow z.procs found
  FrameStands (Unhanding l found) = (l < z.locks) × MayLetGo l
  FrameStands (Releasing l) = (l < z.locks) × MayLetGo l

  abbrev pub AllStand : Place → Type 0
  AllStand [] = ⊤
  AllStand (f ∷ p) = FrameStands f × AllStand p

abbrev pub FramesStand : (ℕ → List ℕ → Type 0) → Size → LwState → Type 0
FramesStand lawful z s = (id : ℕ) (v : View) → get_elem? s.views id ≡ maybe.some v → AllStand lawful z v.holds v.place
