-- What may stand behind each frame, and what the target of the seat is there.
use Rattle.std.specs.Prelude.{◌≡◌, ◌<◌, ℕ, List, [], ◌∷◌, Option, None, Some, ⊤}
use mathlib.Core.Option as maybe
use lib.ListN.{get_elem?}
use Rattle.wait_core.specs.declared.step.Until.{Until}
use Rattle.wait_core.specs.declared.step.Until.TheVariants.{Latch}
use Rattle.wait_core.specs.declared.view.Job.{Job}
use Rattle.wait_core.specs.declared.view.Job.TheVariants as job
use Rattle.wait_core.specs.declared.view.Frame.TheVariants.{Setting, Telling, Waking, Announcing, Rechecking, CheckingShutdown, Looking, Asleep, Retracting, Draining, Repeating, LeavingSet, LeavingShutdown, Stopping, Taking, Spinning, Holding, Resetting, SleepWaiting, Preparing, Broadcasting, Signalling, Rousing, Settling, Dozing, Passing, Returning}
use Rattle.wait_core.specs.Machine.{Place}
use Rattle.wait_core.specs.Seating.{Standing}

-- behind a listing, a sleep and a broadcast on a condition: nothing, or a call on its barrier
abbrev pub BehindPrepare : ℕ → Place → Type 0
BehindPrepare c [] = ⊤
BehindPrepare c (Settling b ph ∷ p) = (b ≡ c) × (p ≡ [])
BehindPrepare c p = ⊥

abbrev pub BehindSleep : ℕ → Place → Type 0
BehindSleep c [] = ⊤
BehindSleep c (Dozing b ph ∷ p) = (b ≡ c) × (p ≡ [])
BehindSleep c p = ⊥

abbrev pub BehindBroadcast : ℕ → Place → Type 0
BehindBroadcast c [] = ⊤
BehindBroadcast c (Passing b ph ∷ p) = (b ≡ c) × (p ≡ [])
BehindBroadcast c p = ⊥

-- in a table with so many conditions, and a seat with this target
module _ (cvs : ℕ) (t : Option ℕ) where
  -- behind the setting of the latch of q: nothing, or who popped q. A broadcaster has no target
  abbrev pub BehindSet : ℕ → Place → Type 0
  BehindSet q [] = ⊤
  BehindSet q (Signalling c r ∷ p) = (r ≡ q) × (p ≡ [])
  BehindSet q (Rousing c r more ∷ p) = (r ≡ q) × (t ≡ None) × (c < cvs) × BehindBroadcast c p
  BehindSet q p = ⊥

  -- behind a wait: nothing, or a sleep on the target, which waits for the latch alone
  abbrev pub BehindWait : Until → Place → Type 0
  BehindWait u [] = ⊤
  BehindWait u (SleepWaiting c ∷ p) = (u ≡ Latch) × (t ≡ Some c) × BehindSleep c p
  BehindWait u p = ⊥

  -- behind the leaving of a list: nothing, or what is listed or broadcasts then, or an arrival that ends
  abbrev pub BehindCancel : Place → Type 0
  BehindCancel [] = ⊤
  BehindCancel (Preparing c ∷ p) = (c < cvs) × BehindPrepare c p
  BehindCancel (Broadcasting c ∷ p) = (c < cvs) × BehindBroadcast c p
  BehindCancel (Returning b ph ∷ p) = p ≡ []
  BehindCancel p = ⊥

  -- where a spin word is taken for this
  abbrev pub JobFits : Job → Place → Type 0
  JobFits (job.Cancel c) p = (c < cvs) × (t ≡ Some c) × BehindCancel p
  JobFits (job.Prepare c) p = (c < cvs) × (t ≡ None) × BehindPrepare c p
  JobFits (job.Resleep c) p = (c < cvs) × (t ≡ Some c) × BehindSleep c p
  JobFits (job.Signal c) p = (c < cvs) × (p ≡ [])
  JobFits (job.Broadcast c) p = (c < cvs) × (t ≡ None) × BehindBroadcast c p
  JobFits (job.Rebroadcast c) p = (c < cvs) × (t ≡ None) × BehindBroadcast c p
  JobFits (job.Attach b) p = p ≡ []
  JobFits (job.Arrive b) p = (b < cvs) × (p ≡ [])
  JobFits (job.Notice b ph) p = (b < cvs) × (t ≡ Some b) × (p ≡ [])
  JobFits (job.Detach b) p = (b < cvs) × (p ≡ [])
  JobFits (job.ArriveDetach b) p = (b < cvs) × (p ≡ [])
  JobFits (job.ExceptLast b) p = p ≡ []

  abbrev pub Fits : Place → Type 0
  Fits [] = ⊤
  Fits (Setting q ∷ p) = BehindSet q p
  Fits (Telling q ∷ p) = BehindSet q p
  Fits (Waking q ∷ p) = BehindSet q p
  Fits (Announcing u ∷ p) = BehindWait u p
  Fits (Rechecking u ∷ p) = BehindWait u p
  Fits (CheckingShutdown ∷ p) = p ≡ []
  Fits (Looking u ∷ p) = BehindWait u p
  Fits (Asleep u ∷ p) = BehindWait u p
  Fits (Retracting u ∷ p) = BehindWait u p
  Fits (Draining u ∷ p) = BehindWait u p
  Fits (Repeating u ∷ p) = BehindWait u p
  Fits (LeavingSet ∷ p) = BehindWait Latch p
  Fits (LeavingShutdown ∷ p) = p ≡ []
  Fits (Stopping q ∷ p) = p ≡ []
  Fits (Taking j ∷ p) = JobFits j p
  Fits (Spinning j ∷ p) = JobFits j p
  Fits (Holding j list found ∷ p) = JobFits j p
  Fits (Resetting c ∷ p) = (t ≡ Some c) × BehindSleep c p
  Fits (SleepWaiting c ∷ p) = (t ≡ Some c) × BehindSleep c p
  Fits (Signalling c q ∷ p) = p ≡ []
  Fits (Rousing c q more ∷ p) = (t ≡ None) × (c < cvs) × BehindBroadcast c p
  Fits (Settling b ph ∷ p) = (b < cvs) × (p ≡ [])
  Fits (Dozing b ph ∷ p) = (b < cvs) × (t ≡ Some b) × (p ≡ [])
  Fits (Passing b ph ∷ p) = (b < cvs) × (p ≡ [])
  Fits (Returning b ph ∷ p) = (t ≡ Some b) × (p ≡ [])
  Fits (Preparing c ∷ p) = ⊥
  Fits (Broadcasting c ∷ p) = ⊥

abbrev pub IsTarget : ℕ → Option ℕ → Type 0
IsTarget cvs t = (c : ℕ) → t ≡ Some c → c < cvs

-- each place fits, each target is a condition of the table, and a seat without a number is in no call and has no target
pub record PlacesFit (cvs : ℕ) (seats : List Standing) : Type 0 where
  pub fits : (id : ℕ) (v : Standing) → get_elem? seats id ≡ maybe.some v → Fits cvs v.target v.place
  pub targets : (id : ℕ) (v : Standing) → get_elem? seats id ≡ maybe.some v → IsTarget cvs v.target
  pub unnumbered : (id : ℕ) (v : Standing) → get_elem? seats id ≡ maybe.some v → v.own ≡ None → (v.place ≡ []) × (v.target ≡ None)
