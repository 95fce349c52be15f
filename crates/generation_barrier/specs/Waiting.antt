-- What a backend does at two tables, that of signals and that of waits, when it tells others how far it is and waits for how far they are.
use Rattle.std.specs.Prelude.{◌≡◌, ℕ, zero, suc, ◌+◌, ◌<◌, ◌≤◌, Bool, List, [], ◌∷◌, ◌++◌, Option, None, Some, ⊤}
use Rattle.signal_core.specs.declared.step.Call.TheVariants as order
use Rattle.signal_core.specs.declared.step.SigStep.TheVariants.{Gstore, Gload, Pstore}
use Rattle.signal_core.specs.declared.view.Made.{Made}
use Rattle.signal_core.specs.declared.view.SigView.{SigView}
use Rattle.signal_core.specs.declared.view.Slot.{Slot}
use Rattle.signal_core.specs.Machine.{made}
use Rattle.signal_core.specs.Words.{gone}
use Rattle.wait_core.specs.declared.step.Call.TheVariants as call
use Rattle.wait_core.specs.declared.view.Made as wait
use Rattle.wait_core.specs.declared.view.WaitView.{WaitView}
use Rattle.wait_core.specs.Machine.{number_of}
use Rattle.condition_variable.specs.declared.sleeping.Slept.{Slept}
use Rattle.condition_variable.specs.Calls.{Broadcasts, Cancels, Sleeps}
use Rattle.condition_variable.specs.Visits.{stands}
use Rattle.generation_barrier.specs.Absorbing.{went}

-- the condition of those who wait for the slot q
abbrev pub notice_at : ℕ → ℕ
notice_at q = 72 + q

-- a table with so many conditions has one for each of so many slots
abbrev pub HasNotices : ℕ → ℕ → Type 0
HasNotices procs cvs = notice_at procs ≤ cvs

-- all who wait for the slot q were woken, and nothing else was done
pub record Notices {C : Type 0} (q : ℕ) (x y : WaitView C) : Type 0 where
  pub more : List wait.Made
  pub view : y ≡ stands x [] None x.heeds more
  pub woken : Broadcasts (number_of x.own) (notice_at q) x.target more

-- LEAVING. The slot isn't joined any more: `gone` was stored as its generation, and then that nobody is there
pub record HasLeft (v w : SigView) : Type 0 where
  pub generation : ℕ
  pub pid : ℕ
  pub view : w ≡ went v (made (Gstore gone (Some order.Leave)) generation ∷ made (Pstore 0) pid ∷ []) None v.absorbed

-- WAITING. The generation of the slot q was read as n
abbrev pub look : ℕ → ℕ → Made
look q n = made (Gload q (Some (order.Published q))) n

-- whose slot isn't joined, or has published g or more, may wait for g: it would wait for itself else
abbrev pub MayAwait : ℕ → Option Slot → Type 0
MayAwait g None = ⊤
MayAwait g (Some t) = g ≤ t.published

-- the target after n sleeps on the condition c, where it was this before
abbrev pub target_after : ℕ → ℕ → Option ℕ → Option ℕ
target_after c zero target = target
target_after c (suc n) target = Some c

-- n times the generation of the slot q was read below g, and then the backend, whose number is `own`, slept on the slot's condition
abbrev pub IsBehind : ℕ → ℕ → ℕ → Option ℕ → ℕ → List Made → List wait.Made → Type 0
IsBehind own g q target zero looks sleeps = (looks ≡ []) × (sleeps ≡ [])
IsBehind own g q target (suc n) looks sleeps = (before : List Made) × (earlier sleep : List wait.Made) × (found : ℕ) × (slept : Slept) × (looks ≡ before ++ look q found ∷ []) × (sleeps ≡ earlier ++ sleep)
    × IsBehind own g q target n before earlier × (found < g) × Sleeps own (notice_at q) (target_after (notice_at q) n target) slept sleep

-- the backend left the list of its target, if it had one
abbrev pub LeavesTarget : ℕ → Option ℕ → List wait.Made → Type 0
LeavesTarget own None more = more ≡ []
LeavesTarget own (Some t) more = (found : List ℕ) × Cancels own t call.Cancel found more

-- the generation of the slot q was read until it was g or more, and after each time before that the backend slept on the slot's condition; then it left its list
pub record AwaitsSlot (own g q : ℕ) (target : Option ℕ) (looks : List Made) (sleeps : List wait.Made) : Type 0 where
  pub count : ℕ
  pub before : List Made
  pub earlier : List wait.Made
  pub found : ℕ
  pub leave : List wait.Made
  pub looked : looks ≡ before ++ look q found ∷ []
  pub slept : sleeps ≡ earlier ++ leave
  pub behind : IsBehind own g q target count before earlier
  pub reached : g ≤ found
  pub leaves : LeavesTarget own (target_after (notice_at q) count target) leave

-- who has waited for so many slots has no target
abbrev pub target_past : ℕ → Option ℕ → Option ℕ
target_past zero target = target
target_past (suc q) target = None

-- so for each slot below n, from the first
abbrev pub AwaitsBelow : ℕ → ℕ → Option ℕ → ℕ → List Made → List wait.Made → Type 0
AwaitsBelow own g target zero looks sleeps = (looks ≡ []) × (sleeps ≡ [])
AwaitsBelow own g target (suc q) looks sleeps = (before more : List Made) × (earlier sleep : List wait.Made) × (looks ≡ before ++ more) × (sleeps ≡ earlier ++ sleep)
    × AwaitsBelow own g target q before earlier × AwaitsSlot own g q (target_past q target) more sleep

-- so for each of so many slots, and nothing else was done
pub record Awaits {C : Type 0} (procs g : ℕ) (v w : SigView) (x y : WaitView C) : Type 0 where
  pub looks : List Made
  pub sleeps : List wait.Made
  pub heeds : Bool
  pub slots : AwaitsBelow (number_of x.own) g x.target procs looks sleeps
  pub seat : w ≡ went v looks v.slot v.absorbed
  pub wait_seat : y ≡ stands x [] None heeds sleeps

-- from v to w the generation of the slot q was read at g or more
abbrev pub ReadAtLeast : ℕ → ℕ → SigView → SigView → Type 0
ReadAtLeast g q v w = (before after : List Made) × (n : ℕ) × (w.steps ≡ v.steps ++ (before ++ look q n ∷ after)) × (g ≤ n)
