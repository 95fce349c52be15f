-- What each call on a barrier does, by the steps that stand in the view of its seat, whose number is `own`.
use Rattle.std.specs.Prelude.{◌≡◌, ◌⊎◌, ◌<◌, ℕ, zero, suc, ◌+◌, Bool, true, false, cond, List, [], ◌∷◌, ◌++◌, Option, None, Some}
use Rattle.wait_core.specs.declared.step.Call.{Call}
use Rattle.wait_core.specs.declared.step.Call.TheVariants as call
use Rattle.wait_core.specs.declared.view.Made.{Made}
use Rattle.wait_core.specs.declared.view.WaitView.{WaitView}
use Rattle.wait_core.specs.Words.{last_phase}
use Rattle.wait_core.specs.Jobs.{at_phase, away_from}
use Rattle.wait_core.specs.Machine.{number_of}
use Rattle.wait_core.specs.Parties.{phase_of}
use Rattle.condition_variable.specs.declared.sleeping.Slept.TheVariants.{Signalled}
use Rattle.condition_variable.specs.Calls.{Broadcasts, Cancels, Lists, Sleeps}
use Rattle.phase_barrier.specs.Visits.{Visits}

-- the view of a seat in no call after more steps, with these attachments, elections, phases waited out and this target: nothing else changed, but whether it heeds a signal
abbrev pub ended : {C : Type 0} → WaitView C → List (ℕ × ℕ) → List (ℕ × ℕ) → List (ℕ × ℕ) → Option ℕ → Bool → List Made → WaitView C
ended v attached elections passed target heeds more = record v { place = []; steps = v.steps ++ more; attached = attached; elections = elections; passed = passed; target = target; heeds = heeds }

-- the same of a call that only visits the record
abbrev pub attaching : {C : Type 0} → WaitView C → List (ℕ × ℕ) → List Made → WaitView C
attaching v attached more = ended v attached v.elections v.passed v.target v.heeds more

-- the phase passed: the record was visited, and all who were on the list of the barrier's condition were woken
pub record Passes (own b : ℕ) (begins : Call) (target : Option ℕ) (more : List Made) : Type 0 where
  pub visit : List Made
  pub wakes : List Made
  pub split : more ≡ visit ++ wakes
  pub visits : Visits b (Some begins) target visit
  pub broadcasts : Broadcasts own b target wakes

-- n times the record was visited, and the backend slept until it was signalled
abbrev pub Dozes : ℕ → ℕ → ℕ → List Made → Type 0
Dozes own b zero more = more ≡ []
Dozes own b (suc n) more = (before look sleep : List Made) × (more ≡ before ++ (look ++ sleep)) × Dozes own b n before × Visits b None (Some b) look × Sleeps own b (Some b) Signalled sleep

-- It looked at the record and slept, until it found that the phase had passed; then it left the list of the barrier's condition
pub record LooksOut (own b : ℕ) (more : List Made) : Type 0 where
  pub dozing : List Made
  pub look : List Made
  pub leave : List Made
  pub count : ℕ
  pub found : List ℕ
  pub split : more ≡ dozing ++ (look ++ leave)
  pub dozes : Dozes own b count dozing
  pub looks : Visits b None (Some b) look
  pub leaves : Cancels own b call.Cancel found leave

-- The record was visited, and the backend went to the end of that list, and looked out for the next phase
pub record WaitsOut (own b : ℕ) (target : Option ℕ) (more : List Made) : Type 0 where
  pub visit : List Made
  pub listing : List Made
  pub rest : List Made
  pub split : more ≡ visit ++ (listing ++ rest)
  pub visits : Visits b (Some (call.Arrive b)) target visit
  pub lists : Lists own b target (call.Prepare b) listing
  pub looks : LooksOut own b rest

-- the elections of a backend that was elected for the phase, or wasn't
abbrev pub won : Bool → ℕ → ℕ → List (ℕ × ℕ) → List (ℕ × ℕ)
won true b ph elections = (b, ph) ∷ elections
won false b ph elections = elections

-- how a backend leaves, where the phase passed and where it didn't
abbrev pub DepartsBy : Bool → ℕ → ℕ → Call → Option ℕ → List Made → Type 0
DepartsBy true own b begins target more = Passes own b begins target more
DepartsBy false own b begins target more = Visits b (Some begins) target more

module _ {C : Type 0} where
  -- ARRIVE. The backend knows the next phase. It was the last to arrive and is elected, or it waited
  pub record Arrived (b : ℕ) (elected : Bool) (v w : WaitView C) : Type 0 where
    pub phase : ℕ
    pub known : phase_of v.attached b ≡ Some phase
    pub below : phase < last_phase
    pub heeds : Bool
    pub more : List Made
    pub view : w ≡ ended v (at_phase b (phase + 1) v.attached) (won elected b (phase + 1) v.elections) ((b, phase) ∷ v.passed) None heeds more
    pub steps : ((elected ≡ true) × Passes (number_of v.own) b (call.Arrive b) v.target more) ⊎ WaitsOut (number_of v.own) b v.target more

  -- the phase is the one that is never passed: the record was visited, and nothing changed
  pub record IsWorn (b : ℕ) (begins : Call) (at : ℕ) (v w : WaitView C) : Type 0 where
    pub at_last : at ≡ last_phase
    pub known : phase_of v.attached b ≡ Some last_phase
    pub more : List Made
    pub view : w ≡ attaching v v.attached more
    pub visits : Visits b (Some begins) v.target more

  -- LEAVE. The backend isn't attached any more. Where the phase passed it woke those who waited, and has no target
  pub record Departed (b : ℕ) (begins : Call) (passes : Bool) (v w : WaitView C) : Type 0 where
    pub more : List Made
    pub view : w ≡ ended v (away_from b v.attached) v.elections v.passed (cond passes None v.target) v.heeds more
    pub steps : DepartsBy passes (number_of v.own) b begins v.target more

  -- the backend isn't attached any more; or it was the only one, stays attached, and knows the next phase
  pub record DepartedUnlessOnly (b : ℕ) (only : Bool) (v w : WaitView C) : Type 0 where
    pub phase : ℕ
    pub known : phase_of v.attached b ≡ Some phase
    pub below : phase < last_phase
    pub more : List Made
    pub view : w ≡ attaching v (cond only (at_phase b (phase + 1) v.attached) (away_from b v.attached)) more
    pub visits : Visits b (Some (call.ExceptLast b)) v.target more

  -- a phase that may be passed
  abbrev pub IsBefore : ℕ → WaitView C → Type 0
  IsBefore b v = (ph : ℕ) × (phase_of v.attached b ≡ Some ph) × (ph < last_phase)
