-- How a barrier's record is taken in hand, changed and sent home, by the steps that stand in the seat's view.
use Rattle.std.specs.Prelude.{◌≡◌, ◌<◌, ◌≤◌, ℕ, ⊤, List, [], ◌∷◌, ◌++◌, Option, None, Some}
use Rattle.wait_core.specs.declared.step.Spot.TheVariants.{Bar}
use Rattle.wait_core.specs.declared.step.Call.{Call}
use Rattle.wait_core.specs.declared.step.Call.TheVariants as call
use Rattle.wait_core.specs.declared.step.WaitStep.TheVariants.{Free}
use Rattle.wait_core.specs.declared.view.Frame.TheVariants.{Taking}
use Rattle.wait_core.specs.declared.view.Job.{Job}
use Rattle.wait_core.specs.declared.view.Job.TheVariants as job
use Rattle.wait_core.specs.declared.view.Made.{Made}
use Rattle.wait_core.specs.declared.view.Record.{Record}
use Rattle.wait_core.specs.declared.view.WaitView.{WaitView}
use Rattle.wait_core.specs.Words.{last_phase}
use Rattle.wait_core.specs.Jobs.{attached_after, elections_after, passed_after, goes_on}
use Rattle.wait_core.specs.Machine.{Place, made_with, number_of}
use Rattle.wait_core.specs.Parties.{phase_of}
use Rattle.condition_variable.specs.Visits.{Takes}
use Rattle.phase_barrier.specs.declared.visit.Purpose.{Purpose}
use Rattle.phase_barrier.specs.declared.visit.Purpose.TheVariants.{Attach, Arrive, Notice, Detach, ArriveDetach, ExceptLast}

-- the job for the purpose, and the call that begins with it
abbrev pub job_for : Purpose → ℕ → Job
job_for Attach b = job.Attach b
job_for Arrive b = job.Arrive b
job_for (Notice ph) b = job.Notice b ph
job_for Detach b = job.Detach b
job_for ArriveDetach b = job.ArriveDetach b
job_for ExceptLast b = job.ExceptLast b

abbrev pub begins_with : Purpose → ℕ → Option Call
begins_with Attach b = Some (call.Attach b)
begins_with Arrive b = Some (call.Arrive b)
begins_with (Notice ph) b = None
begins_with Detach b = Some (call.Detach b)
begins_with ArriveDetach b = Some (call.ArriveDetach b)
begins_with ExceptLast b = Some (call.ExceptLast b)

-- where a seat may take the record for it: in no call, or where its arrival looks at it
abbrev pub MayVisit : Purpose → ℕ → Place → Type 0
MayVisit (Notice ph) b p = (p ≡ Taking (job.Notice b ph) ∷ []) × (ph < last_phase)
MayVisit purpose b p = p ≡ []

-- who attaches isn't attached yet; for all else a seat is
abbrev pub IsKnown : Purpose → ℕ → List (ℕ × ℕ) → Type 0
IsKnown Attach b attached = phase_of attached b ≡ None
IsKnown purpose b attached = (ph : ℕ) × (phase_of attached b ≡ Some ph)

-- who leaves is counted by the record, and a phase from which somebody waits isn't the last
abbrev pub MayLeave : Purpose → Record → Type 0
MayLeave (Notice ph) r = ph < last_phase
MayLeave Detach r = 1 ≤ r.participants
MayLeave ArriveDetach r = 1 ≤ r.participants
MayLeave ExceptLast r = 1 ≤ r.participants
MayLeave purpose r = ⊤

-- the record of the barrier b was taken in hand once, and sent home; a call may begin with that, and the target is as before
pub record Visits (b : ℕ) (begins : Option Call) (target : Option ℕ) (more : List Made) : Type 0 where
  pub took : List Made
  pub word : ℕ
  pub list : List ℕ
  pub split : more ≡ took ++ made_with (Free (Bar b) target) word list ∷ []
  pub takes : Takes (Bar b) begins list took

-- the view of a seat after more steps, which took the record for the job j, and found it so: it goes on as that job says, and nothing else changed
abbrev pub visited : {C : Type 0} → Job → Record → WaitView C → List Made → WaitView C
visited j found v more = record v { place = goes_on j (number_of v.own) [] found []; steps = v.steps ++ more; attached = attached_after j found v.attached; elections = elections_after j found v.elections; passed = passed_after j found v.passed }
