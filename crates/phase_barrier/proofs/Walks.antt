-- The view of a seat along the taking, the change and the sending home of a barrier's record.
use Rattle.std.proofs.Common.{◌≡◌, ℕ, ◌+◌, ◌<◌, ◌==◌, Bool, true, false, cond, List, [], ◌∷◌, ◌++◌, append_assoc, Option, None, Some, refl, sym, ap, ◌∙◌, subst, arith}
use Rattle.wait_core.specs.declared.step.Call.{Call}
use Rattle.wait_core.specs.declared.step.Call.TheVariants as call
use Rattle.wait_core.specs.declared.step.Spot.TheVariants.{Bar}
use Rattle.wait_core.specs.declared.step.WaitStep.TheVariants.{Take, Free}
use Rattle.wait_core.specs.declared.view.Frame.TheVariants.{Taking, Holding, Dozing, Passing, Returning}
use Rattle.std.specs.Prelude.{not, MatchOption}
use Rattle.std.proofs.lemmas.Bool.{eqb-false}
use mathlib.Core.Logic.{dite}
use native.Mathlib.Decide.{ℕ_discrete}
use Rattle.wait_core.specs.declared.view.Job.TheVariants as job
use Rattle.wait_core.specs.declared.view.Kept.{Kept}
use Rattle.wait_core.specs.declared.view.Made.{Made}
use Rattle.wait_core.specs.declared.view.Record.{Record}
use Rattle.wait_core.specs.declared.view.Size.{Size}
use Rattle.wait_core.specs.declared.view.WaitView.{WaitView}
use Rattle.wait_core.specs.Words.{last_phase}
use Rattle.wait_core.specs.Barriers.{JobSuits, StepSuits, asked, waits_at}
use Rattle.wait_core.specs.Jobs.{spot_of, at_phase, away_from, has_passed, is_worn, left_list as list_left, left_record, target_after, resumed}
use Rattle.wait_core.specs.Machine.{Place, top, number_of, made_with, as_kept, left_at, taken, next_with, MayTake, Permits}
use Rattle.wait_core.specs.Meanings.{Meanings}
use Rattle.wait_core.specs.Parties.{phase_of}
use Rattle.wait_core.specs.Seating.{party_of}
use Rattle.wait_core.specs.Told.{CountsSeat, IsInside}
use Rattle.latch.specs.Reads.{went}
use Rattle.condition_variable.specs.declared.sleeping.Slept.{Slept}
use Rattle.condition_variable.specs.declared.sleeping.Slept.TheVariants.{Prepared, Signalled}
use Rattle.condition_variable.specs.Visits.{entering, stands}
use Rattle.condition_variable.specs.Calls.{Broadcasts, Sleeps}
use Rattle.phase_barrier.specs.Calls.{Departed, IsBefore, Passes, ended, won}
use Rattle.phase_barrier.specs.declared.visit.Purpose.{Purpose}
use Rattle.phase_barrier.specs.declared.visit.Purpose.TheVariants.{Attach, Arrive, Notice, Detach, ArriveDetach, ExceptLast}
use Rattle.phase_barrier.specs.Visits.{IsKnown, MayLeave, MayVisit, Visits, begins_with, job_for, visited}

-- THE FIRST STEP. Where the record is taken
pub enters_at : (purpose : Purpose) (b : ℕ) (t : Option ℕ) (p : Place) → MayVisit purpose b p → entering (begins_with purpose b) t p ≡ Taking (job_for purpose b) ∷ []
enters_at Attach b t p is = ap (λ (q : Place). entering (Some (call.Attach b)) t q) is
enters_at Arrive b t p is = ap (λ (q : Place). entering (Some (call.Arrive b)) t q) is
enters_at (Notice ph) b t p is = is.0
enters_at Detach b t p is = ap (λ (q : Place). entering (Some (call.Detach b)) t q) is
enters_at ArriveDetach b t p is = ap (λ (q : Place). entering (Some (call.ArriveDetach b)) t q) is
enters_at ExceptLast b t p is = ap (λ (q : Place). entering (Some (call.ExceptLast b)) t q) is

pub permits_visit : (z : Size) (purpose : Purpose) (b : ℕ) (o t : Option ℕ) (p : Place) → b < z.bars → MayVisit purpose b p → Permits z (Take (Bar b) (begins_with purpose b)) o t p
permits_visit z Attach b o t p below is = subst (λ (q : Place). Permits z (Take (Bar b) (Some (call.Attach b))) o t q) (sym is) (below, refl, tt, tt)
permits_visit z Arrive b o t p below is = subst (λ (q : Place). Permits z (Take (Bar b) (Some (call.Arrive b))) o t q) (sym is) (below, refl, tt, tt)
permits_visit z (Notice ph) b o t p below is = subst (λ (q : Place). Permits z (Take (Bar b) None) o t q) (sym is.0) (below, refl)
permits_visit z Detach b o t p below is = subst (λ (q : Place). Permits z (Take (Bar b) (Some (call.Detach b))) o t q) (sym is) (below, refl, tt, tt)
permits_visit z ArriveDetach b o t p below is = subst (λ (q : Place). Permits z (Take (Bar b) (Some (call.ArriveDetach b))) o t q) (sym is) (below, refl, tt, tt)
permits_visit z ExceptLast b o t p below is = subst (λ (q : Place). Permits z (Take (Bar b) (Some (call.ExceptLast b))) o t q) (sym is) (below, refl, tt, tt)

pub job_bar : (purpose : Purpose) (b : ℕ) → spot_of (job_for purpose b) ≡ Bar b
job_bar Attach b = refl
job_bar Arrive b = refl
job_bar (Notice ph) b = refl
job_bar Detach b = refl
job_bar ArriveDetach b = refl
job_bar ExceptLast b = refl

pub takes_job : (purpose : Purpose) (b : ℕ) (p : Place) → p ≡ Taking (job_for purpose b) ∷ [] → MayTake (Bar b) (top p)
takes_job purpose b p is = subst (λ (q : Place). MayTake (Bar b) (top q)) (sym is) (job_bar purpose b)

pub suits_visit : {C : Type 0} (means : Meanings C) (purpose : Purpose) (b : ℕ) (v : WaitView C) → JobSuits means (asked (job_for purpose b)) (party_of v) → StepSuits means (Take (Bar b) (begins_with purpose b)) v
suits_visit means Attach b v suits = suits
suits_visit means Arrive b v suits = suits
suits_visit means (Notice ph) b v suits = tt
suits_visit means Detach b v suits = suits
suits_visit means ArriveDetach b v suits = suits
suits_visit means ExceptLast b v suits = suits

-- the record found allows the change
pub may_leave : (purpose : Purpose) (b : ℕ) (p : Place) (waits : Option (ℕ × ℕ)) (attached : List (ℕ × ℕ)) (r : Record) → MayVisit purpose b p → IsKnown purpose b attached → CountsSeat waits (phase_of attached b) r → MayLeave purpose r
may_leave Attach b p waits attached r may known counts = tt
may_leave Arrive b p waits attached r may known counts = tt
may_leave (Notice ph) b p waits attached r may known counts = may.1
may_leave Detach b p waits attached r may known counts = (subst (λ (o : Option ℕ). CountsSeat waits o r) known.1 counts).0
may_leave ArriveDetach b p waits attached r may known counts = (subst (λ (o : Option ℕ). CountsSeat waits o r) known.1 counts).0
may_leave ExceptLast b p waits attached r may known counts = (subst (λ (o : Option ℕ). CountsSeat waits o r) known.1 counts).0

-- a job on a record leaves the list, the target and whether the seat heeds its signal
keeps_list : (purpose : Purpose) (b own : ℕ) (l : List ℕ) → list_left (job_for purpose b) own l ≡ l
keeps_list Attach b own l = refl
keeps_list Arrive b own l = refl
keeps_list (Notice ph) b own l = refl
keeps_list Detach b own l = refl
keeps_list ArriveDetach b own l = refl
keeps_list ExceptLast b own l = refl

keeps_target : (purpose : Purpose) (b : ℕ) (t : Option ℕ) → target_after (job_for purpose b) t ≡ t
keeps_target Attach b t = refl
keeps_target Arrive b t = refl
keeps_target (Notice ph) b t = refl
keeps_target Detach b t = refl
keeps_target ArriveDetach b t = refl
keeps_target ExceptLast b t = refl

-- THE FREE, from the place where the record was taken in hand and found so
module _ {C : Type 0} (z : Size) (purpose : Purpose) (b : ℕ) (below : b < z.bars) (v w : WaitView C) (list : List ℕ) (r : Record) (took : List Made) (q : Place) (at : q ≡ Taking (job_for purpose b) ∷ []) (was : w ≡ went v (taken true (as_kept list r) q) took) where
  in_hand : w ≡ went v (Holding (job_for purpose b) list r ∷ []) took
  in_hand = was ∙ ap (λ (p : Place). went v (taken true (as_kept list r) p) took) at

  pub may_free : (t : Option ℕ) → t ≡ w.target → Permits z (Free (Bar b) t) w.own w.target w.place
  may_free t is = subst (λ (y : WaitView C). t ≡ y.target → Permits z (Free (Bar b) t) y.own y.target y.place) (sym in_hand) (λ e. (below, (job_bar purpose b, e ∙ sym (keeps_target purpose b v.target)))) is

  pub sends : (left : Record) → left ≡ left_record (job_for purpose b) r → as_kept list left ≡ left_at (number_of w.own) w.place
  sends left is = (λ i. as_kept (sym (keeps_list purpose b (number_of v.own) list) i) (is i)) ∙ ap (λ (y : WaitView C). left_at (number_of y.own) y.place) (sym in_hand)

  pub visits : (x : WaitView C) (t : Option ℕ) (n : ℕ) (k : Kept) → x ≡ next_with z (Free (Bar b) t) w n k → t ≡ w.target → x ≡ visited (job_for purpose b) r v (took ++ made_with (Free (Bar b) v.target) n list ∷ [])
  visits x t n k is same = let target : t ≡ v.target = same ∙ ap (λ (y : WaitView C). y.target) in_hand in is ∙ ((λ i. next_with z (Free (Bar b) (target i)) (in_hand i) n k) ∙ by_purpose purpose)
    where
      by_purpose : (purpose : Purpose) → next_with z (Free (Bar b) v.target) (went v (Holding (job_for purpose b) list r ∷ []) took) n k ≡ visited (job_for purpose b) r v (took ++ made_with (Free (Bar b) v.target) n list ∷ [])
      by_purpose Attach = λ i. record (visited (job.Attach b) r v []) { steps = append_assoc v.steps took (made_with (Free (Bar b) v.target) n list ∷ []) i }
      by_purpose Arrive = λ i. record (visited (job.Arrive b) r v []) { steps = append_assoc v.steps took (made_with (Free (Bar b) v.target) n list ∷ []) i }
      by_purpose (Notice ph) = λ i. record (visited (job.Notice b ph) r v []) { steps = append_assoc v.steps took (made_with (Free (Bar b) v.target) n list ∷ []) i }
      by_purpose Detach = λ i. record (visited (job.Detach b) r v []) { steps = append_assoc v.steps took (made_with (Free (Bar b) v.target) n list ∷ []) i }
      by_purpose ArriveDetach = λ i. record (visited (job.ArriveDetach b) r v []) { steps = append_assoc v.steps took (made_with (Free (Bar b) v.target) n list ∷ []) i }
      by_purpose ExceptLast = λ i. record (visited (job.ExceptLast b) r v []) { steps = append_assoc v.steps took (made_with (Free (Bar b) v.target) n list ∷ []) i }

-- A PHASE THAT PASSES. From the visit that passed it the backend goes on to wake who waited
module _ {C : Type 0} (b ph : ℕ) (begins : Call) (v w x : WaitView C) (attached elections passed : List (ℕ × ℕ)) (visit wakes : List Made) (was : w ≡ record v { place = Passing b ph ∷ []; steps = v.steps ++ visit; attached = attached; elections = elections; passed = passed })
    (is : x ≡ stands w (resumed w.place) None w.heeds wakes) where
  pub passed_view : x ≡ ended v attached elections passed None v.heeds (visit ++ wakes)
  passed_view = is ∙ ((λ i. stands (was i) (resumed (was i).place) None (was i).heeds wakes) ∙ (λ i. record (ended v attached elections passed None v.heeds []) { steps = append_assoc v.steps visit wakes i }))

  pub passes : Visits b (Some begins) v.target visit → Broadcasts (number_of w.own) b w.target wakes → Passes (number_of v.own) b begins v.target (visit ++ wakes)
  passes visits woken = record { visit = visit; wakes = wakes; split = refl; visits = visits; broadcasts = subst (λ (y : WaitView C). Broadcasts (number_of y.own) b y.target wakes) was woken }

-- WHO LEAVES, where the phase passed by that and where it didn't
module _ {C : Type 0} where
  pub left_passing : (b ph : ℕ) (begins : Call) (v w x : WaitView C) (visit wakes : List Made) (t : Bool) → t ≡ true → w ≡ record v { place = Passing b ph ∷ []; steps = v.steps ++ visit; attached = away_from b v.attached } → Visits b (Some begins) v.target visit
      → x ≡ stands w (resumed w.place) None w.heeds wakes → Broadcasts (number_of w.own) b w.target wakes → Departed b begins t v x
  left_passing b ph begins v w x visit wakes t e was visits is woken = subst (λ (y : Bool). Departed b begins y v x) (sym e)
      (record { more = visit ++ wakes; view = passed_view b ph begins v w x (away_from b v.attached) v.elections v.passed visit wakes was is; steps = passes b ph begins v w x (away_from b v.attached) v.elections v.passed visit wakes was is visits woken })

  pub left_quietly : (b : ℕ) (begins : Call) (v x : WaitView C) (visit : List Made) (t : Bool) → t ≡ false → x ≡ record v { place = []; steps = v.steps ++ visit; attached = away_from b v.attached } → Visits b (Some begins) v.target visit → Departed b begins t v x
  left_quietly b begins v x visit t e is visits = subst (λ (y : Bool). Departed b begins y v x) (sym e) (record { more = visit; view = is; steps = visits })

  -- who isn't refused found a phase that may be passed, the one that it knows
  pub known_phase : (b ph : ℕ) (v : WaitView C) (found : Record) → v.place ≡ [] → phase_of v.attached b ≡ Some ph → CountsSeat (waits_at v.place) (phase_of v.attached b) found → found.phase ≡ ph
  known_phase b ph v found idle known counts = (subst (λ (x : Option (ℕ × ℕ) × Option ℕ). CountsSeat x.0 x.1 found) (λ i. (waits_at (idle i), known i)) counts).1

  pub before_last : (b : ℕ) (v : WaitView C) (found : Record) → v.place ≡ [] → (ph : ℕ) → phase_of v.attached b ≡ Some ph → IsInside found → CountsSeat (waits_at v.place) (phase_of v.attached b) found → is_worn found ≡ false → IsBefore b v
  before_last b v found idle ph known inside counts unworn = let is = known_phase b ph v found idle known counts in let most = inside.phase in let ne = eqb-false found.phase last_phase unworn in
      (ph, known, dite (ℕ_discrete ph last_phase) (λ (e : ph ≡ last_phase). absurd (ne (is ∙ e))) (λ apart. omega arith))

-- who had no target has none, whether the phase passed or not
pub no_target : (passes : Bool) (t : Option ℕ) → t ≡ None → cond {A = Option ℕ} passes None t ≡ None
no_target true t none = refl
no_target false t none = none

-- A LOOK in an arrival that waits, from the view l at the place where it looks
module _ {C : Type 0} (b ph : ℕ) (v l w : WaitView C) (found : Record) (heeds : Bool) (before look : List Made) (at : l ≡ stands v (Taking (job.Notice b ph) ∷ []) (Some b) heeds before) (was : w ≡ visited (job.Notice b ph) found l look) where
  -- the phase has passed, and it leaves the list
  returning : (passed : has_passed ph found ≡ true) → w ≡ record v { place = Returning b ph ∷ []; steps = v.steps ++ (before ++ look); target = Some b; heeds = heeds; attached = at_phase b (ph + 1) v.attached; elections = cond (found.elected == ph + 1) v.elections ((b, ph + 1) ∷ v.elections); passed = (b, ph) ∷ v.passed }
  returning passed = was ∙ ((λ i. visited (job.Notice b ph) found (at i) look)
      ∙ (λ i. record v { place = cond (passed i) (Returning b ph ∷ []) (Dozing b ph ∷ []); steps = append_assoc v.steps before look i; target = Some b; heeds = heeds; attached = cond (passed i) (at_phase b (ph + 1) v.attached) v.attached; elections = cond (passed i) (cond (found.elected == ph + 1) v.elections ((b, ph + 1) ∷ v.elections)) v.elections; passed = cond (passed i) ((b, ph) ∷ v.passed) v.passed }))

  pub left_list : has_passed ph found ≡ true → (x : WaitView C) (leave : List Made) (elected : Bool) → elected ≡ not (found.elected == ph + 1) → x ≡ stands w (resumed w.place) None w.heeds leave → x ≡ ended v (at_phase b (ph + 1) v.attached) (won elected b (ph + 1) v.elections) ((b, ph) ∷ v.passed) None heeds (before ++ (look ++ leave))
  left_list passed x leave elected is left = let r = returning passed in left ∙ ((λ i. stands (r i) (resumed (r i).place) None (r i).heeds leave)
      ∙ (λ i. record v { place = []; steps = steps_are i; target = None; heeds = heeds; attached = at_phase b (ph + 1) v.attached; elections = (by_elected (found.elected == ph + 1) ∙ ap (λ (e : Bool). won e b (ph + 1) v.elections) (sym is)) i; passed = (b, ph) ∷ v.passed }))
    where
      steps_are : (v.steps ++ (before ++ look)) ++ leave ≡ v.steps ++ (before ++ (look ++ leave))
      steps_are = append_assoc v.steps (before ++ look) leave ∙ ap (λ (m : List Made). v.steps ++ m) (append_assoc before look leave)

      by_elected : (won_before : Bool) → cond won_before v.elections ((b, ph + 1) ∷ v.elections) ≡ won (not won_before) b (ph + 1) v.elections
      by_elected true = refl
      by_elected false = refl

  -- the phase hasn't passed, and it sleeps
  pub slept_on : has_passed ph found ≡ false → (y : WaitView C) (sleep : List Made) → y ≡ stands w (resumed w.place) (Some b) true sleep → y ≡ stands v (Taking (job.Notice b ph) ∷ []) (Some b) true (before ++ (look ++ sleep))
  slept_on stays y sleep is = is ∙ ((λ i. stands (dozing i) (resumed (dozing i).place) (Some b) true sleep) ∙ (λ i. record v { place = Taking (job.Notice b ph) ∷ []; steps = steps_are i; target = Some b; heeds = true }))
    where
      dozing : w ≡ record v { place = Dozing b ph ∷ []; steps = v.steps ++ (before ++ look); target = Some b; heeds = heeds }
      dozing = was ∙ ((λ i. visited (job.Notice b ph) found (at i) look)
          ∙ (λ i. record v { place = cond (stays i) (Returning b ph ∷ []) (Dozing b ph ∷ []); steps = append_assoc v.steps before look i; target = Some b; heeds = heeds; attached = cond (stays i) (at_phase b (ph + 1) v.attached) v.attached; elections = cond (stays i) (cond (found.elected == ph + 1) v.elections ((b, ph + 1) ∷ v.elections)) v.elections; passed = cond (stays i) ((b, ph) ∷ v.passed) v.passed }))

      steps_are : (v.steps ++ (before ++ look)) ++ sleep ≡ v.steps ++ (before ++ (look ++ sleep))
      steps_are = append_assoc v.steps (before ++ look) sleep ∙ ap (λ (m : List Made). v.steps ++ m) (append_assoc before look sleep)

  -- the visit keeps the number and the target
  pub own_kept : number_of w.own ≡ number_of v.own
  own_kept = ap (λ (y : WaitView C). number_of y.own) was ∙ ap (λ (y : WaitView C). number_of y.own) at

  pub target_kept : w.target ≡ Some b
  target_kept = ap (λ (y : WaitView C). y.target) was ∙ ap (λ (y : WaitView C). y.target) at

  pub looks_kept : Visits b None l.target look → Visits b None (Some b) look
  looks_kept = subst (λ (t : Option ℕ). Visits b None t look) (ap (λ (y : WaitView C). y.target) at)

-- a sleep on the target is one that was signalled
pub only_signalled : (own c : ℕ) (t : Option ℕ) (slept : Slept) (more : List Made) → t ≡ Some c → Sleeps own c t slept more → Sleeps own c (Some c) Signalled more
only_signalled own c t Prepared more is sleeps = absurd (sleeps.0 is)
only_signalled own c t Signalled more is sleeps = (refl, sleeps.1)

-- what is said of a condition that there is
pub of_some : (t : Option ℕ) (c : ℕ) (N : Type 0) (S : ℕ → Type 0) → t ≡ Some c → MatchOption t N S → S c
of_some None c N S is h = absurd (cc)
of_some (Some d) c N S is h = let same : d ≡ c = cc in subst S same h
