-- What a spin word is taken for: which word, what its free makes of the list, of the record, of the seat's target, of whether it heeds its signal, of its attachments, of its elections and of the phases that it waited out, and how the program goes on.
use Rattle.std.specs.Prelude.{ℕ, ◌+◌, ◌-◌, ◌==◌, nat_lt, Bool, true, false, cond, List, [], ◌∷◌, ◌++◌, Option, None, Some}
use Rattle.wait_core.specs.declared.step.Spot.{Spot}
use Rattle.wait_core.specs.declared.step.Spot.TheVariants.{Cv, Bar}
use Rattle.wait_core.specs.declared.view.Job.{Job}
use Rattle.wait_core.specs.declared.view.Job.TheVariants as job
use Rattle.wait_core.specs.declared.view.Frame.{Frame}
use Rattle.wait_core.specs.declared.view.Frame.TheVariants.{Taking, Resetting, SleepWaiting, Preparing, Broadcasting, Signalling, Rousing, Settling, Dozing, Passing, Returning}
use Rattle.wait_core.specs.declared.view.Record.{Record}
use Rattle.wait_core.specs.Words.{last_phase}
use Rattle.wait_core.specs.Lists.{is_listed, is_empty, rest_of, without}

-- the spin word of the job
abbrev pub spot_of : Job → Spot
spot_of (job.Cancel c) = Cv c
spot_of (job.Prepare c) = Cv c
spot_of (job.Resleep c) = Cv c
spot_of (job.Signal c) = Cv c
spot_of (job.Broadcast c) = Cv c
spot_of (job.Rebroadcast c) = Cv c
spot_of (job.Attach b) = Bar b
spot_of (job.Arrive b) = Bar b
spot_of (job.Notice b ph) = Bar b
spot_of (job.Detach b) = Bar b
spot_of (job.ArriveDetach b) = Bar b
spot_of (job.ExceptLast b) = Bar b

-- the list that goes home, where the backend `own` found this one
abbrev pub left_list : Job → ℕ → List ℕ → List ℕ
left_list (job.Cancel c) own list = without own list
left_list (job.Prepare c) own list = list ++ own ∷ []
left_list (job.Resleep c) own list = cond (is_listed own list) list (list ++ own ∷ [])
left_list (job.Signal c) own list = rest_of list
left_list (job.Broadcast c) own list = cond (is_empty (rest_of list)) [] (rest_of list ++ own ∷ [])
left_list (job.Rebroadcast c) own list = rest_of list
left_list j own list = list

-- A RECORD, as it was found. Its phase is never passed
abbrev pub is_worn : Record → Bool
is_worn r = r.phase == last_phase

-- all who take part but one have arrived
abbrev pub is_last : Record → Bool
is_last r = r.arrived + 1 == r.participants

-- there is no other who takes part
abbrev pub is_only : Record → Bool
is_only r = r.participants == 1

-- all others have arrived, and there are some
abbrev pub is_awaited : Record → Bool
is_awaited r = cond (is_last r) (nat_lt 1 r.participants) false

-- the phase from which somebody waits has passed
abbrev pub has_passed : ℕ → Record → Bool
has_passed ph r = r.phase == ph + 1

-- one participant less, and the phase passes or it doesn't
abbrev pub departed : Bool → Record → Record
departed false r = record r { participants = r.participants - 1 }
departed true r = record { phase = r.phase + 1; participants = r.participants - 1; arrived = 0; elected = r.elected }

-- the record that goes home
abbrev pub left_record : Job → Record → Record
left_record (job.Attach b) r = record r { participants = r.participants + 1 }
left_record (job.Arrive b) r = cond (is_worn r) r (cond (is_last r) (record r { phase = r.phase + 1; arrived = 0; elected = r.phase + 1 }) (record r { arrived = r.arrived + 1 }))
left_record (job.Notice b ph) r = cond (has_passed ph r) (record r { elected = r.phase }) r
left_record (job.Detach b) r = departed (is_awaited r) r
left_record (job.ArriveDetach b) r = cond (is_worn r) r (departed (is_last r) r)
left_record (job.ExceptLast b) r = cond (is_worn r) r (cond (is_only r) (record r { phase = r.phase + 1 }) (record r { participants = r.participants - 1 }))
left_record j r = r

-- the barriers to which the seat is attached after it, each with the phase that it knows: without one of them, at a phase of one of them, and after a free
abbrev pub away_from : ℕ → List (ℕ × ℕ) → List (ℕ × ℕ)
away_from b [] = []
away_from b (a ∷ more) = cond (a.0 == b) (away_from b more) (a ∷ away_from b more)

abbrev pub at_phase : ℕ → ℕ → List (ℕ × ℕ) → List (ℕ × ℕ)
at_phase b ph attached = (b, ph) ∷ away_from b attached

abbrev pub attached_after : Job → Record → List (ℕ × ℕ) → List (ℕ × ℕ)
attached_after (job.Attach b) r attached = (b, r.phase) ∷ attached
attached_after (job.Arrive b) r attached = cond (is_worn r) attached (cond (is_last r) (at_phase b (r.phase + 1) attached) attached)
attached_after (job.Notice b ph) r attached = cond (has_passed ph r) (at_phase b (ph + 1) attached) attached
attached_after (job.Detach b) r attached = away_from b attached
attached_after (job.ArriveDetach b) r attached = cond (is_worn r) attached (away_from b attached)
attached_after (job.ExceptLast b) r attached = cond (is_worn r) attached (cond (is_only r) (at_phase b (r.phase + 1) attached) (away_from b attached))
attached_after j r attached = attached

-- its elections after it: the last to arrive is elected, and of those who waited the first that notices, where nobody is yet
abbrev pub elections_after : Job → Record → List (ℕ × ℕ) → List (ℕ × ℕ)
elections_after (job.Arrive b) r elections = cond (is_worn r) elections (cond (is_last r) ((b, r.phase + 1) ∷ elections) elections)
elections_after (job.Notice b ph) r elections = cond (has_passed ph r) (cond (r.elected == ph + 1) elections ((b, ph + 1) ∷ elections)) elections
elections_after j r elections = elections

-- the phases that it waited out after it: the last to arrive its own, and of those who waited each that notices
abbrev pub passed_after : Job → Record → List (ℕ × ℕ) → List (ℕ × ℕ)
passed_after (job.Arrive b) r passed = cond (is_worn r) passed (cond (is_last r) ((b, r.phase) ∷ passed) passed)
passed_after (job.Notice b ph) r passed = cond (has_passed ph r) ((b, ph) ∷ passed) passed
passed_after j r passed = passed

-- the seat's target after it
abbrev pub target_after : Job → Option ℕ → Option ℕ
target_after (job.Cancel c) target = None
target_after (job.Prepare c) target = Some c
target_after j target = target

-- who goes to the end of a list heeds its signal, until it resets its latch by itself
abbrev pub heeds_after : Job → ℕ → List ℕ → Bool → Bool
heeds_after (job.Prepare c) own list heeds = true
heeds_after (job.Resleep c) own list heeds = cond (is_listed own list) heeds true
heeds_after j own list heeds = heeds

-- the place that follows a program that ended above this one. A broadcast goes on while its sentinel is on the list
abbrev pub resumed : List Frame → List Frame
resumed [] = []
resumed (SleepWaiting c ∷ p) = Resetting c ∷ p
resumed (Preparing c ∷ p) = Taking (job.Prepare c) ∷ p
resumed (Broadcasting c ∷ p) = Taking (job.Broadcast c) ∷ p
resumed (Signalling c q ∷ p) = resumed p
resumed (Rousing c q more ∷ p) = cond more (Taking (job.Rebroadcast c) ∷ p) (resumed p)
resumed (Settling b ph ∷ p) = Taking (job.Notice b ph) ∷ p
resumed (Dozing b ph ∷ p) = Taking (job.Notice b ph) ∷ p
resumed (Passing b ph ∷ p) = resumed p
resumed (Returning b ph ∷ p) = resumed p
resumed (f ∷ p) = f ∷ p

-- the head was popped by a signal; by a broadcast whose sentinel stands behind the others, if there are any; and by a broadcast that goes on, until it pops its sentinel
abbrev pub signals : ℕ → List ℕ → List Frame → List Frame
signals c [] p = resumed p
signals c (q ∷ rest) p = Signalling c q ∷ p

abbrev pub rouses : ℕ → List ℕ → List Frame → List Frame
rouses c [] p = resumed p
rouses c (q ∷ rest) p = Rousing c q (cond (is_empty rest) false true) ∷ p

abbrev pub rouses_on : ℕ → ℕ → List ℕ → List Frame → List Frame
rouses_on c own [] p = resumed p
rouses_on c own (q ∷ rest) p = cond (q == own) (resumed p) (Rousing c q (is_listed own rest) ∷ p)

-- who passed a phase wakes those who wait
abbrev pub passes_on : Bool → ℕ → Record → List Frame → List Frame
passes_on true b r p = Passing b r.phase ∷ p
passes_on false b r p = resumed p

-- the place after the free
abbrev pub goes_on : Job → ℕ → List ℕ → Record → List Frame → List Frame
goes_on (job.Cancel c) own list r p = resumed p
goes_on (job.Prepare c) own list r p = resumed p
goes_on (job.Resleep c) own list r p = cond (is_listed own list) (SleepWaiting c ∷ p) (resumed p)
goes_on (job.Signal c) own list r p = signals c list p
goes_on (job.Broadcast c) own list r p = rouses c list p
goes_on (job.Rebroadcast c) own list r p = rouses_on c own list p
goes_on (job.Arrive b) own list r p = cond (is_worn r) (resumed p) (cond (is_last r) (Passing b r.phase ∷ p) (Settling b r.phase ∷ p))
goes_on (job.Notice b ph) own list r p = cond (has_passed ph r) (Returning b ph ∷ p) (Dozing b ph ∷ p)
goes_on (job.Detach b) own list r p = passes_on (is_awaited r) b r p
goes_on (job.ArriveDetach b) own list r p = cond (is_worn r) (resumed p) (passes_on (is_last r) b r p)
goes_on j own list r p = resumed p
