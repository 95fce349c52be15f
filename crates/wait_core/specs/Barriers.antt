-- What the table keeps of barriers: where each record is, whom it counts, and what is true of the seats that are attached.
use Rattle.std.specs.Prelude.{◌≡◌, ◌⊎◌, ℕ, suc, ◌+◌, ◌<◌, ◌≤◌, ◌==◌, cond, List, [], ◌∷◌, map, Option, Some, None, ⊤}
use mathlib.Core.Option as maybe
use lib.ListN.{get_elem?}
use Rattle.wait_core.specs.declared.step.Spot.TheVariants.{Bar}
use Rattle.wait_core.specs.declared.step.Call.{Call}
use Rattle.wait_core.specs.declared.step.Call.TheVariants as call
use Rattle.wait_core.specs.declared.step.WaitStep.{WaitStep}
use Rattle.wait_core.specs.declared.step.WaitStep.TheVariants.{Take, Free}
use Rattle.wait_core.specs.declared.view.Frame.TheVariants.{Taking, Spinning, Holding, Settling, Dozing}
use Rattle.wait_core.specs.declared.view.Job.{Job}
use Rattle.wait_core.specs.declared.view.Job.TheVariants as job
use Rattle.wait_core.specs.declared.view.PartyView.{PartyView}
use Rattle.wait_core.specs.declared.view.Record.{Record}
use Rattle.wait_core.specs.declared.view.Size.{Size}
use Rattle.wait_core.specs.declared.view.WaitView.{WaitView}
use Rattle.seat_roster.specs.Totals.{total}
use Rattle.seat_roster.specs.Roster.{one_if}
use Rattle.wait_core.specs.Words.{last_phase, slot_of, opened}
use Rattle.wait_core.specs.Jobs.{spot_of}
use Rattle.wait_core.specs.Machine.{WaitState, Place, home_in}
use Rattle.wait_core.specs.Meanings.{Meanings}
use Rattle.wait_core.specs.Parties.{phase_of, now, Elected}
use Rattle.wait_core.specs.Seating.{party_of}
use Rattle.wait_core.specs.Stances.{Homes}

-- where a place waits for a barrier's phase to pass: the barrier and the phase. An arrival waits from the free by which it arrived to the free by which it notices that the phase has passed
abbrev pub noticing : Job → Option (ℕ × ℕ) → Option (ℕ × ℕ)
noticing (job.Notice b ph) waits = Some (b, ph)
noticing j waits = waits

abbrev pub waits_at : Place → Option (ℕ × ℕ)
waits_at [] = None
waits_at (Settling b ph ∷ p) = Some (b, ph)
waits_at (Dozing b ph ∷ p) = Some (b, ph)
waits_at (Taking j ∷ p) = noticing j (waits_at p)
waits_at (Spinning j ∷ p) = noticing j (waits_at p)
waits_at (Holding j list found ∷ p) = noticing j (waits_at p)
waits_at (f ∷ p) = waits_at p

-- 1 where it waits at the barrier from the phase
abbrev pub is_from : ℕ → ℕ → Option (ℕ × ℕ) → ℕ
is_from b ph None = 0
is_from b ph (Some w) = cond (w.0 == b) (cond (w.1 == ph) 1 0) 0

-- the job on a barrier that a call begins with, and that which a seat is at
abbrev pub asked_by : Call → Option Job
asked_by (call.Attach b) = Some (job.Attach b)
asked_by (call.Arrive b) = Some (job.Arrive b)
asked_by (call.Detach b) = Some (job.Detach b)
asked_by (call.ArriveDetach b) = Some (job.ArriveDetach b)
asked_by (call.ExceptLast b) = Some (job.ExceptLast b)
asked_by c = None

abbrev pub asked : Job → Option Job
asked (job.Attach b) = Some (job.Attach b)
asked (job.Arrive b) = Some (job.Arrive b)
asked (job.Detach b) = Some (job.Detach b)
asked (job.ArriveDetach b) = Some (job.ArriveDetach b)
asked (job.ExceptLast b) = Some (job.ExceptLast b)
asked j = None

abbrev pub asks_at : Place → Option Job
asks_at (Taking j ∷ p) = asked j
asks_at (Spinning j ∷ p) = asked j
asks_at (Holding j list found ∷ p) = asked j
asks_at p = None

-- and after a step
abbrev pub asks_then : WaitStep → Place → Option Job
asks_then (Take x (Some c)) p = asked_by c
asks_then (Free x target) p = None
asks_then k p = asks_at p

-- what f reads of the record in the slot x, where the seat has it in hand
abbrev pub held_field : (Record → ℕ) → ℕ → Place → ℕ
held_field f x (Holding j list found ∷ p) = cond (slot_of (spot_of j) == x) (f found) 0
held_field f x p = 0

-- where a seat stands, and what its client sees of it
pub record Attendance (C : Type 0) : Type 0 where
  pub place : Place
  pub party : PartyView C

module _ {C : Type 0} where
  abbrev pub attendance_of : WaitView C → Attendance C
  attendance_of v = record { place = v.place; party = party_of v }

  -- RECORDS. What f reads of the record of the barrier b, at home or as its holder found it
  abbrev pub field_of : (Record → ℕ) → ℕ → Homes → List (Attendance C) → ℕ
  field_of f b homes seats = f (home_in homes (slot_of (Bar b))).record + total (λ v. held_field f (slot_of (Bar b)) v.place) seats

  abbrev pub phase_in : ℕ → Homes → List (Attendance C) → ℕ
  phase_in b homes seats = field_of (λ r. r.phase) b homes seats

  -- the phase of each barrier
  abbrev pub phases : Size → Homes → List (Attendance C) → List ℕ
  phases z homes seats = opened (λ b. phase_in b homes seats) z.bars

  abbrev pub phases_in : Size → WaitState C → List ℕ
  phases_in z s = phases z s.homes (map attendance_of s.views)

  -- 1 where the seat is attached to the barrier
  abbrev pub takes_part : ℕ → Attendance C → ℕ
  takes_part b v = one_if (phase_of v.party.attached b)

  -- 1 where it waits there from the phase
  abbrev pub waits_from : ℕ → ℕ → Attendance C → ℕ
  waits_from b ph v = is_from b ph (waits_at v.place)

  -- a barrier's record counts the seats that are attached to it, and of those the ones that wait for its phase to pass
  abbrev pub CountsParticipants : Size → Homes → List (Attendance C) → Type 0
  CountsParticipants z homes seats = (b : ℕ) → b < z.bars → field_of (λ r. r.participants) b homes seats ≡ total (takes_part b) seats

  abbrev pub CountsArrived : Size → Homes → List (Attendance C) → Type 0
  CountsArrived z homes seats = (b : ℕ) → b < z.bars → field_of (λ r. r.arrived) b homes seats ≡ total (waits_from b (phase_in b homes seats)) seats

  -- no phase is below that of the opening, nor above the one that is never passed
  abbrev pub PhasesAreInside : Size → ℕ → Homes → List (Attendance C) → Type 0
  PhasesAreInside z phase homes seats = (b : ℕ) → b < z.bars → (phase ≤ phase_in b homes seats) × (phase_in b homes seats ≤ last_phase)

  -- a seat knows the phase of each barrier that it is attached to; or it waits there from that phase, which has passed
  abbrev pub KnowsPhases : List ℕ → Attendance C → Type 0
  KnowsPhases phases v = (b ph : ℕ) → phase_of v.party.attached b ≡ Some ph → (now phases b ≡ ph) ⊎ ((now phases b ≡ suc ph) × (waits_at v.place ≡ Some (b, ph)))

  abbrev pub PhasesAreKnown : List ℕ → List (Attendance C) → Type 0
  PhasesAreKnown phases seats = (id : ℕ) (v : Attendance C) → get_elem? seats id ≡ maybe.some v → KnowsPhases phases v

  -- who waits is attached to the barrier, and knows the phase that it waits from; it is quiet in it, and that phase may pass
  pub record IsWaiter (means : Meanings C) (v : PartyView C) (b ph : ℕ) : Type 0 where
    pub attached : phase_of v.attached b ≡ Some ph
    pub quiet : means.quiet v b ph
    pub passes : means.passes b ph
    pub below : ph < last_phase

  abbrev pub WaitersAreQuiet : Meanings C → List (Attendance C) → Type 0
  WaitersAreQuiet means seats = (id : ℕ) (v : Attendance C) → get_elem? seats id ≡ maybe.some v → (b ph : ℕ) → waits_at v.place ≡ Some (b, ph) → IsWaiter means v.party b ph

  -- no election is above the last one that the barrier's record has, and that isn't above its phase
  pub record ElectionsAreRecorded (z : Size) (homes : Homes) (seats : List (Attendance C)) : Type 0 where
    pub past : (b : ℕ) → b < z.bars → field_of (λ r. r.elected) b homes seats ≤ phase_in b homes seats
    pub known : (id : ℕ) (v : Attendance C) → get_elem? seats id ≡ maybe.some v → (b ph : ℕ) → Elected v.party.elections b ph → (b < z.bars) × (ph ≤ field_of (λ r. r.elected) b homes seats)

  -- CALLS. What a barrier's call asks of the seat, while it is under way: who attaches isn't attached there yet, and may
  abbrev pub MayAttach : Meanings C → ℕ → PartyView C → Type 0
  MayAttach means b v = (phase_of v.attached b ≡ None) × means.enters v b

  -- who arrives or leaves is attached there and quiet in the phase that it knows; of which this is so
  abbrev pub IsDone : Meanings C → ℕ → (ℕ → Type 0) → PartyView C → Type 0
  IsDone means b Lets v = (ph : ℕ) × (phase_of v.attached b ≡ Some ph) × means.quiet v b ph × Lets ph

  -- the phase may pass; a seat may leave in it; and it may pass and a seat may leave, before that or after
  abbrev pub LetsPass : Meanings C → ℕ → ℕ → Type 0
  LetsPass means b ph = means.passes b ph

  abbrev pub LetsLeave : Meanings C → ℕ → ℕ → Type 0
  LetsLeave means b ph = means.stays b ph → ⊥

  abbrev pub LetsBoth : Meanings C → ℕ → ℕ → Type 0
  LetsBoth means b ph = LetsPass means b ph × LetsLeave means b ph × LetsLeave means b (suc ph)

  abbrev pub JobSuits : Meanings C → Option Job → PartyView C → Type 0
  JobSuits means (Some (job.Attach b)) v = MayAttach means b v
  JobSuits means (Some (job.Arrive b)) v = IsDone means b (LetsPass means b) v
  JobSuits means (Some (job.Detach b)) v = IsDone means b (LetsLeave means b) v
  JobSuits means (Some (job.ArriveDetach b)) v = IsDone means b (LetsBoth means b) v
  JobSuits means (Some (job.ExceptLast b)) v = IsDone means b (LetsPass means b) v
  JobSuits means j v = ⊤

  abbrev pub CallsSuit : Meanings C → List (Attendance C) → Type 0
  CallsSuit means seats = (id : ℕ) (v : Attendance C) → get_elem? seats id ≡ maybe.some v → JobSuits means (asks_at v.place) v.party

  -- the client lets the seat begin a barrier's call with the step
  abbrev pub StepSuits : Meanings C → WaitStep → WaitView C → Type 0
  StepSuits means (Take x (Some c)) v = JobSuits means (asked_by c) (party_of v)
  StepSuits means k v = ⊤
