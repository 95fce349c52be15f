-- The statements of the laws over states and over runs.
use Rattle.std.specs.Prelude.{◌≡◌, ◌⊎◌, ℕ, suc, ◌-◌, ◌<◌, ◌≤◌, List, [], ◌∷◌, length, true, None, Some, slice_index}
use mathlib.Core.Option as maybe
use lib.ListN.{get_elem?}
use Rattle.atomic_table.specs.Table.{opening}
use Rattle.wait_core.specs.declared.party.ClientOp.{ClientOp}
use Rattle.wait_core.specs.declared.view.Kept.{Kept}
use Rattle.wait_core.specs.declared.view.PartyView.{PartyView}
use Rattle.wait_core.specs.declared.view.Size.{Size}
use Rattle.wait_core.specs.declared.view.WaitView.{WaitView}
use Rattle.wait_core.specs.Meanings.{Meanings}
use Rattle.wait_core.specs.Words.{most_conditions, last_phase, set_at, shut_at, opened, opening_words, opening_phases}
use Rattle.wait_core.specs.Machine.{WaitState}
use Rattle.wait_core.specs.Parties.{Elected, newcomer, now}
use Rattle.wait_core.specs.OneElected.{times_of, WaitedOut}
use Rattle.wait_core.specs.Seating.{fresh}
use Rattle.wait_core.specs.Slots.{OpeningSlots}
use Rattle.seat_roster.specs.Roster.{times}
use Rattle.wait_core.specs.Runs.{Deed, Runs, Somewhere}
use Rattle.wait_core.specs.Broadcasts.{listed_on, StandsBehind, AtFirstTake, TakesOff}
use Rattle.wait_core.specs.Barriers.{waits_at, phases_in}
use Rattle.wait_core.specs.PassedPhaseIsBroadcast.{IsBroadcastTo}
use Rattle.wait_core.specs.Wakes.{IsAsleep, SleepsTillShutdown, LatchWakePending, ShutdownWakePending, SignalPending}

module _ {C : Type 0} where
  -- nobody is asleep with its own latch set, unless a wake is pending
  abbrev pub NoSetLatchIsSleptOn : WaitState C → Type 0
  NoSetLatchIsSleptOn s = (id p : ℕ) (v : WaitView C) → get_elem? s.views id ≡ maybe.some v → v.own ≡ Some p → IsAsleep v → slice_index s.words (set_at p) ≡ 1 → LatchWakePending p s

  -- nobody is asleep in a wait that a shutdown ends with the shutdown word stored, unless a wake is pending
  abbrev pub NoShutdownIsSleptThrough : Size → WaitState C → Type 0
  NoShutdownIsSleptThrough z s = (id p : ℕ) (v : WaitView C) → get_elem? s.views id ≡ maybe.some v → v.own ≡ Some p → SleepsTillShutdown v → slice_index s.words (shut_at z) ≡ 1 → ShutdownWakePending p s

  -- A backend with a target that is off its list was signalled. Where it hasn't reset its latch outside of a sleep since it was listed, it isn't asleep, unless a wake is pending, or who signalled it has still to set its latch
  abbrev pub NoSignalIsSleptThrough : WaitState C → Type 0
  NoSignalIsSleptThrough s = (id p c : ℕ) (v : WaitView C) → get_elem? s.views id ≡ maybe.some v → v.own ≡ Some p → v.target ≡ Some c → v.heeds ≡ true → listed_on p c s ≡ 0 → IsAsleep v → LatchWakePending p s ⊎ SignalPending p s

  -- nobody who waits at a barrier from a phase that has passed is asleep, unless it is listed and another who passed that phase is broadcasting to it, a wake is pending, or who popped it has still to set its latch
  abbrev pub NobodySleepsPastItsPhase : Size → WaitState C → Type 0
  NobodySleepsPastItsPhase z s = (id p b ph : ℕ) (v : WaitView C) → get_elem? s.views id ≡ maybe.some v → v.own ≡ Some p → waits_at v.place ≡ Some (b, ph) → ph < now (phases_in z s) b → IsAsleep v → ((1 ≤ listed_on p b s) × IsBroadcastTo p b ph s) ⊎ (LatchWakePending p s ⊎ SignalPending p s)

  -- the seat i waited out this phase of the barrier, was elected for the next once, and nobody else was
  pub record IsElected (b ph i : ℕ) (s : WaitState C) : Type 0 where
    pub view : WaitView C
    pub at : get_elem? s.views i ≡ maybe.some view
    pub waited : WaitedOut view.passed b ph
    pub once : times_of b (suc ph) view.elections ≡ 1
    pub alone : (j : ℕ) (u : WaitView C) → get_elem? s.views j ≡ maybe.some u → Elected u.elections b (suc ph) → j ≡ i

  -- of those who waited out a phase one is elected for the next; and whoever was elected for a phase waited out the one before
  pub record OneIsElected (s : WaitState C) : Type 0 where
    pub one : (id b ph : ℕ) (v : WaitView C) → get_elem? s.views id ≡ maybe.some v → WaitedOut v.passed b ph → (i : ℕ) × IsElected b ph i s
    pub waited : (id b ph : ℕ) (v : WaitView C) → get_elem? s.views id ≡ maybe.some v → Elected v.elections b ph → (0 < ph) × WaitedOut v.passed b (ph - 1)

  -- what stays of a seat that was joined into another
  pub record IsLeftOver (u : WaitView C) : Type 0 where
    pub numberless : u.own ≡ None
    pub idle : u.place ≡ []
    pub target : u.target ≡ None
    pub attached : u.attached ≡ []
    pub elections : u.elections ≡ []
    pub passed : u.passed ≡ []

  -- once the seat with the number 0 has taken over every number that it drew, nothing is with any other
  abbrev pub LastHoldsAlone : WaitState C → Type 0
  LastHoldsAlone s = (i j : ℕ) (v u : WaitView C) → (j ≡ i → ⊥) → get_elem? s.views i ≡ maybe.some v → get_elem? s.views j ≡ maybe.some u → v.own ≡ Some 0 → length v.taken ≡ v.drawn → IsLeftOver u

  -- the state of a new table, at whose words the client's law holds
  pub record IsOpening (first : C) (opens : ℕ → ℕ) (means : Meanings C) (count : ℕ) (z : Size) (phase : ℕ) (s : WaitState C) : Type 0 where
    pub procs : (0 < z.procs) × (z.procs ≤ 64)
    pub cvs : z.cvs ≤ most_conditions
    pub bars : z.bars ≤ z.cvs
    pub phase_inside : phase ≤ last_phase
    pub slots : List Kept
    pub new : OpeningSlots z phase slots
    pub kept : means.holds (opened opens count) (newcomer first (Some 0) ∷ []) (opening_phases z phase)
    pub is : s ≡ opening (opening_words z opens count) slots (fresh first (Some 0))

  -- some list of events leads from an opening to the state
  abbrev pub IsReached : {X : Type 0} → (X → ClientOp) → (PartyView C → X → Type 0) → (PartyView C → X → ℕ → C) → C → C → (C → C → C) → (ℕ → ℕ) → Meanings C → ℕ → Size → ℕ → WaitState C → Type 0
  IsReached {X} does may then first spent both opens means count z phase t = (s : WaitState C) × (es : List (ℕ × Deed X)) × IsOpening first opens means count z phase s × Runs does may then first spent both means z s es t

  module _ {X : Type 0} (does : X → ClientOp) (may : PartyView C → X → Type 0) (then : PartyView C → X → ℕ → C) (first spent : C) (both : C → C → C) (means : Meanings C) (z : Size) where
    -- in a run from the first take of a broadcast: whoever was on the list left it since, by itself or popped, or the broadcaster still has the list as it was found, or its sentinel stands behind
    abbrev pub SentinelStandsBehind : (s : WaitState C) (es : List (ℕ × Deed X)) (t : WaitState C) → Runs does may then first spent both means z s es t → Type 0
    SentinelStandsBehind s es t run = (id q c p : ℕ) (list : List ℕ) → AtFirstTake id q c list s → 1 ≤ times p list → Somewhere does may then first spent both means z (TakesOff p c) s es t run ⊎ (AtFirstTake id q c list t ⊎ StandsBehind q p c t)

    -- and once the broadcaster is in no call, everyone who was on the list left it since, by itself or popped
    abbrev pub BroadcastWakesAll : (s : WaitState C) (es : List (ℕ × Deed X)) (t : WaitState C) → Runs does may then first spent both means z s es t → Type 0
    BroadcastWakesAll s es t run = (id q c p : ℕ) (list : List ℕ) (v : WaitView C) → AtFirstTake id q c list s → get_elem? t.views id ≡ maybe.some v → v.place ≡ [] → 1 ≤ times p list → Somewhere does may then first spent both means z (TakesOff p c) s es t run
