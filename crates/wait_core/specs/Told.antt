-- What each step tells its seat.
use Rattle.std.specs.Prelude.{◌≡◌, ℕ, ◌+◌, ◌<◌, ◌≤◌, ◌==◌, cond, true, false, List, length, map, Option, None, Some, ⊤}
use Rattle.seat_roster.specs.Roster.{times}
use Rattle.atomic_table.specs.Table.{Me, Step, Allows, Splits, Joins, carried_after}
use Rattle.wait_core.specs.declared.step.WaitStep.{WaitStep}
use Rattle.wait_core.specs.declared.step.WaitStep.TheVariants.{Take, Free}
use Rattle.wait_core.specs.declared.step.Spot.{Spot}
use Rattle.wait_core.specs.declared.step.Spot.TheVariants.{Cv, Bar}
use Rattle.wait_core.specs.declared.view.Kept.{Kept}
use Rattle.wait_core.specs.declared.view.Record.{Record}
use Rattle.wait_core.specs.declared.view.PartyView.{PartyView}
use Rattle.wait_core.specs.declared.view.Size.{Size}
use Rattle.wait_core.specs.declared.view.WaitView.{WaitView}
use Rattle.wait_core.specs.Meanings.{Meanings}
use Rattle.wait_core.specs.Parties.{phase_of}
use Rattle.wait_core.specs.Lists.{is_listed, AllBelow}
use Rattle.wait_core.specs.Words.{last_phase, slot_of}
use Rattle.seat_roster.specs.Totals.{total}
use mathlib.Core.Option as maybe
use lib.ListN.{get_elem?}
use Rattle.wait_core.specs.Machine.{WaitState, number_of, next_with, act_of}
use Rattle.wait_core.specs.Stances.{slot_in, hand_at, belongs_at}
use Rattle.wait_core.specs.Seating.{party_of, client_moved, with_drawn}
use Rattle.wait_core.specs.Barriers.{attendance_of, takes_part, waits_from}
use Rattle.wait_core.specs.Rule.{Rule}

-- On the list of the slot x, which was taken in hand, stand backends of the table alone. The backend `own` is on it once, and only where it belongs there; else there is room for it
pub record TellsList (z : Size) (own : ℕ) (belongs : Option ℕ) (x : ℕ) (found : List ℕ) : Type 0 where
  pub all : AllBelow z.procs found
  pub few : length found ≤ z.procs
  pub once : times own found ≤ 1
  pub mine : is_listed own found ≡ true → belongs ≡ Some x
  pub room : is_listed own found ≡ false → length found < z.procs

-- what a step that found n tells of the list that it took in hand
abbrev pub Tells : Size → WaitStep → ℕ → Option ℕ → ℕ → List ℕ → Type 0
Tells z (Take x begins) own belongs n found = n ≡ 0 → TellsList z own belongs (slot_of x) found
Tells z k own belongs n found = ⊤

-- a barrier's record: at most 64 take part, of whom some have arrived, and its phase is at most the one that is never passed
pub record IsInside (r : Record) : Type 0 where
  pub few : r.participants ≤ 64
  pub arrived : r.arrived ≤ r.participants
  pub phase : r.phase ≤ last_phase

-- who waits for no phase finds the one that it knows
abbrev pub FindsPhase : Option (ℕ × ℕ) → ℕ → Record → Type 0
FindsPhase None ph r = r.phase ≡ ph
FindsPhase (Some w) ph r = ⊤

-- who isn't attached finds room for one participant more; who is finds itself counted
abbrev pub CountsSeat : Option (ℕ × ℕ) → Option ℕ → Record → Type 0
CountsSeat waits None r = r.participants < 64
CountsSeat waits (Some ph) r = (1 ≤ r.participants) × FindsPhase waits ph r

-- the slot that is out with the seat after a step that found n
abbrev pub slot_then : WaitStep → ℕ → Option ℕ → Option ℕ
slot_then (Take x begins) n out = cond (n == 0) (Some (slot_of x)) out
slot_then (Free x target) n out = None
slot_then k n out = out

module _ {C : Type 0} (means : Meanings C) (z : Size) (phase count : ℕ) where
  -- in a state that meets the rule the client saw the seat so, and the record counts whoever was attached to the barrier, and whoever waited there for the phase to pass
  pub record CountsAttached (b id : ℕ) (v : PartyView C) (r : Record) : Type 0 where
    pub state : WaitState C
    pub rule : Rule means z phase count state
    pub here : get_elem? (map party_of state.views) id ≡ maybe.some v
    pub counted : r.participants ≡ total (takes_part b) (map attendance_of state.views)
    pub waiting : r.arrived ≡ total (waits_from b r.phase) (map attendance_of state.views)

  -- of a seat that waits there, or nowhere. The barrier has a condition
  abbrev pub TellsRecord : Spot → ℕ → Option (ℕ × ℕ) → PartyView C → Record → Type 0
  TellsRecord (Cv c) id waits v r = ⊤
  TellsRecord (Bar b) id waits v r = (b < z.cvs) × IsInside r × CountsSeat waits (phase_of v.attached b) r × CountsAttached b id v r

  -- what a step that found n tells of the record that it took in hand
  abbrev pub TellsBarrier : WaitStep → ℕ → Option (ℕ × ℕ) → PartyView C → ℕ → Record → Type 0
  TellsBarrier (Take x begins) id waits v n r = n ≡ 0 → TellsRecord x id waits v r
  TellsBarrier k id waits v n r = ⊤

module _ {C : Type 0} where
  -- the place after the step knows of it
  abbrev pub HandFollows : Size → WaitStep → WaitView C → ℕ → Kept → Type 0
  HandFollows z k v n found = slot_in (hand_at (next_with z k v n found).place) ≡ slot_then k n (slot_in (hand_at v.place))

  -- a step of the machine that found n: the view goes on as the machine says, what a spin word guards leaves its slot or goes home, n was 0 or 1, and the record that was found is told of
  abbrev pub does : Size → (ℕ → Record → Type 0) → WaitStep → Me Kept (WaitView C) → ℕ → Me Kept (WaitView C) → Type 0
  does z tells k m n m' = (found : Kept) × (m'.0 ≡ next_with z k m.0 n found) × (m'.1 ≡ carried_after m.1 (act_of k n found)) × (n ≤ 1) × Tells z k (number_of m.0.own) (belongs_at m'.0.target m'.0.place) n found.list.items × tells n found.record × HandFollows z k m.0 n found

  -- a step of the client, after which its view is c of the word found, and which told something of it
  abbrev pub does_client : (ℕ → C) → (ℕ → Type 0) → Me Kept (WaitView C) → ℕ → Me Kept (WaitView C) → Type 0
  does_client c told m n m' = (m'.0 ≡ client_moved m.0 (c n)) × (m'.1 ≡ m.1) × told n

  -- the number that is drawn next is one more than those drawn, and at most the number of backends
  abbrev pub looks : Size → Me Kept (WaitView C) → ℕ → Me Kept (WaitView C) → Type 0
  looks z m n m' = (m'.0 ≡ m.0) × (m'.1 ≡ m.1) × (m.0.own ≡ Some 0 → n ≡ m.0.drawn + 1) × (n ≤ z.procs)

  abbrev pub draws : Step Kept → Me Kept (WaitView C) → ℕ → Me Kept (WaitView C) → Type 0
  draws st m n m' = (m'.0 ≡ with_drawn m.0) × (m'.1 ≡ m.1)

  module _ (means : Meanings C) (z : Size) (phase count : ℕ) where
    -- whatever the table is when the word becomes f of what it was, the seat goes on as `gives` says
    abbrev pub Turns : ℕ → ℕ → Me Kept (WaitView C) → ℕ → (ℕ → ℕ) → (ℕ → Me Kept (WaitView C) → Type 0) → Type 0
    Turns slots id me word f gives = Allows (Rule means z phase count) slots id me word f gives

    -- a seat's view is cut in two
    abbrev pub Cuts : ℕ → WaitView C → WaitView C → WaitView C → Type 0
    Cuts id v left right = Splits {S = Kept} (Rule means z phase count) id v left right

    -- a seat takes in another
    abbrev pub Glues : ℕ → WaitView C → ℕ → WaitView C → WaitView C → WaitView C → Type 0
    Glues id v other w both spent = Joins {S = Kept} (Rule means z phase count) id v other w both spent
