-- The rule of the table, which holds between any two steps. Each part speaks of some words and of what it sees of each view.
use Rattle.std.specs.Prelude.{◌≡◌, ℕ, ◌+◌, ◌<◌, ◌≤◌, List, map, length, slice_index}
use Rattle.wait_core.specs.declared.view.Size.{Size}
use Rattle.wait_core.specs.Meanings.{Meanings}
use Rattle.seat_roster.specs.Totals.{total}
use Rattle.seat_roster.specs.Roster.{Numbers, Roster, one_if}
use Rattle.wait_core.specs.Parties.{Barriers}
use Rattle.wait_core.specs.Words.{most_conditions, client_base, slots_in}
use Rattle.wait_core.specs.Machine.{WaitState}
use Rattle.wait_core.specs.Seating.{numbers_of, standing_of, doings_of, party_of}
use Rattle.wait_core.specs.Stances.{stance_of}
use Rattle.wait_core.specs.Fits.{PlacesFit}
use Rattle.wait_core.specs.MaySleepIsMarked.{MaySleepIsMarked}
use Rattle.wait_core.specs.SetLatchWakes.{SetLatchWakes}
use Rattle.wait_core.specs.ShutdownWakes.{ShutdownWakes}
use Rattle.wait_core.specs.ClientHolds.{ClientHolds}
use Rattle.wait_core.specs.WordsAreMade.{WordsAreMade}
use Rattle.wait_core.specs.ListsAreMade.{ListsAreMade}
use Rattle.wait_core.specs.ListsStand.{ListsStand}
use Rattle.wait_core.specs.ArrivalsHeed.{ArrivalsHeed}
use Rattle.wait_core.specs.PassedPhaseIsBroadcast.{PassedPhaseIsBroadcast}
use Rattle.wait_core.specs.LeftAreFree.{LeftAreFree}
use Rattle.wait_core.specs.Barriers.{attendance_of, phases_in, CountsParticipants, CountsArrived, PhasesAreInside, PhasesAreKnown, WaitersAreQuiet, ElectionsAreRecorded, CallsSuit}
use Rattle.wait_core.specs.OneElected.{outcome_of, elected_in, OneElected}

-- the numbers of backends, of words, and of slots: one for each condition that there may be, and for each barrier
pub record Sized (z : Size) (count words homes : ℕ) : Type 0 where
  pub procs : (0 < z.procs) × (z.procs ≤ 64)
  pub cvs : z.cvs ≤ most_conditions
  pub bars : z.bars ≤ z.cvs
  pub long : words ≡ client_base z + count
  pub slots : homes ≡ slots_in z

-- each word between the next number and the client's is 0 or 1
abbrev pub Flags : Size → List ℕ → Type 0
Flags z words = (i : ℕ) → 0 < i → i < client_base z → slice_index words i ≤ 1

-- each number drawn has a seat, or is to get one
abbrev pub SeatsAreCounted : ℕ → List Numbers → Type 0
SeatsAreCounted next seats = length seats + total (λ v. one_if v.pending) seats ≡ next

module _ {C : Type 0} (means : Meanings C) (z : Size) (phase count : ℕ) where
  pub record Rule (s : WaitState C) : Type 0 where
    pub sized : Sized z count (length s.words) (length s.homes)
    pub flags : Flags z s.words
    pub roster : Roster z.procs (slice_index s.words 0) (map numbers_of s.views)
    pub counted : SeatsAreCounted (slice_index s.words 0) (map numbers_of s.views)
    pub places : PlacesFit z.cvs (map standing_of s.views)
    pub may : MaySleepIsMarked z.procs s.words (map standing_of s.views)
    pub latches : SetLatchWakes z.procs s.words (map standing_of s.views)
    pub shutdown : ShutdownWakes z s.words (map standing_of s.views)
    pub made : WordsAreMade z s.words (map doings_of s.views)
    pub lists_made : ListsAreMade z s.homes (map doings_of s.views)
    pub lists : ListsStand z s.words s.homes (map stance_of s.views)
    pub heeds : ArrivalsHeed s.views
    pub broadcasts : PassedPhaseIsBroadcast z s
    pub left : LeftAreFree s.views
    pub barriers : Barriers (map party_of s.views) (phases_in z s)
    pub known : PhasesAreKnown (phases_in z s) (map attendance_of s.views)
    pub waiters : WaitersAreQuiet means (map attendance_of s.views)
    pub participants : CountsParticipants z s.homes (map attendance_of s.views)
    pub arrived : CountsArrived z s.homes (map attendance_of s.views)
    pub elections : ElectionsAreRecorded z s.homes (map attendance_of s.views)
    pub one_elected : OneElected z.bars phase (λ b. elected_in b s.homes (map attendance_of s.views)) (map outcome_of s.views)
    pub inside : PhasesAreInside z phase s.homes (map attendance_of s.views)
    pub suits : CallsSuit means (map attendance_of s.views)
    pub client : ClientHolds means z s
