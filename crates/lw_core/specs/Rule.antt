-- The rule of the table, which holds between any two steps. Each part speaks of some words, of lists and of a projection of each view.
use Rattle.std.specs.Prelude.{◌≡◌, ℕ, ◌<◌, ◌≤◌, List, map, length, slice_index}
use lib.ListN.{get_elem?}
use Rattle.lw_core.specs.declared.view.Size.{Size}
use Rattle.lw_core.specs.declared.view.View.{View}
use Rattle.seat_roster.specs.Roster.{Numbers, Roster}
use Rattle.lw_core.specs.Words.{state_at, var_at, guarded, word_count}
use Rattle.lw_core.specs.WaitLists.{home_list}
use Rattle.lw_core.specs.Machine.{LwState, mode_in, hold_in}
use Rattle.lw_core.specs.WordsAreMade.{all_steps, WordsAreMade}
use Rattle.lw_core.specs.ListsAreMade.{ListsAreMade}
use Rattle.lw_core.specs.Stances.{stance_of}
use Rattle.lw_core.specs.CountsHolders.{CountsHolders}
use Rattle.lw_core.specs.GuardedIsLawful.{GuardedIsLawful}
use Rattle.lw_core.specs.SeatFits.{Seating, SeatsFit}
use Rattle.lw_core.specs.FramesStand.{FramesStand}
use Rattle.lw_core.specs.ListInOneHand.{ListInOneHand, HandsInside}
use Rattle.lw_core.specs.ListedOnce.{ListedOnce}
use Rattle.lw_core.specs.WaitingTellsPlace.{WaitingTellsPlace}
use Rattle.lw_core.specs.FlagCoversList.{FlagCoversList}
use Rattle.lw_core.specs.ReleaseOkIsOwed.{ReleaseOkIsOwed}
use Rattle.lw_core.specs.WakesAreConserved.{WakesAreConserved}
use Rattle.lw_core.specs.MarkersPost.{MarkersPost}
use Rattle.lw_core.specs.FreeLockIsAnswered.{FreeLockIsAnswered}
use Rattle.lw_core.specs.VariableIsAnnounced.{VariableIsAnnounced}

abbrev pub numbers_of : View → Numbers
numbers_of v = record { own = v.own; pending = v.pending; taken = v.taken; drawn = v.drawn }

abbrev pub seating_of : View → Seating
seating_of v = record { own = v.own; place = v.place; holds = v.holds; surplus = v.surplus; pokes = v.pokes; poked = v.poked; taken = v.taken }

-- the numbers of locks, backends, words and lists
pub record Sized (z : Size) (words lists : ℕ) : Type 0 where
  pub locks : z.locks ≤ 200
  pub procs : z.procs ≤ 64
  pub long : words ≡ word_count z
  pub slots : lists ≡ z.locks

-- the parts
abbrev pub NumbersStand : Size → LwState → Type 0
NumbersStand z s = Roster z.procs (slice_index s.words 0) (map numbers_of s.views)

abbrev pub PlacesFit : LwState → Type 0
PlacesFit s = SeatsFit (map seating_of s.views)

abbrev pub EachCountsHolders : Size → LwState → Type 0
EachCountsHolders z s = (l : ℕ) → l < z.locks → CountsHolders (slice_index s.words (state_at l)) (map (mode_in l) s.views)

abbrev pub EachGuardedIsLawful : (ℕ → List ℕ → Type 0) → Size → LwState → Type 0
EachGuardedIsLawful lawful z s = (l : ℕ) → l < z.locks → GuardedIsLawful (lawful l) (guarded s.words l) (map (hold_in l) s.views)

abbrev pub EachListInOneHand : Size → LwState → Type 0
EachListInOneHand z s = (l : ℕ) → l < z.locks → ListInOneHand l (slice_index s.words (state_at l)) (get_elem? s.homes l) (map stance_of s.views)

abbrev pub EachHandInside : Size → LwState → Type 0
EachHandInside z s = HandsInside z.locks (map stance_of s.views)

abbrev pub EachListedOnce : Size → LwState → Type 0
EachListedOnce z s = ListedOnce z.locks s.homes (map stance_of s.views)

abbrev pub EachWaitingTells : Size → LwState → Type 0
EachWaitingTells z s = WaitingTellsPlace z s.words s.homes (map stance_of s.views)

abbrev pub EachFlagCovers : Size → LwState → Type 0
EachFlagCovers z s = (l : ℕ) → l < z.locks → FlagCoversList l (slice_index s.words (state_at l)) (home_list s.homes l) (map stance_of s.views)

abbrev pub EachReleaseOkIsOwed : Size → LwState → Type 0
EachReleaseOkIsOwed z s = (l : ℕ) → l < z.locks → ReleaseOkIsOwed l (slice_index s.words (state_at l)) s.homes (map stance_of s.views)

abbrev pub EachWakeIsConserved : Size → LwState → Type 0
EachWakeIsConserved z s = WakesAreConserved z s.words s.homes (map stance_of s.views)

abbrev pub EachMarkerPosts : Size → LwState → Type 0
EachMarkerPosts z s = MarkersPost z (map stance_of s.views)

abbrev pub EachFreeLockIsAnswered : Size → LwState → Type 0
EachFreeLockIsAnswered z s = (l : ℕ) → l < z.locks → FreeLockIsAnswered l (slice_index s.words (state_at l)) s.homes s.views

abbrev pub EachVariableIsAnnounced : Size → LwState → Type 0
EachVariableIsAnnounced z s = (l : ℕ) → l < z.locks → VariableIsAnnounced l (slice_index s.words (state_at l)) (slice_index s.words (var_at l)) s.homes s.views

abbrev pub EachWordIsMade : Size → LwState → Type 0
EachWordIsMade z s = WordsAreMade z s.words (map all_steps s.views)

abbrev pub EachListIsMade : Size → LwState → Type 0
EachListIsMade z s = ListsAreMade z s.homes (map all_steps s.views)

pub record Rule (lawful : ℕ → List ℕ → Type 0) (z : Size) (s : LwState) : Type 0 where
  pub sized : Sized z (length s.words) (length s.homes)
  pub roster : NumbersStand z s
  pub made : EachWordIsMade z s
  pub lists_made : EachListIsMade z s
  pub places : PlacesFit s
  pub frames : FramesStand lawful z s
  pub counts : EachCountsHolders z s
  pub guarded : EachGuardedIsLawful lawful z s
  pub lists : EachListInOneHand z s
  pub hands : EachHandInside z s
  pub listed : EachListedOnce z s
  pub waiting : EachWaitingTells z s
  pub flags : EachFlagCovers z s
  pub answers : EachReleaseOkIsOwed z s
  pub wakes : EachWakeIsConserved z s
  pub markers : EachMarkerPosts z s
  pub free : EachFreeLockIsAnswered z s
  pub variables : EachVariableIsAnnounced z s
