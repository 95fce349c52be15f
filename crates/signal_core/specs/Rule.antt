-- The rule of the table, which holds between any two steps. Each part speaks of some words and of what it sees of each view.
use Rattle.std.specs.Prelude.{◌≡◌, ℕ, ◌+◌, ◌<◌, ◌≤◌, List, map, length, slice_index}
use Rattle.seat_roster.specs.Totals.{total}
use Rattle.seat_roster.specs.Roster.{Numbers, Roster, one_if}
use Rattle.signal_core.specs.declared.view.About.{About}
use Rattle.signal_core.specs.Words.{word_count}
use Rattle.signal_core.specs.Machine.{SigState}
use Rattle.signal_core.specs.Seating.{numbers_of, stance_of, doings_of}
use Rattle.signal_core.specs.PlacesFit.{PlacesFit}
use Rattle.signal_core.specs.BitsAreEmitted.{BitsAreEmitted}
use Rattle.signal_core.specs.BitIsOwed.{BitIsOwed}
use Rattle.signal_core.specs.SwappedBitIsNewer.{SwappedBitIsNewer}
use Rattle.signal_core.specs.GenerationsStand.{GenerationsStand}
use Rattle.signal_core.specs.EmissionsShow.{EmissionsShow}
use Rattle.signal_core.specs.AbsorbedWasEmitted.{AbsorbedWasEmitted}
use Rattle.signal_core.specs.WordsAreMade.{WordsAreMade}

-- the numbers of backends and of words
pub record Sized (z : About) (words : ℕ) : Type 0 where
  pub procs : (0 < z.procs) × (z.procs ≤ 64)
  pub long : words ≡ word_count z

-- each number drawn has a seat, or is to get one
abbrev pub SeatsAreCounted : ℕ → List Numbers → Type 0
SeatsAreCounted next seats = length seats + total (λ v. one_if v.pending) seats ≡ next

pub record Rule (shows : ℕ → ℕ → Type 0) (z : About) (s : SigState) : Type 0 where
  pub sized : Sized z (length s.words)
  pub roster : Roster z.procs (slice_index s.words 0) (map numbers_of s.views)
  pub counted : SeatsAreCounted (slice_index s.words 0) (map numbers_of s.views)
  pub made : WordsAreMade z s.words (map doings_of s.views)
  pub places : PlacesFit z (map stance_of s.views)
  pub bits : BitsAreEmitted z.procs s.words (map stance_of s.views)
  pub owed : BitIsOwed s.words (map stance_of s.views)
  pub newer : SwappedBitIsNewer s.words (map stance_of s.views)
  pub generations : GenerationsStand z.procs s.words (map stance_of s.views)
  pub shown : EmissionsShow shows (map stance_of s.views)
  pub absorbed : AbsorbedWasEmitted s.views
