-- The statements of the laws over states and over runs.
use Rattle.std.specs.Prelude.{◌≡◌, ℕ, ◌<◌, ◌≤◌, List, [], map, length, slice_index, Some, None}
use mathlib.Core.Option as maybe
use lib.ListN.{get_elem?}
use Rattle.atomic_table.specs.Table.{opening}
use Rattle.seat_roster.specs.Roster.{Roster, times}
use Rattle.signal_core.specs.declared.view.About.{About}
use Rattle.signal_core.specs.declared.view.Emission.{Emission}
use Rattle.signal_core.specs.declared.view.SigView.{SigView}
use Rattle.signal_core.specs.declared.view.Slot.{Slot}
use Rattle.signal_core.specs.Words.{header_at, gen_at, worn, Opens}
use Rattle.signal_core.specs.Machine.{SigState}
use Rattle.signal_core.specs.Seating.{numbers_of, stance_of, doings_of, fresh}
use Rattle.signal_core.specs.PlacesFit.{PlacesFit}
use Rattle.signal_core.specs.BitsAreEmitted.{BitsAreEmitted}
use Rattle.signal_core.specs.BitIsOwed.{BitIsOwed}
use Rattle.signal_core.specs.SwappedBitIsNewer.{SwappedBitIsNewer}
use Rattle.signal_core.specs.GenerationsStand.{GenerationsStand}
use Rattle.signal_core.specs.EmissionsShow.{EmissionsShow}
use Rattle.signal_core.specs.AbsorbedWasEmitted.{AbsorbedWasEmitted}
use Rattle.signal_core.specs.WordsAreMade.{WordsAreMade}
use Rattle.signal_core.specs.Rule.{Rule}
use Rattle.signal_core.specs.Runs.{Deed, Steps, Runs}

-- THE PARTS of the rule, of a state
abbrev pub NumbersStand : About → SigState → Type 0
NumbersStand z s = Roster z.procs (slice_index s.words 0) (map numbers_of s.views)

abbrev pub EachPlaceFits : About → SigState → Type 0
EachPlaceFits z s = PlacesFit z (map stance_of s.views)

abbrev pub EachWordIsMade : About → SigState → Type 0
EachWordIsMade z s = WordsAreMade z s.words (map doings_of s.views)

abbrev pub EachBitIsEmitted : About → SigState → Type 0
EachBitIsEmitted z s = BitsAreEmitted z.procs s.words (map stance_of s.views)

abbrev pub EachBitIsOwed : SigState → Type 0
EachBitIsOwed s = BitIsOwed s.words (map stance_of s.views)

abbrev pub EachSwappedBitIsNewer : SigState → Type 0
EachSwappedBitIsNewer s = SwappedBitIsNewer s.words (map stance_of s.views)

abbrev pub EachGenerationStands : About → SigState → Type 0
EachGenerationStands z s = GenerationsStand z.procs s.words (map stance_of s.views)

abbrev pub EachEmissionShows : (ℕ → ℕ → Type 0) → SigState → Type 0
EachEmissionShows shows s = EmissionsShow shows (map stance_of s.views)

abbrev pub EachAbsorbedWasEmitted : SigState → Type 0
EachAbsorbedWasEmitted s = AbsorbedWasEmitted s.views

-- the state of a new table
pub record IsOpening (z : About) (s : SigState) : Type 0 where
  pub procs : (0 < z.procs) × (z.procs ≤ 64)
  pub generation : z.generation ≤ worn
  pub words : List ℕ
  pub opens : Opens z words
  pub is : s ≡ opening words [] (fresh (Some 0))

module _ (shows : ℕ → ℕ → Type 0) (z : About) where
  -- a state that meets the rule, and one event, give a state that meets the part
  abbrev pub KeptByEach : (SigState → Type 0) → Type 0
  KeptByEach Part = (s t : SigState) (e : ℕ × Deed) → Rule shows z s → Steps shows z s e t → Part t

  -- some list of events leads from an opening to the state
  abbrev pub IsReached : SigState → Type 0
  IsReached t = (s : SigState) × (es : List (ℕ × Deed)) × IsOpening z s × Runs shows z s es t

  -- so it is of each state to which a list of events leads from an opening
  abbrev pub HoldsInRuns : (SigState → Type 0) → Type 0
  HoldsInRuns Part = (s : SigState) → IsReached s → Part s

-- the word of a joined slot is the generation that it has published, which is at most the header, and no lower than that with which it joined
pub record SlotIsPublished (header word : ℕ) (t : Slot) : Type 0 where
  pub word_is : word ≡ t.published
  pub since : t.joined ≤ t.published
  pub up_to : t.published ≤ header

abbrev pub EachSlotIsPublished : SigState → Type 0
EachSlotIsPublished s = (id p : ℕ) (v : SigView) (t : Slot) → get_elem? s.views id ≡ maybe.some v → v.own ≡ Some p → v.slot ≡ Some t → SlotIsPublished (slice_index s.words header_at) (slice_index s.words (gen_at p)) t

-- an emission of the kind k, whose number shows what the kind stands for
pub record HasEmitted (shows : ℕ → ℕ → Type 0) (k : ℕ) (v : SigView) : Type 0 where
  pub at : ℕ
  pub emission : Emission
  pub here : get_elem? v.emissions at ≡ maybe.some emission
  pub of_kind : emission.kind ≡ k
  pub shown : shows k emission.number

-- the seat with the number 0, in no call, once it has taken over every number that it drew, has itself an emission of each kind that it absorbed
abbrev pub EmitsWhatItAbsorbed : (ℕ → ℕ → Type 0) → SigView → Type 0
EmitsWhatItAbsorbed shows v = v.own ≡ Some 0 → v.place ≡ None → length v.taken ≡ v.drawn → (k : ℕ) → 1 ≤ times k v.absorbed → HasEmitted shows k v

abbrev pub LastHasEmitted : (ℕ → ℕ → Type 0) → SigState → Type 0
LastHasEmitted shows s = (id : ℕ) (v : SigView) → get_elem? s.views id ≡ maybe.some v → EmitsWhatItAbsorbed shows v
