-- Where a seat may stand.
use mathlib.Core.Option as maybe
use lib.ListN.{get_elem?}
use Rattle.std.specs.Prelude.{◌≡◌, ℕ, ◌<◌, List, [], Option, None, Some, ⊤}
use Rattle.signal_core.specs.declared.view.Frame.TheVariants.{Reading, Opening, Entering, Leaving, Posting, Telling, Prodding, Comparing, Heading, Swapping, Taking, Keeping, Reminding}
use Rattle.signal_core.specs.declared.view.Slot.{Slot}
use Rattle.signal_core.specs.declared.view.About.{About}
use Rattle.signal_core.specs.Machine.{Place, IsJoined, IsPart}
use Rattle.signal_core.specs.Seating.{Stance}

-- the slot is joined while the seat absorbs, and isn't while it joins or leaves; what failed was found
abbrev pub PlaceFits : About → Option Slot → Place → Type 0
PlaceFits z t (Some Reading) = t ≡ None
PlaceFits z t (Some (Opening h)) = t ≡ None
PlaceFits z t (Some (Entering h)) = t ≡ None
PlaceFits z t (Some Leaving) = t ≡ None
PlaceFits z t (Some (Posting k x q)) = q < z.procs
PlaceFits z t (Some (Telling q)) = q < z.procs
PlaceFits z t (Some (Prodding q)) = q < z.procs
PlaceFits z t (Some Comparing) = IsJoined t
PlaceFits z t (Some (Heading g)) = IsJoined t
PlaceFits z t (Some (Swapping h)) = IsJoined t
PlaceFits z t (Some (Taking h found)) = IsJoined t
PlaceFits z t (Some (Keeping h found failed done)) = IsJoined t × IsPart failed found
PlaceFits z t (Some (Reminding h found failed k)) = IsJoined t × IsPart failed found
PlaceFits z t p = ⊤

-- a seat without a number is in no call, has no slot, and has emitted nothing
pub record PlacesFit (z : About) (seats : List Stance) : Type 0 where
  pub fits : (id : ℕ) (v : Stance) → get_elem? seats id ≡ maybe.some v → PlaceFits z v.slot v.place
  pub unnumbered : (id : ℕ) (v : Stance) → get_elem? seats id ≡ maybe.some v → v.own ≡ None → (v.place ≡ None) × (v.slot ≡ None) × (v.emissions ≡ [])
