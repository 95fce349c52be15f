-- EVERY EMISSION UP TO THE PUBLISHED GENERATION WAS ABSORBED, said of runs.
use Rattle.std.specs.Prelude.{◌≡◌, ◌⊎◌, ℕ, ◌<◌, ◌≤◌, List, [], ◌∷◌, None, Some, slice_index}
use mathlib.Core.Option as maybe
use lib.ListN.{get_elem?}
use Rattle.signal_core.specs.declared.step.SigStep.TheVariants.{Hadd, Mor, Mswap}
use Rattle.signal_core.specs.declared.view.Frame.TheVariants.{Posting}
use Rattle.signal_core.specs.declared.view.About.{About}
use Rattle.signal_core.specs.declared.view.Slot.{Slot}
use Rattle.signal_core.specs.declared.view.SigView.{SigView}
use Rattle.signal_core.specs.Words.{header_at}
use Rattle.signal_core.specs.Machine.{SigState, taken_by}
use Rattle.signal_core.specs.Runs.{Deed, machine, Steps, Runs}
use Rattle.signal_core.specs.Rule.{Rule}

-- what an event may be, of the seat that makes it, of its view before it, and of the deed
abbrev pub Happening : Type 1
Happening = ℕ → SigView → Deed → Type 0

-- the backend s takes the kind k
abbrev pub Takes : ℕ → ℕ → Happening
Takes s k id v (machine x) = (v.own ≡ Some s) × (1 ≤ taken_by x v.place k)
Takes s k id v d = ⊥

-- the backend s, which joins, clears its mask
abbrev pub Clears : ℕ → Happening
Clears s id v (machine (Mswap (Some c))) = v.own ≡ Some s
Clears s id v d = ⊥

-- the seat e takes a number of the header
abbrev pub TakesNumber : ℕ → Happening
TakesNumber e id v (machine Hadd) = id ≡ e
TakesNumber e id v d = ⊥

abbrev pub OneOf : Happening → Happening → Happening
OneOf f g id v d = f id v d ⊎ g id v d

module _ (shows : ℕ → ℕ → Type 0) (z : About) where
  -- some event of the run is such
  abbrev pub Somewhere : Happening → (es : List (ℕ × Deed)) (s t : SigState) → Runs shows z s es t → Type 0
  Somewhere f [] s t r = ⊥
  Somewhere f (e ∷ es) s t r = f e.0 r.1.0 e.1 ⊎ Somewhere f es r.0 t r.2

  -- the seat e, which emits the kind k, posts it at the slot s
  abbrev pub Posts : SigState → ℕ → ℕ → ℕ → SigState → Type 0
  Posts a e s k b = (post : Steps shows z a (e, machine (Mor s k None)) b) × ((x : ℕ) × (post.0.place ≡ Some (Posting k x s)))

  -- In any run: the seat e posts an emission at s, and then takes the number of it; then s is joined, since a generation below that number, and has published it or a later one. Then s has taken the kind since that post, or has cleared its mask since to join anew
  abbrev pub EmissionsAreKept : Type 0
  EmissionsAreKept = (a b c d f : SigState) (e s k : ℕ) (es fs : List (ℕ × Deed)) → Rule shows z a
      → Posts a e s k b → (first : Runs shows z b es c) → (Somewhere (TakesNumber e) es b c first → ⊥) → Steps shows z c (e, machine Hadd) d → (second : Runs shows z d fs f)
      → (id : ℕ) (v : SigView) (t : Slot) → get_elem? f.views id ≡ maybe.some v → v.own ≡ Some s → v.slot ≡ Some t
      → t.joined < slice_index d.words header_at → slice_index d.words header_at ≤ t.published
      → Somewhere (OneOf (Takes s k) (Clears s)) es b c first ⊎ Somewhere (OneOf (Takes s k) (Clears s)) fs d f second
