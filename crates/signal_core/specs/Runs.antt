-- Runs: lists of events, each made by a seat where the machine allows it.
use Rattle.std.specs.Prelude.{◌≡◌, ℕ, ◌+◌, ◌<◌, List, [], ◌∷◌, ◌++◌, Some, None, slice_set, slice_index}
use mathlib.Core.Option as maybe
use lib.ListN.{get_elem?}
use Rattle.atomic_table.specs.Table.{keeps, stepped}
use Rattle.signal_core.specs.declared.step.SigStep.{SigStep}
use Rattle.signal_core.specs.declared.view.About.{About}
use Rattle.signal_core.specs.declared.view.SigView.{SigView}
use Rattle.signal_core.specs.Machine.{SigState, Allowed, after}
use Rattle.signal_core.specs.Seating.{with_drawn, stays, comes, took_in, spent_view}

-- what a seat does: a step of the machine; it draws the next number, or gives the number drawn to a new seat; or it takes in another seat
pub data Deed : Type 0 where
  machine : SigStep → Deed
  draw : Deed
  seat : Deed
  join : ℕ → Deed

abbrev pub after_draw : SigState → ℕ → SigView → SigState
after_draw s id v = stepped s 0 (slice_index s.words 0 + 1) id [] (with_drawn v) keeps

abbrev pub after_seat : SigState → ℕ → SigView → SigState
after_seat s id v = record { words = s.words; homes = s.homes; views = slice_set s.views id (stays v) ++ comes v ∷ [] }

abbrev pub after_join : SigState → ℕ → SigView → ℕ → SigView → SigState
after_join s id v other w = record { words = s.words; homes = s.homes; views = slice_set (slice_set s.views id (took_in v w)) other spent_view }

module _ (shows : ℕ → ℕ → Type 0) (z : About) where
  -- the seat id, with the number own and the view v, does this, and the state becomes t
  abbrev pub Deeds : SigState → ℕ → SigView → Deed → SigState → Type 0
  Deeds s id v (machine k) t = Allowed shows z k v × (t ≡ after z s id v k)
  Deeds s id v draw t = (v.own ≡ Some 0) × (v.pending ≡ None) × (v.drawn + 1 < z.procs) × (t ≡ after_draw s id v)
  Deeds s id v seat t = ((n : ℕ) × (v.pending ≡ Some n)) × (t ≡ after_seat s id v)
  Deeds s id v (join other) t = (w : SigView) × (get_elem? s.views other ≡ maybe.some w) × (other ≡ id → ⊥) × (w.place ≡ None) × (w.slot ≡ None) × (w.pending ≡ None) × (t ≡ after_join s id v other w)

  -- one event: a seat that has a number does something
  abbrev pub Steps : SigState → ℕ × Deed → SigState → Type 0
  Steps s e t = (v : SigView) × (p : ℕ) × (get_elem? s.views e.0 ≡ maybe.some v) × (v.own ≡ Some p) × Deeds s e.0 v e.1 t

  -- the events lead from one state to the other
  abbrev pub Runs : SigState → List (ℕ × Deed) → SigState → Type 0
  Runs s [] t = t ≡ s
  Runs s (e ∷ es) t = (m : SigState) × Steps s e m × Runs m es t
