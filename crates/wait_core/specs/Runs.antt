-- Runs: lists of events, each made by a seat where the machine or the client allows it.
use Rattle.std.specs.Prelude.{◌≡◌, ◌⊎◌, ℕ, ◌+◌, ◌<◌, List, [], ◌∷◌, ◌++◌, Some, None, slice_set, slice_index}
use mathlib.Core.Option as maybe
use lib.ListN.{get_elem?}
use Rattle.atomic_table.specs.Table.{keeps, stepped}
use Rattle.wait_core.specs.declared.party.ClientOp.{ClientOp}
use Rattle.wait_core.specs.declared.step.WaitStep.{WaitStep}
use Rattle.wait_core.specs.declared.view.PartyView.{PartyView}
use Rattle.wait_core.specs.declared.view.Size.{Size}
use Rattle.wait_core.specs.declared.view.WaitView.{WaitView}
use Rattle.wait_core.specs.Meanings.{Meanings}
use Rattle.wait_core.specs.Ops.{op_at, op_gives}
use Rattle.wait_core.specs.Words.{client_base}
use Rattle.wait_core.specs.Machine.{WaitState, Allowed, after}
use Rattle.wait_core.specs.Barriers.{StepSuits}
use Rattle.wait_core.specs.Seating.{party_of, client_moved, with_drawn, stays, comes, took_in, spent_view}

-- what a seat does: a step of the machine, a step of the client; it draws the next number, or gives the number drawn to a new seat; or it takes in another seat
pub data Deed (X : Type 0) : Type 0 where
  machine : WaitStep → Deed X
  client : X → Deed X
  draw : Deed X
  seat : Deed X
  join : ℕ → Deed X

module _ {C X : Type 0} (does : X → ClientOp) (may : PartyView C → X → Type 0) (then : PartyView C → X → ℕ → C) (first spent : C) (both : C → C → C) (means : Meanings C) (z : Size) where
  -- the state after a step of the client
  abbrev pub after_client : WaitState C → ℕ → WaitView C → X → WaitState C
  after_client s id v x = let i = client_base z + op_at (does x) in let n = slice_index s.words i in stepped s i (op_gives (does x) n) id [] (client_moved v (then (party_of v) x n)) keeps

  abbrev pub after_draw : WaitState C → ℕ → WaitView C → WaitState C
  after_draw s id v = stepped s 0 (slice_index s.words 0 + 1) id [] (with_drawn v) keeps

  abbrev pub after_seat : WaitState C → ℕ → WaitView C → WaitState C
  after_seat s id v = record { words = s.words; homes = s.homes; views = slice_set s.views id (stays v) ++ comes first v ∷ [] }

  abbrev pub after_join : WaitState C → ℕ → WaitView C → ℕ → WaitView C → WaitState C
  after_join s id v other w = record { words = s.words; homes = s.homes; views = slice_set (slice_set s.views id (took_in both v w)) other (spent_view spent) }

  -- the seat id, with the number own and the view v, does this, and the state becomes t
  abbrev pub Deeds : WaitState C → ℕ → WaitView C → Deed X → WaitState C → Type 0
  Deeds s id v (machine k) t = Allowed z k v × StepSuits means k v × (t ≡ after z s id v k)
  Deeds s id v (client x) t = (v.place ≡ []) × may (party_of v) x × (t ≡ after_client s id v x)
  Deeds s id v draw t = (v.own ≡ Some 0) × (v.pending ≡ None) × (v.drawn + 1 < z.procs) × (t ≡ after_draw s id v)
  Deeds s id v seat t = ((n : ℕ) × (v.pending ≡ Some n)) × (t ≡ after_seat s id v)
  Deeds s id v (join other) t = (v.place ≡ []) × ((w : WaitView C) × (get_elem? s.views other ≡ maybe.some w) × (other ≡ id → ⊥) × (w.place ≡ []) × ((w.target ≡ None) × (w.attached ≡ [])) × (w.pending ≡ None) × (t ≡ after_join s id v other w))

  -- one event: a seat that has a number does something
  abbrev pub Steps : WaitState C → ℕ × Deed X → WaitState C → Type 0
  Steps s e t = (v : WaitView C) × (p : ℕ) × (get_elem? s.views e.0 ≡ maybe.some v) × (v.own ≡ Some p) × Deeds s e.0 v e.1 t

  -- the events lead from one state to the other
  abbrev pub Runs : WaitState C → List (ℕ × Deed X) → WaitState C → Type 0
  Runs s [] t = t ≡ s
  Runs s (e ∷ es) t = (m : WaitState C) × Steps s e m × Runs m es t

  -- one event of the run is such: the state before it, the seat, and the state after it
  abbrev pub Somewhere : (WaitState C → ℕ → WaitState C → Type 0) → (s : WaitState C) (es : List (ℕ × Deed X)) (t : WaitState C) → Runs s es t → Type 0
  Somewhere P s [] t run = ⊥
  Somewhere P s (e ∷ es) t run = P s e.0 run.0 ⊎ Somewhere P run.0 es t run.2
