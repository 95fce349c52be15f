-- Runs of the lock machine: steps of any seats, and the moves by which seats come and go, in any order.
use Rattle.std.specs.Prelude.{◌≡◌, ℕ, ◌+◌, ◌<◌, List, [], ◌∷◌, ◌++◌, slice_index, slice_set, None, Some}
use mathlib.Core.Option as maybe
use lib.ListN.{get_elem?}
use Rattle.atomic_table.specs.Table.{keeps, stepped}
use Rattle.lw_core.specs.declared.step.LwStep.{LwStep}
use Rattle.lw_core.specs.declared.view.View.{View}
use Rattle.lw_core.specs.declared.view.Size.{Size}
use Rattle.seat_roster.specs.Roster.{listed}
use Rattle.lw_core.specs.WordsAreMade.{all_steps}
use Rattle.lw_core.specs.Machine.{LwState, HoldsNothing, IsInRange, Allowed, after, fresh}

-- the view of a seat that draws the next number; what stays of it when that number goes to a new seat; and the view of the new seat
abbrev pub drew_one : View → View
drew_one v = record v { pending = Some (v.drawn + 1); drawn = v.drawn + 1 }

abbrev pub stays : View → View
stays v = record v { pending = None }

abbrev pub comes : View → View
comes v = fresh v.pending

-- the view of a seat that takes in another, whose view is spent then. It takes over the other's numbers and steps, whom it poked and whose `down` ended
abbrev pub both : View → View → View
both v w = record v { taken = v.taken ++ (listed w.own ++ w.taken); inherited = v.inherited ++ all_steps w; poked = v.poked ++ w.poked; downed = v.downed ++ w.downed }

abbrev pub spent : View
spent = fresh None

abbrev pub drawn : LwState → ℕ → View → LwState
drawn s id v = stepped s 0 (slice_index s.words 0 + 1) id [] (drew_one v) keeps

abbrev pub split : LwState → ℕ → View → LwState
split s id v = record { words = s.words; homes = s.homes; views = slice_set s.views id (stays v) ++ comes v ∷ [] }

abbrev pub joined : LwState → ℕ → View → ℕ → View → LwState
joined s id v other w = record { words = s.words; homes = s.homes; views = slice_set (slice_set s.views id (both v w)) other spent }

-- the seat id, which has a number, makes the step k, which names a lock and a backend of the table, where its place allows it
pub record Steps (lawful : ℕ → List ℕ → Type 0) (z : Size) (s : LwState) (id : ℕ) (k : LwStep) (t : LwState) : Type 0 where
  pub view : View
  pub at : get_elem? s.views id ≡ maybe.some view
  pub range : IsInRange z k
  pub numbered : view.own ≡ None → ⊥
  pub allowed : Allowed lawful k view
  pub is : t ≡ after z s id view k

-- seat 0 draws the next number
pub record Draws (z : Size) (s : LwState) (id : ℕ) (t : LwState) : Type 0 where
  pub view : View
  pub at : get_elem? s.views id ≡ maybe.some view
  pub zero : view.own ≡ Some 0
  pub free : view.pending ≡ None
  pub more : view.drawn + 1 < z.procs
  pub is : t ≡ drawn s id view

-- the number that was drawn goes to a new seat
pub record Splits (s : LwState) (id : ℕ) (t : LwState) : Type 0 where
  pub view : View
  pub at : get_elem? s.views id ≡ maybe.some view
  pub is : t ≡ split s id view

-- the seat id takes in another one, which is in no call and holds nothing
pub record Joins (s : LwState) (id other : ℕ) (t : LwState) : Type 0 where
  pub view : View
  pub at : get_elem? s.views id ≡ maybe.some view
  pub from : View
  pub there : get_elem? s.views other ≡ maybe.some from
  pub apart : other ≡ id → ⊥
  pub settled : from.pending ≡ None
  pub idle : from.place ≡ []
  pub empty : HoldsNothing from
  pub is : t ≡ joined s id view other from

pub data Event : Type 0 where
  steps : ℕ → LwStep → Event
  draws : ℕ → Event
  splits : ℕ → Event
  joins : ℕ → ℕ → Event

abbrev pub Turns : (ℕ → List ℕ → Type 0) → Size → LwState → Event → LwState → Type 0
Turns lawful z s (steps id k) t = Steps lawful z s id k t
Turns lawful z s (draws id) t = Draws z s id t
Turns lawful z s (splits id) t = Splits s id t
Turns lawful z s (joins id other) t = Joins s id other t

-- the events lead from the one state to the other
abbrev pub Run : (ℕ → List ℕ → Type 0) → Size → LwState → List Event → LwState → Type 0
Run lawful z s [] t = t ≡ s
Run lawful z s (e ∷ es) t = (m : LwState) × Turns lawful z s e m × Run lawful z m es t
