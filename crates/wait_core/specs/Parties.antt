-- What changes of a client's view of a seat, and what a client's laws may suppose.
use mathlib.Core.Option as maybe
use lib.ListN.{get_elem?}
use Rattle.std.specs.Prelude.{◌≡◌, ◌⊎◌, ◌<◌, ◌≤◌, ◌==◌, cond, List, length, ℕ, suc, [], ◌∷◌, ◌++◌, Option, None, Some, slice_index}
use Rattle.wait_core.specs.declared.view.PartyView.{PartyView}

-- the phase that a seat knows of a barrier, where it is attached to it
abbrev pub phase_of : List (ℕ × ℕ) → ℕ → Option ℕ
phase_of [] b = None
phase_of (a ∷ more) b = cond (a.0 == b) (Some a.1) (phase_of more b)

-- the phase of a barrier's record
abbrev pub now : List ℕ → ℕ → ℕ
now phases b = slice_index phases b

-- the barrier and the phase stand among the elections
abbrev pub Elected : List (ℕ × ℕ) → ℕ → ℕ → Type 0
Elected list bar phase = (k : ℕ) × (get_elem? list k ≡ maybe.some (bar, phase))

module _ {C : Type 0} where
  abbrev pub with_client : PartyView C → C → PartyView C
  with_client v c = record v { client = c }

  -- a seat with this number, or with none, attached to nothing
  abbrev pub newcomer : C → Option ℕ → PartyView C
  newcomer c own = record { client = c; proc = own; attached = []; elections = [] }

  -- a seat that took in another
  abbrev pub joined : (C → C → C) → PartyView C → PartyView C → PartyView C
  joined both v w = record v { client = both v.client w.client; elections = v.elections ++ w.elections }

  -- what is left of the other
  abbrev pub left_over : C → PartyView C
  left_over c = newcomer c None

  -- a seat that gained an election
  abbrev pub elected : PartyView C → ℕ → ℕ → PartyView C
  elected v bar phase = record v { elections = (bar, phase) ∷ v.elections }

  -- w is v but for its attachment to one barrier: there it knows this phase, or isn't attached
  pub record Reattached (v w : PartyView C) (bar : ℕ) (phase : Option ℕ) : Type 0 where
    pub client : w.client ≡ v.client
    pub proc : w.proc ≡ v.proc
    pub elections : w.elections ≡ v.elections
    pub there : phase_of w.attached bar ≡ phase
    pub elsewhere : (b : ℕ) → (b ≡ bar → ⊥) → phase_of w.attached b ≡ phase_of v.attached b

  -- What each law may suppose of the barriers: an attached seat knows its record's phase or, where it waits, the one below. No election is above its record's phase, and no two seats have the same
  pub record Barriers (views : List (PartyView C)) (phases : List ℕ) : Type 0 where
    pub near : (id : ℕ) (v : PartyView C) → get_elem? views id ≡ maybe.some v → (b ph : ℕ) → phase_of v.attached b ≡ Some ph → (now phases b ≡ ph) ⊎ (now phases b ≡ suc ph)
    pub inside : (id : ℕ) (v : PartyView C) → get_elem? views id ≡ maybe.some v → (b ph : ℕ) → phase_of v.attached b ≡ Some ph → b < length phases
    pub past : (id : ℕ) (v : PartyView C) → get_elem? views id ≡ maybe.some v → (b ph : ℕ) → Elected v.elections b ph → ph ≤ now phases b
    pub one : (i j : ℕ) (v w : PartyView C) → get_elem? views i ≡ maybe.some v → get_elem? views j ≡ maybe.some w → (b ph : ℕ) → Elected v.elections b ph → Elected w.elections b ph → i ≡ j

  -- each barrier that the seat is attached to has the phase that it knows, so it waits for none
  abbrev pub Here : List ℕ → PartyView C → Type 0
  Here phases v = (b ph : ℕ) → phase_of v.attached b ≡ Some ph → now phases b ≡ ph

  -- the same of all barriers but one
  abbrev pub HereBut : List ℕ → PartyView C → ℕ → Type 0
  HereBut phases v bar = (b ph : ℕ) → (b ≡ bar → ⊥) → phase_of v.attached b ≡ Some ph → now phases b ≡ ph

  -- the seat that makes a step, among the at most 64 that there ever are. It is in no call, so it waits for no phase
  pub record IsStep (views : List (PartyView C)) (phases : List ℕ) (id : ℕ) (v : PartyView C) : Type 0 where
    pub at : get_elem? views id ≡ maybe.some v
    pub own : (p : ℕ) × (v.proc ≡ Some p)
    pub few : length views ≤ 64
    pub barriers : Barriers views phases
    pub here : Here phases v

  -- a seat is drawn, and there is room for it
  pub record IsDraw (views : List (PartyView C)) (phases : List ℕ) (proc : ℕ) : Type 0 where
    pub few : length views < 64
    pub proc_below : proc < 64
    pub barriers : Barriers views phases

  -- a seat and another that is joined into it
  pub record IsJoin (views : List (PartyView C)) (phases : List ℕ) (id : ℕ) (v : PartyView C) (other : ℕ) (w : PartyView C) : Type 0 where
    pub at : get_elem? views id ≡ maybe.some v
    pub own : (p : ℕ) × (v.proc ≡ Some p)
    pub apart : other ≡ id → ⊥
    pub there : get_elem? views other ≡ maybe.some w
    pub free : w.attached ≡ []
    pub few : length views ≤ 64
    pub barriers : Barriers views phases

  -- a seat attaches: w is v with that barrier at its record's phase
  pub record IsEnter (views : List (PartyView C)) (phases : List ℕ) (id : ℕ) (v w : PartyView C) (bar : ℕ) : Type 0 where
    pub at : get_elem? views id ≡ maybe.some v
    pub few : length views ≤ 64
    pub barriers : Barriers views phases
    pub here : Here phases v
    pub inside : bar < length phases
    pub away : phase_of v.attached bar ≡ None
    pub after : Reattached v w bar (Some (now phases bar))

  -- a seat that waited finds that its phase has passed
  pub record IsNotice (views : List (PartyView C)) (phases : List ℕ) (id : ℕ) (v w : PartyView C) (bar ph : ℕ) : Type 0 where
    pub at : get_elem? views id ≡ maybe.some v
    pub few : length views ≤ 64
    pub barriers : Barriers views phases
    pub here : HereBut phases v bar
    pub attached : phase_of v.attached bar ≡ Some ph
    pub passed : now phases bar ≡ suc ph
    pub after : Reattached v w bar (Some (suc ph))

  -- a seat gains the election of a phase that nobody has
  pub record IsElection (views : List (PartyView C)) (phases : List ℕ) (id : ℕ) (v : PartyView C) (bar ph : ℕ) : Type 0 where
    pub at : get_elem? views id ≡ maybe.some v
    pub few : length views ≤ 64
    pub barriers : Barriers views phases
    pub attached : phase_of v.attached bar ≡ Some ph
    pub reached : now phases bar ≡ ph
    pub new : (j : ℕ) (u : PartyView C) → get_elem? views j ≡ maybe.some u → Elected u.elections bar ph → ⊥

  -- a phase passes: somebody is attached, and whoever is knows this phase, is quiet in it, and waits at no other barrier
  pub record IsPass (quiet : PartyView C → ℕ → ℕ → Type 0) (views : List (PartyView C)) (phases : List ℕ) (bar id : ℕ) (v : PartyView C) : Type 0 where
    pub few : length views ≤ 64
    pub barriers : Barriers views phases
    pub inside : bar < length phases
    pub at : get_elem? views id ≡ maybe.some v
    pub attached : phase_of v.attached bar ≡ Some (now phases bar)
    pub all : (j : ℕ) (u : PartyView C) (ph : ℕ) → get_elem? views j ≡ maybe.some u → phase_of u.attached bar ≡ Some ph → (ph ≡ now phases bar) × quiet u bar ph × Here phases u

  -- a seat detaches: it knows this phase or, where that passed in this very step, the one below; and the phase doesn't stay, or another seat is attached
  pub record IsLeave (stays : ℕ → ℕ → Type 0) (views : List (PartyView C)) (phases : List ℕ) (id : ℕ) (v w : PartyView C) (bar ph : ℕ) : Type 0 where
    pub at : get_elem? views id ≡ maybe.some v
    pub few : length views ≤ 64
    pub barriers : Barriers views phases
    pub here : HereBut phases v bar
    pub attached : phase_of v.attached bar ≡ Some ph
    pub near : (now phases bar ≡ ph) ⊎ (now phases bar ≡ suc ph)
    pub leaves : (stays bar (now phases bar) → ⊥) ⊎ ((j : ℕ) × (u : PartyView C) × (q : ℕ) × (j ≡ id → ⊥) × (get_elem? views j ≡ maybe.some u) × (phase_of u.attached bar ≡ Some q))
    pub after : Reattached v w bar None
