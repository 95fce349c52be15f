-- What of a seat's view each part of the rule sees, and how views change where seats are drawn and joined.
use Rattle.std.specs.Prelude.{◌+◌, ◌++◌, List, [], ◌∷◌, ℕ, Option, None, Some}
use Rattle.signal_core.specs.declared.view.Emission.{Emission}
use Rattle.signal_core.specs.declared.view.Inherited.{Inherited}
use Rattle.signal_core.specs.declared.view.Made.{Made}
use Rattle.signal_core.specs.declared.view.Slot.{Slot}
use Rattle.signal_core.specs.declared.view.SigView.{SigView}
use Rattle.seat_roster.specs.Roster.{Numbers, listed}
use Rattle.signal_core.specs.Machine.{Place, number_of}

-- a seat's number, where it stands, what it knows of its slot, and what it emitted
pub record Stance : Type 0 where
  pub own : Option ℕ
  pub place : Place
  pub slot : Option Slot
  pub emissions : List Emission

-- a seat's number, the steps that it made, and those of the seats that were joined into it
pub record Doings : Type 0 where
  pub own : Option ℕ
  pub steps : List Made
  pub inherited : List Inherited

-- these steps, with the number of the backend that made them
abbrev pub signed : Option ℕ → List Made → List Inherited
signed own [] = []
signed own (m ∷ made) = record { by = number_of own; made = m } ∷ signed own made

abbrev pub numbers_of : SigView → Numbers
numbers_of v = record { own = v.own; pending = v.pending; taken = v.taken; drawn = v.drawn }

abbrev pub stance_of : SigView → Stance
stance_of v = record { own = v.own; place = v.place; slot = v.slot; emissions = v.emissions }

abbrev pub doings_of : SigView → Doings
doings_of v = record { own = v.own; steps = v.steps; inherited = v.inherited }

-- the view of a seat with this number, or with none, which did nothing yet
abbrev pub fresh : Option ℕ → SigView
fresh own = record { own = own; pending = None; taken = []; drawn = 0; place = None; steps = []; inherited = []; slot = None; emissions = []; absorbed = [] }

-- a seat draws the next number
abbrev pub with_drawn : SigView → SigView
with_drawn v = record v { pending = Some (v.drawn + 1); drawn = v.drawn + 1 }

-- what stays when the number drawn goes to a new seat, and the view of the new one
abbrev pub stays : SigView → SigView
stays v = record v { pending = None }

abbrev pub comes : SigView → SigView
comes v = fresh v.pending

-- a seat takes in another, and the other is spent
abbrev pub took_in : SigView → SigView → SigView
took_in v w = record v { taken = v.taken ++ (listed w.own ++ w.taken); inherited = v.inherited ++ (signed w.own w.steps ++ w.inherited); emissions = v.emissions ++ w.emissions; absorbed = v.absorbed ++ w.absorbed }

abbrev pub spent_view : SigView
spent_view = fresh None

-- a stance in no call, with no slot
abbrev pub idle : Option ℕ → List Emission → Stance
idle own es = record { own = own; place = None; slot = None; emissions = es }

-- the seat drew a number, and gave it to a new seat
abbrev pub after_draw : SigView → SigView
after_draw v = stays (with_drawn v)
