-- What of a seat's view each part of the rule sees, and how views change where seats are drawn and joined.
use Rattle.std.specs.Prelude.{◌+◌, ◌++◌, false, List, [], ◌∷◌, ℕ, Option, None, Some}
use Rattle.wait_core.specs.declared.view.Inherited.{Inherited}
use Rattle.wait_core.specs.declared.view.Made.{Made}
use Rattle.wait_core.specs.declared.view.PartyView.{PartyView}
use Rattle.wait_core.specs.declared.view.WaitView.{WaitView}
use Rattle.seat_roster.specs.Roster.{Numbers, listed}
use Rattle.wait_core.specs.Machine.{Place, number_of}

-- a seat's number, its target, and where it stands
pub record Standing : Type 0 where
  pub own : Option ℕ
  pub target : Option ℕ
  pub place : Place

-- a seat's number, the steps that it made, and those of the seats that were joined into it
pub record Doings : Type 0 where
  pub own : Option ℕ
  pub steps : List Made
  pub inherited : List Inherited

-- these steps, with the number of the backend that made them
abbrev pub signed : Option ℕ → List Made → List Inherited
signed own [] = []
signed own (m ∷ made) = record { by = number_of own; made = m } ∷ signed own made

module _ {C : Type 0} where
  abbrev pub numbers_of : WaitView C → Numbers
  numbers_of v = record { own = v.own; pending = v.pending; taken = v.taken; drawn = v.drawn }

  abbrev pub standing_of : WaitView C → Standing
  standing_of v = record { own = v.own; target = v.target; place = v.place }

  abbrev pub doings_of : WaitView C → Doings
  doings_of v = record { own = v.own; steps = v.steps; inherited = v.inherited }

  abbrev pub party_of : WaitView C → PartyView C
  party_of v = record { client = v.client; proc = v.own; attached = v.attached; elections = v.elections }

  -- the view of a seat with this number, or with none, which did nothing yet
  abbrev pub fresh : C → Option ℕ → WaitView C
  fresh c own = record { own = own; pending = None; taken = []; drawn = 0; place = []; steps = []; inherited = []; client = c; attached = []; elections = []; passed = []; target = None; heeds = false }

  -- the seat after a step of its client
  abbrev pub client_moved : WaitView C → C → WaitView C
  client_moved v c = record v { client = c }

  -- a seat draws the next number
  abbrev pub with_drawn : WaitView C → WaitView C
  with_drawn v = record v { pending = Some (v.drawn + 1); drawn = v.drawn + 1 }

  -- what stays when the number drawn goes to a new seat, and the view of the new one
  abbrev pub stays : WaitView C → WaitView C
  stays v = record v { pending = None }

  abbrev pub comes : C → WaitView C → WaitView C
  comes c v = fresh c v.pending

  -- a seat takes in another, and the other is spent
  abbrev pub took_in : (C → C → C) → WaitView C → WaitView C → WaitView C
  took_in both v w = record v { taken = v.taken ++ (listed w.own ++ w.taken); inherited = v.inherited ++ (signed w.own w.steps ++ w.inherited); client = both v.client w.client; elections = v.elections ++ w.elections; passed = v.passed ++ w.passed }

  abbrev pub spent_view : C → WaitView C
  spent_view c = fresh c None

  -- the seat drew a number, and gave it to a new seat
  abbrev pub after_draw : WaitView C → WaitView C
  after_draw v = stays (with_drawn v)
