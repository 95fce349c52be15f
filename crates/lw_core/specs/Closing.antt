-- What is left when a table is closed.
use Rattle.std.specs.Prelude.{◌≡◌, ℕ, List}
use mathlib.Core.Option as maybe
use lib.ListN.{get_elem?}
use Rattle.lw_core.specs.declared.view.Size.{Size}
use Rattle.lw_core.specs.Machine.{LwState}
use Rattle.lw_core.specs.Rule.{Rule}
use Rattle.lw_core.specs.Seats.{SeatView, TableView, ClosedView}

abbrev pub size_of : TableView → Size
size_of t = record { locks = t.locks; procs = t.procs }

-- the closed words are those of a state that meets the rule, in which the last seat has its view
pub record Ends (lawful : ℕ → List ℕ → Type 0) (t : TableView) (seat : SeatView) (c : ClosedView) : Type 0 where
  pub locks : c.locks ≡ t.locks
  pub procs : c.procs ≡ t.procs
  pub state : LwState
  pub rule : Rule lawful (size_of t) state
  pub last : get_elem? state.views seat.id ≡ maybe.some seat.view
  pub words : state.words ≡ c.words
