-- In which state of the table a seat's view was.
use Rattle.std.specs.Prelude.{◌≡◌, ℕ}
use mathlib.Core.Option as maybe
use lib.ListN.{get_elem?}
use Rattle.signal_core.specs.Machine.{SigState}
use Rattle.signal_core.specs.Rule.{Rule}
use Rattle.signal_core.specs.Seats.{SeatView, TableView, about_of}

-- in a state that meets the rule the seat had this view
pub record Stood (shows : ℕ → ℕ → Type 0) (t : TableView) (seat : SeatView) : Type 0 where
  pub state : SigState
  pub rule : Rule shows (about_of t) state
  pub here : get_elem? state.views seat.id ≡ maybe.some seat.view
