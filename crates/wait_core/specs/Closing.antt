-- What a step of the client tells of the table, and what is left when it is closed.
use Rattle.std.specs.Prelude.{◌≡◌, ℕ, List, map, slice_index}
use mathlib.Core.Option as maybe
use lib.ListN.{get_elem?}
use Rattle.wait_core.specs.declared.view.WaitView.{WaitView}
use Rattle.wait_core.specs.Meanings.{Meanings}
use Rattle.wait_core.specs.Words.{client_words}
use Rattle.wait_core.specs.Machine.{WaitState}
use Rattle.wait_core.specs.Parties.{IsStep}
use Rattle.wait_core.specs.Seating.{party_of}
use Rattle.wait_core.specs.Barriers.{phases_in}
use Rattle.wait_core.specs.Rule.{Rule}
use Rattle.wait_core.specs.Seats.{SeatView, TableView, size_of}

-- in a state that meets the rule the seat had this view, from which it made a step of the client, and the client's word at a place was n
pub record Stood {C P : Type 0} (means : Meanings C) (count : ℕ) (t : TableView P) (id : ℕ) (v : WaitView C) (at n : ℕ) : Type 0 where
  pub state : WaitState C
  pub rule : Rule means (size_of t) t.phase count state
  pub here : get_elem? state.views id ≡ maybe.some v
  pub step : IsStep (map party_of state.views) (phases_in (size_of t) state) id (party_of v)
  pub read : slice_index (client_words (size_of t) state.words) at ≡ n

-- the words are the client's of a state that meets the rule, in which the last seat has its view
pub record Ends {C P : Type 0} (means : Meanings C) (count : ℕ) (t : TableView P) (seat : SeatView C) (words : List ℕ) : Type 0 where
  pub state : WaitState C
  pub rule : Rule means (size_of t) t.phase count state
  pub last : get_elem? state.views seat.id ≡ maybe.some seat.view
  pub same : client_words (size_of t) state.words ≡ words
