-- The list in hand is lent.
use Rattle.std.specs.Borrow.{Lends, MutBor, Fml}
use Rattle.lw_core.specs.declared.seat.WaitList.{WaitList}
use Rattle.lw_core.specs.contracts.seat.WaitList.{the_row as the_list}
use Rattle.lw_core.specs.contracts.seat.LwSeat.{the_row}
use Rattle.lw_core.specs.Seats.{SeatView}

abbrev pub with_list : SeatView → WaitList → SeatView
with_list s w = record s { list = w.items.items }

abbrev pub LendsList : MutBor SeatView → MutBor WaitList → Fml
LendsList s r = Lends the_row the_list s r (with_list s.now)
