-- The list in hand is lent, and the record.
use Rattle.wait_core.specs.declared.seat.WaitList.{WaitList}
use Rattle.wait_core.specs.declared.view.Record.{Record}
use Rattle.wait_core.specs.Seats.{SeatView}

abbrev pub with_list : {C : Type 0} → SeatView C → WaitList → SeatView C
with_list s w = record s { list = w.items.items }

abbrev pub with_record : {C : Type 0} → SeatView C → Record → SeatView C
with_record s r = record s { «record» = r }
