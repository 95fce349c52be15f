-- What a contract sees of a seat and of a table.
use Rattle.std.specs.Prelude.{◌≡◌, ◌<◌, ℕ, [], Some, None}
use Rattle.atomic_table.specs.Seated.{TableId}
use Rattle.atomic_table.specs.declared.shared.Seat.{Seat}
use Rattle.signal_core.specs.declared.view.Nothing.{Nothing}
use Rattle.signal_core.specs.declared.view.About.{About}
use Rattle.signal_core.specs.declared.view.SigView.{SigView}
use Rattle.signal_core.specs.Words.{pend_at}
use Rattle.signal_core.specs.Places.{gen_of}

pub record SeatView : Type 0 where
  pub table_id : TableId
  pub id : ℕ
  pub view : SigView

-- its number of backends, and the generation at which it opened
pub record TableView : Type 0 where
  pub table_id : TableId
  pub procs : ℕ
  pub generation : ℕ

abbrev pub seat_view : Seat Nothing SigView → SeatView
seat_view s = record { table_id = s.table_id; id = s.id; view = s.me.0 }

-- the seat has nothing in hand, it has this number, none is drawn that has no seat, the words of the number are the table's, and this is the generation in its word
abbrev pub IsSeated : Seat Nothing SigView → ℕ → ℕ → Type 0
IsSeated s number generation = (s.me.1 ≡ []) × (s.me.0.own ≡ Some number) × (s.me.0.pending ≡ None) × (pend_at number < s.table_id.words) × (generation ≡ gen_of s.me.0.slot s.me.0.place)

abbrev pub table_view : TableId → About → TableView
table_view t z = record { table_id = t; procs = z.procs; generation = z.generation }

abbrev pub about_of : TableView → About
about_of t = record { procs = t.procs; generation = t.generation }
