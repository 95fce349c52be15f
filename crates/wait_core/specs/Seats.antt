-- What a contract sees of a seat and of a table.
use Rattle.std.specs.Prelude.{◌≡◌, ◌<◌, ◌≤◌, ◌+◌, ℕ, List, [], ◌∷◌, Option, Some, None}
use Rattle.atomic_table.specs.Seated.{TableId}
use Rattle.atomic_table.specs.declared.shared.Seat.{Seat}
use Rattle.wait_core.specs.declared.view.Kept.{Kept}
use Rattle.wait_core.specs.declared.view.Record.{Record}
use Rattle.wait_core.specs.declared.view.Size.{Size}
use Rattle.wait_core.specs.declared.view.WaitView.{WaitView}
use Rattle.wait_core.specs.Words.{byte_at, client_base, slots_in}
use Rattle.wait_core.specs.Stances.{Hand, hand_at}

-- its table, its place among the views, its view, and what it has in hand, as it changed it: a list and a record
pub record SeatView (C : Type 0) : Type 0 where
  pub table_id : TableId
  pub id : ℕ
  pub view : WaitView C
  pub list : List ℕ
  pub «record» : Record

-- its client, its numbers of backends, conditions and barriers, and its opening phase
pub record TableView (P : Type 0) : Type 0 where
  pub table_id : TableId
  pub party : P
  pub procs : ℕ
  pub cvs : ℕ
  pub bars : ℕ
  pub phase : ℕ

abbrev pub seat_view : {C : Type 0} → Seat Kept (WaitView C) → List ℕ → Record → SeatView C
seat_view s list found = record { table_id = s.table_id; id = s.id; view = s.me.0; list = list; «record» = found }

-- the slot that is out with the seat is that of what it has in hand
abbrev pub Carries : Option Hand → List (ℕ × Kept) → Type 0
Carries None c = c ≡ []
Carries (Some h) c = (k : Kept) × (c ≡ (h.slot, k) ∷ [])

-- the number and the target that the seat keeps at run time are those of its view, no number is drawn that has no seat, and the words of the number are the table's
pub record IsSeated {C : Type 0} (s : Seat Kept (WaitView C)) (number : ℕ) (target : Option ℕ) : Type 0 where
  pub carries : Carries (hand_at s.me.0.place) s.me.1
  pub own : s.me.0.own ≡ Some number
  pub settled : s.me.0.pending ≡ None
  pub inside : byte_at number < s.table_id.words
  pub target_is : target ≡ s.me.0.target

abbrev pub table_view : {P : Type 0} → TableId → P → Size → ℕ → TableView P
table_view t party z phase = record { table_id = t; party = party; procs = z.procs; cvs = z.cvs; bars = z.bars; phase = phase }

-- the table's words and slots are those of these numbers of backends, conditions and barriers, and of so many words of the client
pub record IsTabled (t : TableId) (z : Size) (count : ℕ) : Type 0 where
  pub words : t.words ≡ client_base z + count
  pub slots : t.slots ≡ slots_in z
  pub procs : (0 < z.procs) × (z.procs ≤ 64)
  pub cvs : z.cvs ≤ 160
  pub bars : z.bars ≤ 72

abbrev pub size_of : {P : Type 0} → TableView P → Size
size_of t = record { procs = t.procs; cvs = t.cvs; bars = t.bars }
