-- What a contract sees of a seat, of a table and of a closed one.
use Rattle.std.specs.Prelude.{◌≡◌, ℕ, ◌+◌, ◌*◌, ◌^◌, ◌<◌, ◌≤◌, List, [], ◌∷◌, map, Option, Some, None, length, slice_index}
use Rattle.atomic_table.specs.Seated.{TableId}
use Rattle.atomic_table.specs.declared.shared.Seat.{Seat}
use Rattle.proc_table.specs.declared.Mode.{Mode}
use Rattle.lw_core.specs.declared.view.Hold.{Hold}
use Rattle.lw_core.specs.declared.view.Waiter.{Waiter}
use Rattle.lw_core.specs.declared.view.View.{View}
use Rattle.lw_core.specs.declared.view.Size.{Size}
use Rattle.lw_core.specs.Words.{Waiters, word_count, state_at}
use Rattle.lw_core.specs.Stances.{Hand, hand_at}

-- its table, its place among the views, its view, and the list in hand as the seat changed it
pub record SeatView : Type 0 where
  pub table_id : TableId
  pub id : ℕ
  pub view : View
  pub list : List Waiter

pub record TableView : Type 0 where
  pub table_id : TableId
  pub locks : ℕ
  pub procs : ℕ

pub record ClosedView : Type 0 where
  pub locks : ℕ
  pub procs : ℕ
  pub words : List ℕ

abbrev pub seat_view : Seat Waiters View → List Waiter → SeatView
seat_view s list = record { table_id = s.table_id; id = s.id; view = s.me.0; list = list }

abbrev pub mode_of_hold : Hold → Option Mode
mode_of_hold h = h.mode

-- the slot that is out with the seat is that of the list in hand
abbrev pub Carries : Option Hand → List (ℕ × Waiters) → Type 0
Carries None c = c ≡ []
Carries (Some h) c = (list : Waiters) × (c ≡ (h.lock, list) ∷ [])

-- the number, the modes and the pokes that the seat keeps at run time are those of its view, and its words are the table's
pub record IsSeated (s : Seat Waiters View) (number : ℕ) (modes : List (Option Mode)) (pokes : ℕ) : Type 0 where
  pub carries : Carries (hand_at s.me.0.place) s.me.1
  pub own : s.me.0.own ≡ Some number
  pub settled : s.me.0.pending ≡ None
  pub modes_are : modes ≡ map mode_of_hold s.me.0.holds
  pub long : length modes ≡ 200
  pub pokes_are : pokes ≡ s.me.0.pokes
  pub inside : 2 + 6 * s.table_id.slots + 2 * number < s.table_id.words

abbrev pub table_view : TableId → Size → TableView
table_view t z = record { table_id = t; locks = z.locks; procs = z.procs }

pub record IsTabled (t : TableId) (key z : Size) : Type 0 where
  pub keyed : key ≡ z
  pub words : t.words ≡ word_count z
  pub slots : t.slots ≡ z.locks
  pub locks : z.locks ≤ 200
  pub procs : (0 < z.procs) × (z.procs ≤ 64)

abbrev pub closed_view : Size → List ℕ → ClosedView
closed_view z words = record { locks = z.locks; procs = z.procs; words = words }

pub record IsWhole (z : Size) (words : List ℕ) : Type 0 where
  pub long : length words ≡ word_count z
  pub states : (l : ℕ) → l < z.locks → slice_index words (state_at l) < 2 ^ 32
