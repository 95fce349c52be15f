-- The four guarded words of a lock are lawful while nobody has written them.
use Rattle.std.specs.Prelude.{◌≡◌, ℕ, ◌<◌, ◌≤◌, Bool, true, false, List, length, slice_index, None, Some}
use mathlib.Core.Option as maybe
use lib.ListN.{get_elem?}
use Rattle.lw_core.specs.declared.view.Hold.{Hold}
use Rattle.seat_roster.specs.Totals.{total}
use Rattle.lw_core.specs.Machine.{known_at}
use Rattle.lw_core.specs.CountsHolders.{is_exclusive}

abbrev pub one_where : Bool → ℕ
one_where true = 1
one_where false = 0

-- 1 where the seat has written a word since its grant
abbrev pub writes : Hold → ℕ
writes h = one_where h.wrote

-- the words that a holder knows are the table's; who doesn't hold the lock knows none; and only an exclusive holder has written
pub record Knows (words : List ℕ) (h : Hold) : Type 0 where
  pub four : length h.known ≡ 4
  pub right : (k n : ℕ) → k < 4 → known_at h k ≡ Some n → slice_index words k ≡ n
  pub none : h.mode ≡ None → (k : ℕ) → known_at h k ≡ None
  pub wrote : writes h ≤ is_exclusive h.mode

-- Of one lock, with what each seat has of it: where no holder has written since its grant the four words are lawful
pub record GuardedIsLawful (lawful : List ℕ → Type 0) (words : List ℕ) (holds : List Hold) : Type 0 where
  pub unwritten : total writes holds ≡ 0 → lawful words
  pub knows : (id : ℕ) (h : Hold) → get_elem? holds id ≡ maybe.some h → Knows words h
