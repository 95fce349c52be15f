-- How far a worker came that probes.
use Rattle.std.specs.Prelude.{◌≡◌, ℕ, ◌+◌, ◌≤◌, List, [], length, Option, None}
use Rattle.row_model.specs.declared.Pair.{Pair}
use Rattle.wait_core.specs.declared.view.WaitView.{WaitView}
use Rattle.signal_core.specs.Machine.{IsJoined}
use Rattle.join_law.specs.declared.view.HashView.{HashView}
use Rattle.join_law.specs.declared.view.Known.{Known}
use Rattle.join_law.specs.declared.view.Probed as row
use Rattle.join_law.specs.Layout.{Join, sizes_of}
use Rattle.join_law.specs.Stands.{SizesFit}
use Rattle.join_party.specs.declared.tables.JoinSeats.{JoinSeats}
use Rattle.join_party.specs.declared.tables.JoinTables.{JoinTables}
use Rattle.join_party.specs.Joins.{join}
use Rattle.join_party.specs.Workers.{IsAt}
use Rattle.hash_build.specs.Hashing.{SameWaitNumbers, for_good}
use Rattle.hash_probe.specs.declared.HashTable.{HashTable}
use Rattle.hash_probe.specs.declared.Probed.{Probed}
use Rattle.hash_probe.specs.Marks.{Says}
use Rattle.hash_probe.specs.Rows.{DoesRows}
use Rattle.hash_probe.specs.Signals.{swaps}

-- the seat knows for good how many buckets and batches there are
pub record KnowsTable (j : Join) (known : Option Known) (table : HashTable) : Type 0 where
  pub word : ℕ
  pub is : known ≡ for_good word
  pub buckets : (sizes_of word).buckets ≡ table.buckets
  pub batches : (sizes_of word).batches ≡ table.batches
  pub fit : SizesFit j (sizes_of word)

-- no seat is in a call, and the slot of signals is joined
pub record IsAwake (t : JoinTables) (s : JoinSeats) : Type 0 where
  pub at : IsAt t s
  pub idle : (s.wait.view.place ≡ []) × (s.wait.view.target ≡ None)
  pub slot : (s.signal.view.place ≡ None) × IsJoined s.signal.view.slot

-- between two rows: attached to these barriers in these phases, with no row in hand
pub record IsWorking (t : JoinTables) (s : JoinSeats) (table : HashTable) (places : List (ℕ × ℕ)) : Type 0 where
  pub awake : IsAwake t s
  pub attached : s.wait.view.attached ≡ places
  pub hand : s.wait.view.client.hand ≡ []
  pub known : KnowsTable (join t.waits.party) s.wait.view.client.known table

-- the seat is attached as before, with its numbers
pub record StaysAttached (v w : WaitView HashView) : Type 0 where
  pub attached : w.attached ≡ v.attached
  pub numbers : SameWaitNumbers v w

-- what it counted is in its view
abbrev pub IsCounted : Probed → JoinSeats → Type 0
IsCounted n s = n.probed ≤ length s.wait.view.client.probed

-- From v to w a worker probed these rows and gave up those. It looked for signals at least once for each row that it probed; the seat at the lock did nothing
pub record Worked (t : JoinTables) (v w : JoinSeats) (m n : Probed) (before after : List Pair) (looks_before looks_after : ℕ) : Type 0 where
  pub rows : List row.Probed
  pub given : List ℕ
  pub does : DoesRows t.waits.party rows given v.wait.view.client w.wait.view.client before after looks_before looks_after
  pub says : Says t.waits.party t.signals.procs rows given m n v.signal.view w.signal.view
  pub looked : swaps v.signal.view.steps + length rows ≤ swaps w.signal.view.steps
  pub numbers : SameWaitNumbers v.wait.view w.wait.view
  pub lock : w.lock ≡ v.lock

-- one row was probed or given up, and no store was looked at
pub record HandlesRow (t : JoinTables) (v w : JoinSeats) (m n : Probed) (before after : List Pair) (looks_before looks_after : ℕ) : Type 0 where
  pub rows : List row.Probed
  pub given : List ℕ
  pub one : length rows ≤ 1
  pub does : DoesRows t.waits.party rows given v.wait.view.client w.wait.view.client before after looks_before looks_after
  pub says : Says t.waits.party t.signals.procs rows given m n v.signal.view w.signal.view
  pub drained : w.wait.view.client.drained ≡ v.wait.view.client.drained
  pub stays : StaysAttached v.wait.view w.wait.view
  pub lock : w.lock ≡ v.lock
