-- What a worker did, what is true of it, and what it is together with what another did.
use Rattle.std.specs.Prelude.{◌≡◌, ◌⊎◌, ℕ, ◌+◌, ◌*◌, ◌<◌, ◌≤◌, ◌||◌, Bool, false, List, [], ◌++◌, length, Option, None, Some}
use Rattle.row_model.specs.declared.Pair.{Pair}
use Rattle.row_model.specs.Table.{Table, nested_loop}
use Rattle.seat_roster.specs.Roster.{times}
use Rattle.wait_core.specs.declared.view.WaitView.{WaitView}
use Rattle.wait_core.specs.Seating as waits
use Rattle.wait_core.specs.Seating.{party_of}
use Rattle.signal_core.specs.declared.view.SigView.{SigView}
use Rattle.signal_core.specs.Seating as signals
use Rattle.join_law.specs.declared.view.HashView.{HashView}
use Rattle.join_law.specs.Views.{both_views, probed_rows}
use Rattle.join_party.specs.declared.party.HashParty.{HashParty}
use Rattle.join_party.specs.declared.tables.JoinSeats.{JoinSeats}
use Rattle.hash_probe.specs.Marks.{most_pairs}
use Rattle.hash_probe.specs.Rows.{looks_at, pairs_found}
use Rattle.hash_probe.specs.Signals.{STOP}
use Rattle.join_end.specs.Pairs.{SamePairs}
use Rattle.join_end.specs.Ends.{Ended}

-- its views of the join and of the signals, its pairs, what it says of too many pairs and of want of memory, and its looks at keys
pub record Work : Type 0 where
  pub wait : WaitView HashView
  pub signal : SigView
  pub pairs : List Pair
  pub over : Option ℕ
  pub short : Bool
  pub looks : ℕ

-- of a worker with these seats
abbrev pub work_of : JoinSeats → List Pair → Option ℕ → Bool → ℕ → Work
work_of s pairs over short looks = record { wait = s.wait.view; signal = s.signal.view; pairs = pairs; over = over; short = short; looks = looks }

-- a count of pairs past the limit, and no more than there are
abbrev pub IsOver : Table → Table → ℕ → Type 0
IsOver outer inner counted = (most_pairs < counted) × (counted ≤ length (nested_loop outer inner))

pub record Did (p : HashParty) (w : Work) : Type 0 where
  -- its pairs are those of the rows that it probed
  pub pairs : SamePairs w.pairs (pairs_found (length p.inner.now.rows) w.wait.client.probed)
  -- what it says of too many pairs is right
  pub over : (counted : ℕ) → w.over ≡ Some counted → IsOver p.outer.now p.inner.now counted
  -- without that it emitted nothing
  pub emits : w.over ≡ None → w.signal.emissions ≡ []
  -- without that, STOP and want of memory it gave up no row
  pub gives : w.over ≡ None → w.short ≡ false → times STOP w.signal.absorbed ≡ 0 → w.wait.client.given ≡ []
  -- its looks: a number for each row that it claimed, and a walk for each row that it probed or gave up
  pub looks : w.looks ≤ 34 * w.wait.client.claimed + (looks_at p (probed_rows w.wait.client.probed) + looks_at p w.wait.client.given)
  -- it hasn't begun, or it is at the end
  pub begun : (w.wait.client.known ≡ None) ⊎ Ended (party_of w.wait)

-- all that a worker promises at its end
pub record HasDone (p : HashParty) (w : Work) : Type 0 where
  pub did : Did p w
  pub ended : Ended (party_of w.wait)

abbrev pub either_over : Option ℕ → Option ℕ → Option ℕ
either_over None o = o
either_over (Some counted) o = Some counted

-- what two did, once the second's seats were joined into the first's
abbrev pub both_work : Work → Work → Work
both_work v w = record { wait = waits.took_in both_views v.wait w.wait; signal = signals.took_in v.signal w.signal; pairs = v.pairs ++ w.pairs; over = either_over v.over w.over; short = v.short || w.short; looks = v.looks + w.looks }
