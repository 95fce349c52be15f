-- What is known of a join at its end, and what follows.
use Rattle.std.specs.Prelude.{◌≡◌, ℕ, ◌+◌, ◌<◌, ◌≤◌, false, List, [], length, Some, None}
use Rattle.seat_roster.specs.Roster.{times}
use Rattle.row_model.specs.Table.{key_of, nested_loop}
use Rattle.row_model.specs.Hash.{hash_of_key}
use Rattle.wait_core.specs.Seating.{party_of}
use Rattle.signal_core.specs.Promises.{HasEmitted}
use Rattle.join_law.specs.Phases.{build, RUN}
use Rattle.join_law.specs.Quiet.{Quiet}
use Rattle.join_law.specs.Stands.{Stands, There}
use Rattle.join_law.specs.Views.{View, probed_rows}
use Rattle.join_party.specs.declared.party.HashParty.{HashParty}
use Rattle.join_party.specs.Guards.{stop_shows}
use Rattle.join_party.specs.Joins.{join}
use Rattle.hash_probe.specs.Signals.{STOP}
use Rattle.join_end.specs.Pairs.{SamePairs}
use Rattle.join_end.specs.Looks.{look_bound}
use Rattle.join_end.specs.Ends.{Ended, OthersLeft}
use Rattle.join_end.specs.Works.{Did, HasDone, IsOver, Work, both_work}

-- In some state of the join a seat that is attached to nothing has taken in all others, and it is at the end. What all did together is in its views; and if STOP was absorbed, it was emitted
pub record AtTheEnd (p : HashParty) (w : Work) : Type 0 where
  pub words : List ℕ
  pub views : List View
  pub phases : List ℕ
  pub id : ℕ
  pub stands : Stands (join p) words views phases
  pub there : There views id (party_of w.wait)
  pub free : w.wait.attached ≡ []
  pub others : OthersLeft views id
  pub done : HasDone p w
  pub emitted : 1 ≤ times STOP w.signal.absorbed → HasEmitted stop_shows STOP w.signal

-- nobody carried the count past the limit, and nobody wanted memory
abbrev pub IsUnmarked : Work → Type 0
IsUnmarked w = (w.over ≡ None) × (w.short ≡ false)

-- the pairs that all found are those of the nested loop, in some order
abbrev pub PairsAreWhole : Type 0
PairsAreWhole = (p : HashParty) (w : Work) → AtTheEnd p w → IsUnmarked w → SamePairs w.pairs (nested_loop p.outer.now p.inner.now)

-- each outer row with a key was probed or given up, once
abbrev pub RowsAreEnded : Type 0
RowsAreEnded = (p : HashParty) (w : Work) → AtTheEnd p w → (o hash : ℕ) → o < length p.outer.now.rows → hash_of_key (key_of p.outer.now o) ≡ Some hash
    → times (length p.inner.now.rows + o) (probed_rows w.wait.client.probed) + times (length p.inner.now.rows + o) w.wait.client.given ≡ 1

abbrev pub NoneIsGivenUp : Type 0
NoneIsGivenUp = (p : HashParty) (w : Work) → AtTheEnd p w → IsUnmarked w → w.wait.client.given ≡ []

-- if STOP was absorbed, somebody says that there are too many pairs, and is right
abbrev pub StoppedIsOver : Type 0
StoppedIsOver = (p : HashParty) (w : Work) → AtTheEnd p w → 1 ≤ times STOP w.signal.absorbed → (counted : ℕ) × (w.over ≡ Some counted) × IsOver p.outer.now p.inner.now counted

-- the looks of all are within the bound, whatever they say
abbrev pub LooksAreFew : Type 0
LooksAreFew = (p : HashParty) (w : Work) → AtTheEnd p w → w.looks ≤ look_bound p.outer.now p.inner.now p.buckets

-- what is true of two is true of both together
abbrev pub WorksAdd : Type 0
WorksAdd = (p : HashParty) (v w : Work) → Did p v → Did p w → Did p (both_work v w)

-- who takes in a seat that is at the end is there itself
abbrev pub EndIsTakenOver : Type 0
EndIsTakenOver = (p : HashParty) (v w : Work) → Did p v → HasDone p w → HasDone p (both_work v w)

-- who left the build quiet in RUN is at the end
abbrev pub QuietIsEnded : Type 0
QuietIsEnded = (p : HashParty) (v : View) → v.attached ≡ [] → Quiet (join p) v build RUN → Ended v
