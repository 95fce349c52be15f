-- What the leader and its workers are before and after they work, and what they come to together.
use Rattle.std.specs.Prelude.{◌≡◌, ℕ, ◌+◌, ◌-◌, ◌<◌, ◌≤◌, false, List, [], length, None}
use Rattle.row_model.specs.declared.Pair.{Pair}
use Rattle.lw_core.specs.Machine.{HoldsNothing}
use Rattle.wait_core.specs.Seating.{party_of}
use Rattle.join_law.specs.Views.{first_view}
use Rattle.join_party.specs.declared.tables.JoinSeats.{JoinSeats}
use Rattle.join_party.specs.declared.tables.JoinTables.{JoinTables}
use Rattle.join_party.specs.Workers.{IsNumbered}
use Rattle.hash_build.specs.Builds.{Begins}
use Rattle.join_end.specs.declared.worker.Said.{Said}
use Rattle.join_end.specs.Ends.{Ended}
use Rattle.join_end.specs.Workers.{HasGone, IsNew, KeepsNumbers}
use Rattle.join_end.specs.Works.{Did, HasDone, Work, work_of}

-- the seats with the number 0, from which so many workers were drawn and which took in so many; they are in no call, attached to nothing, and hold nothing
pub record IsLeader (s : JoinSeats) (workers gone_workers : ℕ) : Type 0 where
  pub numbered : IsNumbered s 0 0 0
  pub drawn : (s.lock.view.drawn ≡ workers) × (s.wait.view.drawn ≡ workers) × (s.signal.view.drawn ≡ workers)
  pub taken : (length s.wait.view.taken ≡ gone_workers) × (length s.signal.view.taken ≡ gone_workers)
  pub gone : HasGone s
  pub free : HoldsNothing s.lock.view

-- it has no part in the join yet
pub record IsIdle (s : JoinSeats) : Type 0 where
  pub wait : s.wait.view.client ≡ first_view
  pub signal : s.signal.view.emissions ≡ []

-- a worker's seats, each with this number, that did nothing yet
pub record IsReady (s : JoinSeats) (number : ℕ) : Type 0 where
  pub begins : Begins s
  pub new : IsNew s number number
  pub slot : (s.signal.view.place ≡ None) × (s.signal.view.slot ≡ None)
  pub free : HoldsNothing s.lock.view

-- a worker of this number that has left the join, with its pairs, what it says, and its looks
pub record HasWorked (t : JoinTables) (s : JoinSeats) (number : ℕ) (pairs : List Pair) (said : Said) (looks_before looks_after : ℕ) : Type 0 where
  pub gone : HasGone s
  pub free : HoldsNothing s.lock.view
  pub numbers : KeepsNumbers s number number
  pub done : HasDone t.waits.party (work_of s pairs said.over said.short (looks_after - looks_before))

-- What as many workers did together as the leader took in: it stands in the leader's views. Where nobody wanted memory, the pairs that all found are there
pub record Together (t : JoinTables) (s : JoinSeats) (workers : ℕ) (pairs : List Pair) (said : Said) (looks_before looks_after : ℕ) : Type 0 where
  pub work : Work
  pub wait : work.wait ≡ s.wait.view
  pub signal : work.signal ≡ s.signal.view
  pub over : work.over ≡ said.over
  pub kept : said.short ≡ false → (work.pairs ≡ pairs) × (work.short ≡ false)
  pub looks : looks_after ≤ looks_before + work.looks
  pub did : Did t.waits.party work
  -- where there was one, the join is at its end
  pub ended : 0 < workers → Ended (party_of s.wait.view)

-- a leader took in one worker more
abbrev pub TakesIn : JoinSeats → JoinSeats → JoinSeats → Type 0
TakesIn leader worker new = (drawn taken number : ℕ) → IsLeader leader drawn taken → KeepsNumbers worker number number → IsLeader new drawn (taken + 1)

-- what a worker did is added to what others did
abbrev pub Adds : JoinTables → JoinSeats → List Pair → Said → JoinSeats → List Pair → Said → JoinSeats → List Pair → Said → Type 0
Adds t leader pairs said worker found told new all both = (workers number a b c d : ℕ) → Together t leader workers pairs said a b → HasWorked t worker number found told c d
    → Together t new (workers + 1) all both (c + a) (d + b)
