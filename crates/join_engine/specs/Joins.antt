-- What a join is that is done, and what is told of it.
use Rattle.std.specs.Prelude.{◌≡◌, ℕ, ◌+◌, ◌-◌, ◌^◌, ◌<◌, ◌≤◌, min, length, Some}
use denote.Ref.{Bor}
use Rattle.seat_roster.specs.Roster.{times}
use Rattle.row_model.specs.declared.Plan.{Plan}
use Rattle.row_model.specs.Table.{Table, key_of, nested_loop}
use Rattle.row_model.specs.Hash.{hash_of_key}
use Rattle.join_law.specs.Views.{probed_rows}
use Rattle.join_end.specs.Last.{IsLast}
use Rattle.join_engine.specs.declared.joined.Joined.{Joined}
use Rattle.join_engine.specs.declared.tally.JoinSizes.{JoinSizes}
use Rattle.join_engine.specs.Limit.{pair_limit}

-- the tables that were joined
abbrev pub inner_of : Joined → Table
inner_of j = j.tables.waits.party.inner.now

abbrev pub outer_of : Joined → Table
outer_of j = j.tables.waits.party.outer.now

-- the seats took in those of as many workers as were planned
pub record HasAllSeats (j : Joined) : Type 0 where
  pub workers : j.seats.wait.view.drawn ≡ j.tables.plan.workers
  pub all : IsLast j.seats

-- The pairs are those of two nested loops, in their order. By the seats of all workers each outer row with a key was probed, once
pub record IsJoined (j : Joined) : Type 0 where
  pub pairs : j.pairs.items ≡ nested_loop (outer_of j) (inner_of j)
  pub few : length j.pairs.items ≤ pair_limit
  pub probed : (o hash : ℕ) → o < length (outer_of j).rows → hash_of_key (key_of (outer_of j) o) ≡ Some hash → times (length (inner_of j).rows + o) (probed_rows j.seats.wait.view.client.probed) ≡ 1
  pub seats : HasAllSeats j

-- a join of these tables by this plan
pub record IsOf (inner_rows outer_rows : Bor Table) (by : Plan) (j : Joined) : Type 0 where
  pub inner : j.tables.waits.party.inner ≡ inner_rows
  pub outer : j.tables.waits.party.outer ≡ outer_rows
  pub plan : j.tables.plan ≡ by

-- a count with one more, as far as 64 bits go
abbrev pub one_more : ℕ → ℕ
one_more count = min (count + 1) (2 ^ 64 - 1)

-- the sizes of a join
abbrev pub sizes_of : Joined → JoinSizes
sizes_of j = record { inner = length (inner_of j).rows; outer = length (outer_of j).rows; workers = j.tables.plan.workers; pairs = length j.pairs.items }
