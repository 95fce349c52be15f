-- Which growth is wanted, and by which word the join's lock says so.
use Rattle.std.specs.Prelude.{ℕ, ◌+◌, ◌*◌, ◌==◌, ◌&&◌, nat_lt, nat_le, Bool, cond, Option, None, Some}
use Rattle.join_party.specs.declared.tables.JoinTables.{JoinTables}
use Rattle.shared_tuples.specs.declared.sizes.Growth.{Growth}
use Rattle.shared_tuples.specs.declared.sizes.Growth.TheVariants.{Batches, Buckets}
use Rattle.shared_tuples.specs.declared.sizes.Sizes.{Sizes}
use Rattle.shared_tuples.specs.Growing.{grown_sizes}

-- at most 262,144 buckets, at most 64 batches, and no more chains than the join has
abbrev pub is_within : JoinTables → Sizes → Bool
is_within t s = nat_le s.buckets 262144 && nat_le s.batches 64 && nat_le (s.buckets * s.batches) t.waits.party.chains

-- the sizes that a growth brings have room
abbrev pub room_for : JoinTables → Sizes → Growth → Bool
room_for t s growth = is_within t (grown_sizes s growth t.waits.party.first_batches)

-- a batch has more rows than the budget
abbrev pub wants_batches : JoinTables → Sizes → ℕ → Bool
wants_batches t s largest = nat_lt t.plan.mem largest && room_for t s Batches

-- there is one batch, and its rows and one more are more than the buckets
abbrev pub wants_buckets : JoinTables → Sizes → ℕ → Bool
wants_buckets t s largest = (s.batches == 1) && nat_lt s.buckets (largest + 1) && room_for t s Buckets

-- the growth that is wanted where the largest batch has so many rows. Batches come first
abbrev pub growth_wanted : JoinTables → Sizes → ℕ → Option Growth
growth_wanted t s largest = cond (wants_batches t s largest) (Some Batches) (cond (wants_buckets t s largest) (Some Buckets) None)

-- the word that says which growth is wanted, and what a word says. That growth is stopped, 3, asks for none
abbrev pub word_of : Option Growth → ℕ
word_of None = 0
word_of (Some Buckets) = 1
word_of (Some Batches) = 2

abbrev pub wanted_of : ℕ → Option Growth
wanted_of word = cond (word == 1) (Some Buckets) (cond (word == 2) (Some Batches) None)
