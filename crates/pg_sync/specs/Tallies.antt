-- What a tally is told of.
use Rattle.std.specs.Prelude.{◌≡◌, ◌<◌, ◌⊎◌, ℕ, List, length, Option, Some, None}
use Rattle.row_model.specs.Form.{table_of}
use Rattle.row_model.specs.Table.{Table, nested_loop}
use Rattle.csv_tables.specs.Records.{records_of}
use Rattle.join_engine.specs.declared.tally.JoinSizes.{JoinSizes}
use Rattle.join_engine.specs.Joins.{one_more}
use Rattle.pg_sync.specs.declared.status.Status.{Status}
use Rattle.pg_sync.specs.declared.status.Status.TheVariants as status
use Rattle.pg_sync.specs.Answer.{IfBoth}
use Rattle.pg_sync.specs.Make.{made_pairs}
use Rattle.pg_sync.specs.Words.{Job, Task, Join, Schedule, Make}

-- the sizes of the join of two tables by so many workers, of two inputs as a command asks for it, and of two tables of drawn keys
abbrev pub table_sizes : Table → Table → ℕ → JoinSizes
table_sizes inner outer workers = record { inner = length inner.rows; outer = length outer.rows; workers = workers; pairs = length (nested_loop outer inner) }

abbrev pub job_sizes : Job → List ℕ → List ℕ → JoinSizes
job_sizes job inner outer = table_sizes (table_of (records_of inner) job.inner_key) (table_of (records_of outer) job.outer_key) job.plan.workers

abbrev pub made_sizes : ℕ → ℕ → ℕ → JoinSizes
made_sizes rows start workers = record { inner = rows; outer = rows; workers = workers; pairs = length (made_pairs rows start) }

-- nothing was told
abbrev pub Untold : ℕ → Option JoinSizes → ℕ → Option JoinSizes → Type 0
Untold joins last joins' last' = (joins' ≡ joins) × (last' ≡ last)

-- one join more was told, whose sizes are such
abbrev pub Told : (JoinSizes → Type 0) → ℕ → ℕ → Option JoinSizes → Type 0
Told such joins joins' last' = (joins' ≡ one_more joins) × (sizes : JoinSizes) × (last' ≡ Some sizes) × such sizes

-- what was told, once a join of such sizes gave this answer: the join where it was done, and want of memory may have come before or after
abbrev pub TallyShows : (JoinSizes → Type 0) → ℕ → Option JoinSizes → ℕ → Option JoinSizes → Status → Type 0
TallyShows such joins last joins' last' status.Done = Told such joins joins' last'
TallyShows such joins last joins' last' status.WriteFault = Told such joins joins' last'
TallyShows such joins last joins' last' status.NoMemory = Untold joins last joins' last' ⊎ Told such joins joins' last'
TallyShows such joins last joins' last' s = Untold joins last joins' last'

-- the join of two inputs has these sizes, where their bytes are told
abbrev pub AreOf : Job → Option (List ℕ) → Option (List ℕ) → JoinSizes → Type 0
AreOf job inner outer sizes = IfBoth inner outer (λ i o. sizes ≡ job_sizes job i o)

-- what was told by a command, once it gave this answer. One worker makes its tables' pairs without tables of a join, and tells nothing
abbrev pub CommandTells : Option Task → (List ℕ → Option (List ℕ)) → ℕ → Option JoinSizes → ℕ → Option JoinSizes → Status → Type 0
CommandTells None held joins last joins' last' s = Untold joins last joins' last'
CommandTells (Some (Join job)) held joins last joins' last' s = TallyShows (AreOf job (held job.inner) (held job.outer)) joins last joins' last' s
CommandTells (Some (Schedule name)) held joins last joins' last' s = Untold joins last joins' last'
CommandTells (Some (Make rows start workers)) held joins last joins' last' s = (workers ≡ 1 → Untold joins last joins' last')
    × (1 < workers → TallyShows (λ sizes. sizes ≡ made_sizes rows start workers) joins last joins' last' s)
