-- The command that a list of words names.
use Rattle.std.specs.Prelude.{◌<◌, ◌≤◌, ℕ, Bool, ◌&&◌, not, List, [], ◌∷◌, Option, Some, None, option_map, option_and_then, unwrap_or, codes, nat_eq, if◌then◌else◌}
use Rattle.std.specs.Int.{is_power_of_two, IsPowerOfTwo}
use Rattle.std.specs.List.{starts_with}
use Rattle.std.specs.Str.{bytes_eq}
use Rattle.decimal_word.specs.Numbers.{number_of}
use Rattle.row_model.specs.declared.Plan.{Plan}
use Rattle.pg_sync.specs.declared.words.JoinWords.{JoinWords}
use Rattle.pg_sync.specs.declared.words.OptionWords.{OptionWords}
use Rattle.pg_sync.specs.declared.words.Command.{Command}
use Rattle.pg_sync.specs.declared.words.Command.TheVariants as command

-- a join, by the names of its inputs and of their keys, and how it is to run
pub record Job : Type 0 where
  pub inner : List ℕ
  pub outer : List ℕ
  pub inner_key : List ℕ
  pub outer_key : List ℕ
  pub plan : Plan

-- a command: a join, a script of this name played, or the join of two tables of so many drawn keys from a start, by so many workers
pub data Task : Type 0 where
  Join : Job → Task
  Schedule : List ℕ → Task
  Make : (rows start workers : ℕ) → Task

-- a word that may name an input: it isn't empty and doesn't begin with two dashes
abbrev pub is_input : List ℕ → Bool
is_input word = not (bytes_eq word []) && not (starts_with nat_eq word (codes "--"))

-- the number of workers that a word names, of buckets, and of rows that a batch may have
abbrev pub workers_of : List ℕ → Option ℕ
workers_of word = number_of 1 16 word

abbrev pub buckets_of : List ℕ → Option ℕ
buckets_of word = option_and_then (λ n. if is_power_of_two n then Some n else None) (number_of 1 262144 word)

abbrev pub mem_of : List ℕ → Option ℕ
mem_of word = number_of 1 262144 word

-- the options of a join, each given or not
pub record Options : Type 0 where
  pub inner_key : Option (List ℕ)
  pub outer_key : Option (List ℕ)
  pub workers : Option ℕ
  pub buckets : Option ℕ
  pub mem : Option ℕ

abbrev pub no_options : Options
no_options = record { inner_key = None; outer_key = None; workers = None; buckets = None; mem = None }

-- the value of an option, which may not have been given before
abbrev pub once : {A : Type 0} → Option A → Option A → Option A
once None value = value
once (Some before) value = None

-- the options with one more, by its name and its value: none where the name is no option's or was given before, or the value is
-- out of its range
unfoldable pub add_option : Options → List ℕ → List ℕ → Option Options
add_option given name value =
    if bytes_eq name (codes "--inner-key") then option_map (λ key. record given { inner_key = Some key }) (once given.inner_key (Some value))
    else if bytes_eq name (codes "--outer-key") then option_map (λ key. record given { outer_key = Some key }) (once given.outer_key (Some value))
    else if bytes_eq name (codes "--workers") then option_map (λ n. record given { workers = Some n }) (once given.workers (workers_of value))
    else if bytes_eq name (codes "--buckets") then option_map (λ n. record given { buckets = Some n }) (once given.buckets (buckets_of value))
    else if bytes_eq name (codes "--mem") then option_map (λ n. record given { mem = Some n }) (once given.mem (mem_of value))
    else None

-- the options with those that words name, each by a name and a value
unfoldable pub read_options : Options → List (List ℕ) → Option Options
read_options given [] = Some given
read_options given (name ∷ []) = None
read_options given (name ∷ value ∷ words) = option_and_then (λ more. read_options more words) (add_option given name value)

-- how a join with these options is to run, by default with 4 workers, 1,024 buckets and 65,536 rows a batch
abbrev pub plan_of : Options → Plan
plan_of given = record { workers = unwrap_or given.workers 4; buckets = unwrap_or given.buckets 1024; mem = unwrap_or given.mem 65536 }

-- the join of two inputs with these options, both keys among them
abbrev pub job_of : List ℕ → List ℕ → Options → Option Job
job_of inner outer given = option_and_then (λ inner_key. option_map (λ outer_key.
    record { inner = inner; outer = outer; inner_key = inner_key; outer_key = outer_key; plan = plan_of given }) given.outer_key) given.inner_key

-- what `join` and the words after it ask for: two inputs, and options in any order
unfoldable pub join_of : List (List ℕ) → Option Task
join_of (inner ∷ outer ∷ options) =
    if is_input inner && is_input outer then option_map Join (option_and_then (job_of inner outer) (read_options no_options options)) else None
join_of words = None

-- what `schedule` and the words after it ask for: a file
unfoldable pub schedule_of : List (List ℕ) → Option Task
schedule_of (name ∷ []) = if is_input name then Some (Schedule name) else None
schedule_of words = None

-- what `make` and the words after it ask for: from 1 to 65,536 rows, a start of 32 bits, and workers
abbrev pub make_at : Option ℕ → Option ℕ → Option ℕ → Option Task
make_at None start workers = None
make_at (Some rows) None workers = None
make_at (Some rows) (Some start) None = None
make_at (Some rows) (Some start) (Some workers) = Some (Make rows start workers)

unfoldable pub make_of : List (List ℕ) → Option Task
make_of (rows ∷ start ∷ workers ∷ []) = make_at (number_of 1 65536 rows) (number_of 0 4294967295 start) (workers_of workers)
make_of words = None

-- the command that the words name
unfoldable pub command_of : List (List ℕ) → Option Task
command_of [] = None
command_of (verb ∷ words) =
    if bytes_eq verb (codes "join") then join_of words
    else if bytes_eq verb (codes "schedule") then schedule_of words
    else if bytes_eq verb (codes "make") then make_of words
    else None

-- what holds of a join, what of a script, and what of `make`; nothing is said of another command
abbrev pub IfJoin : Option Task → (Job → Type 0) → Type 0
IfJoin None P = Unit {0}
IfJoin (Some (Join job)) P = P job
IfJoin (Some (Schedule name)) P = Unit {0}
IfJoin (Some (Make rows start workers)) P = Unit {0}

abbrev pub IfSchedule : Option Task → (List ℕ → Type 0) → Type 0
IfSchedule None P = Unit {0}
IfSchedule (Some (Join job)) P = Unit {0}
IfSchedule (Some (Schedule name)) P = P name
IfSchedule (Some (Make rows start workers)) P = Unit {0}

abbrev pub IfMake : Option Task → (ℕ → ℕ → Type 0) → Type 0
IfMake None P = Unit {0}
IfMake (Some (Join job)) P = Unit {0}
IfMake (Some (Schedule name)) P = Unit {0}
IfMake (Some (Make rows start workers)) P = P rows start

-- the options that words give
abbrev pub options_at : OptionWords → Options
options_at given = record {
  inner_key = option_map (λ key. key.now) given.inner_key;
  outer_key = option_map (λ key. key.now) given.outer_key;
  workers = given.workers;
  buckets = given.buckets;
  mem = given.mem;
}

-- the join that a command's words name
abbrev pub job_at : JoinWords → Job
job_at job = record { inner = job.inner.now; outer = job.outer.now; inner_key = job.inner_key.now; outer_key = job.outer_key.now; plan = job.plan }

abbrev pub task_in : Command → Task
task_in (command.Join job) = Join (job_at job)
task_in (command.Schedule name) = Schedule name.now
task_in (command.Make rows start workers) = Make rows start workers

-- how a join may run
pub record IsPlan (plan : Plan) : Type 0 where
  pub workers : (0 < plan.workers) × (plan.workers ≤ 16)
  pub buckets : IsPowerOfTwo plan.buckets × (plan.buckets ≤ 262144)
  pub mem : (0 < plan.mem) × (plan.mem ≤ 262144)

abbrev pub HasPlan : Command → Type 0
HasPlan (command.Join job) = IsPlan job.plan
HasPlan (command.Schedule name) = Unit {0}
HasPlan (command.Make rows start workers) = Unit {0}

-- how many rows may be drawn, and by how many workers they may be joined
abbrev pub HasRows : Command → Type 0
HasRows (command.Join job) = Unit {0}
HasRows (command.Schedule name) = Unit {0}
HasRows (command.Make rows start workers) = (0 < rows) × (rows ≤ 65536) × (0 < workers) × (workers ≤ 16)
