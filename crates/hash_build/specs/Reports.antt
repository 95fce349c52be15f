-- What a report of a chunk and the end of a growth do: to the guarded words of the join's lock, and to the seat.
use Rattle.std.specs.Prelude.{◌≡◌, ℕ, ◌+◌, ◌==◌, max, nat_lt, Bool, cond, false, List, [], ◌∷◌, ◌++◌, Option, Some, unwrap_or, slice_set}
use Rattle.proc_table.specs.declared.Mode.TheVariants.{Exclusive}
use Rattle.lw_core.specs.declared.step.Call.{Call}
use Rattle.lw_core.specs.declared.step.Call.TheVariants as call
use Rattle.lw_core.specs.declared.step.GuardOp.TheVariants as guard
use Rattle.lw_core.specs.declared.step.LwStep.TheVariants.{Guard}
use Rattle.lw_core.specs.declared.view.Made.{Made}
use Rattle.lw_core.specs.declared.view.Hold.{Hold}
use Rattle.lw_core.specs.declared.view.View.{View}
use Rattle.lw_core.specs.Machine.{made, not_held}
use Rattle.lw_core.specs.Programs.{begun_by, calls}
use Rattle.join_party.specs.Guards.{IsReported}
use Rattle.join_party.specs.declared.tables.JoinTables.{JoinTables}
use Rattle.shared_tuples.specs.declared.sizes.Growth.{Growth}
use Rattle.shared_tuples.specs.declared.sizes.Sizes.{Sizes}
use Rattle.hash_build.specs.declared.report.Reported.{Reported}
use Rattle.hash_build.specs.Wanted.{growth_wanted, wanted_of, word_of}

-- the lock's words as they were found, and what a seat that holds the lock then knows of them
abbrev pub words_of : Reported → List ℕ
words_of found = found.rows ∷ found.wanted ∷ found.largest ∷ found.reports ∷ []

abbrev pub known_of : Reported → List (Option ℕ)
known_of found = Some found.rows ∷ Some found.wanted ∷ Some found.largest ∷ Some found.reports ∷ []

abbrev pub knowing : Reported → Hold
knowing found = record { mode = Some Exclusive; known = known_of found; wrote = false }

-- What the words say after a report of so many rows, where the largest batch of the chunk has so many. A chunk is counted unless as many reports were made as there may be, and a growth that is wanted already stays
abbrev pub after_report : JoinTables → Sizes → ℕ → ℕ → Reported → Reported
after_report t sizes count largest found =
    let counts : Bool = nat_lt found.reports 262144 in
    let most : ℕ = max found.largest largest in
    record {
      rows = cond counts (found.rows + count) found.rows;
      wanted = cond (found.wanted == 0) (word_of (growth_wanted t sizes most)) found.wanted;
      largest = most;
      reports = cond counts (found.reports + 1) found.reports;
    }

-- what the words say after the end of a growth: growth is stopped for good, or none is wanted. If so many rows are given, they are the largest batch's
abbrev pub after_growth : Bool → Option ℕ → Reported → Reported
after_growth stopped largest found = record found { wanted = cond stopped 3 0; largest = unwrap_or largest found.largest }

-- the steps that read the four words
abbrev pub reading : ℕ → Reported → List Made
reading lock found = made (Guard lock 0 guard.Load) found.rows ∷ made (Guard lock 1 guard.Load) found.wanted ∷ made (Guard lock 2 guard.Load) found.largest ∷ made (Guard lock 3 guard.Load) found.reports ∷ []

-- the step that stores one of the words, where it is to say something else
abbrev pub changing : ℕ → ℕ → ℕ → ℕ → List Made
changing lock at old new = cond (old == new) [] (made (Guard lock at (guard.Store new)) old ∷ [])

-- the steps that store the words which are to say something else
abbrev pub storing : ℕ → Reported → Reported → List Made
storing lock found next =
    changing lock 0 found.rows next.rows ++ (changing lock 3 found.reports next.reports ++ (changing lock 2 found.largest next.largest ++ changing lock 1 found.wanted next.wanted))

-- these are the steps of one such call: the first begins it, and no other begins a call
pub record StepsOf (c : Call) (steps : List Made) : Type 0 where
  pub first : Made
  pub then : List Made
  pub are : steps ≡ first ∷ then
  pub begins : begun_by first.step ≡ Some c
  pub only : calls then ≡ 0

-- the seat made these steps on the lock's words; nothing is different but what it knows of them
abbrev pub Touched : ℕ → List Made → View → View → Type 0
Touched lock steps v w = (h : Hold) × (w ≡ record v { steps = v.steps ++ steps; holds = slice_set v.holds lock h })

-- The lock is acquired, its four words are read, those that are to say something else are stored, and the lock is released. The words were found as they may be. The seat has one grant more and is in no call; nothing else is different but its steps, its waits and its surplus, and that it doesn't hold the lock
pub record UnderLock (lock : ℕ) (found next : Reported) (v w : View) : Type 0 where
  pub acquiring : List Made
  pub releasing : List Made
  pub sleeps : ℕ
  pub acquires : StepsOf (call.Acquire lock Exclusive) acquiring
  pub releases : StepsOf (call.Release lock) releasing
  pub lawful : IsReported (words_of found)
  pub view : w ≡ record v {
    place = [];
    steps = v.steps ++ (acquiring ++ (reading lock found ++ (storing lock found next ++ releasing)));
    holds = slice_set v.holds lock not_held;
    grants = v.grants + 1;
    waits = v.waits + sleeps;
    surplus = 0;
  }

-- a chunk of so many rows is reported, and the growth that is wanted then is told
pub record ReportsChunk (lock : ℕ) (t : JoinTables) (sizes : Sizes) (count largest : ℕ) (told : Option Growth) (v w : View) : Type 0 where
  pub found : Reported
  pub under : UnderLock lock found (after_report t sizes count largest found) v w
  pub tells : told ≡ wanted_of (after_report t sizes count largest found).wanted

-- a growth ends
pub record EndsGrowth (lock : ℕ) (stopped : Bool) (largest : Option ℕ) (v w : View) : Type 0 where
  pub found : Reported
  pub under : UnderLock lock found (after_growth stopped largest found) v w
