-- What a replay keeps of a wait machine: the words, what is at home, and of each backend its number, the call that it is in, its target, its place, its attachments, and what its call was told.
use Rattle.std.specs.Prelude.{◌≡◌, ◌≤◌, ◌<◌, ℕ, ◌+◌, ◌^◌, ◌++◌, nat_lt, Bool, true, false, List, [], ◌∷◌, length, map, All, slice_index, slice_index_or, slice_set, codes, Option, None, Some, option_map, option_and_then, ⊤, if◌then◌else◌}
use Rattle.std.specs.List.{range_with_len}
use Rattle.wait_core.specs.declared.step.Call.{Call}
use Rattle.wait_core.specs.declared.step.Call.TheVariants as call
use Rattle.wait_core.specs.declared.step.WaitStep.{WaitStep}
use Rattle.wait_core.specs.declared.view.Frame.TheVariants as frame
use Rattle.wait_core.specs.declared.view.Job.{Job}
use Rattle.wait_core.specs.declared.view.Job.TheVariants as job
use Rattle.wait_core.specs.declared.view.Kept.{Kept}
use Rattle.wait_core.specs.declared.view.Record.{Record}
use Rattle.wait_core.specs.declared.view.Size.{Size}
use Rattle.wait_core.specs.Words.{client_base, last_phase, slots_in}
use Rattle.wait_core.specs.Lists.{AllBelow}
use Rattle.wait_core.specs.Machine.{Place, as_kept, attached_then, becomes, place_then, slot_number, target_then, word_of}
use Rattle.wait_core.specs.Machine as machine
use Rattle.wait_script.specs.declared.waits.Backend.{Backend}
use Rattle.wait_script.specs.declared.homes.Home.{Home}
use Rattle.wait_script.specs.declared.waits.Opening.{Opening}
use Rattle.wait_script.specs.declared.waits.Told.{Told}
use Rattle.wait_script.specs.declared.waits.Told.TheVariants as told
use Rattle.wait_script.specs.declared.spots.Stage.{Stage}
use Rattle.wait_script.specs.declared.spots.Stage.TheVariants as stage
use Rattle.wait_script.specs.declared.spots.Left.{Left}
use Rattle.wait_script.specs.declared.spots.Left.TheVariants as left
use Rattle.wait_script.specs.declared.spots.Popped.{Popped}
use Rattle.wait_script.specs.declared.spots.Popped.TheVariants as popped
use Rattle.wait_script.specs.declared.spots.Sleep.{Sleep}
use Rattle.wait_script.specs.declared.spots.Sleep.TheVariants as sleep
use Rattle.wait_script.specs.declared.spots.Task.{Task}
use Rattle.wait_script.specs.declared.spots.Task.TheVariants as task
use Rattle.wait_script.specs.declared.spots.Point.{Point}
use Rattle.wait_script.specs.declared.spots.Point.TheVariants as point
use Rattle.wait_script.specs.declared.spots.Spot.{Spot}
use Rattle.wait_script.specs.declared.spots.Spot.TheVariants as spot
use Rattle.wait_script.specs.Waits.{answer, answer_line, ask_of, ended, has_step, may_begin, step_at, step_line, still, told_after}
use Rattle.wait_script.specs.WaitScripts.{ends_with, first_homes, first_words, home_after, home_at}

pub record Stand : Type 0 where
  pub own : ℕ
  pub ask : Option Call
  pub target : Option ℕ
  pub place : Place
  pub attached : List (ℕ × ℕ)
  pub told : Told

pub record Sketch : Type 0 where
  pub opening : Opening
  pub words : List ℕ
  pub homes : List Kept
  pub stands : List Stand

abbrev pub idle : ℕ → Stand
idle own = record { own = own; ask = None; target = None; place = []; attached = []; told = told.Nothing }

abbrev pub stand_at : Sketch → ℕ → Stand
stand_at s p = slice_index_or s.stands p (idle 0)

abbrev pub with_stand : Sketch → ℕ → Stand → Sketch
with_stand s p c = record { opening = s.opening; words = s.words; homes = s.homes; stands = slice_set s.stands p c }

-- a backend begins a call
abbrev pub asking : Stand → Call → Stand
asking b a = record { own = b.own; ask = Some a; target = b.target; place = b.place; attached = b.attached; told = told.Nothing }

abbrev pub entered : Stand → Call → Bool → Stand × List ℕ
entered b a true = (asking b a, [])
entered b a false = (b, answer_line b.own (codes "false"))

abbrev pub started : Stand → Option Call → Call → Option (Stand × List ℕ)
started b (Some other) a = None
started b None a = if may_begin a b.attached then Some (entered b a (has_step a b.target)) else None

abbrev pub begun_with : Sketch → ℕ → Stand → Call → Option (Sketch × List ℕ)
begun_with s p b a = option_map (λ t. (with_stand s p t.0, t.1)) (started b b.ask a)

abbrev pub begins : Sketch → ℕ → List ℕ → Option (Sketch × List ℕ)
begins s p text = if nat_lt p s.opening.size.procs then option_and_then (begun_with s p (stand_at s p)) (ask_of s.opening.size text) else None

-- and makes its next step
abbrev pub at_place : ℕ → Option ℕ → Place → machine.Stand
at_place own target place = record { own = own; target = target; place = place }

abbrev pub standing : Stand → machine.Stand
standing b = at_place b.own b.target b.place

abbrev pub went : Size → WaitStep → ℕ → Kept → Stand → Stand
went z k n home b = record {
  own = b.own;
  ask = still (place_then z k n home (standing b)) b.ask;
  target = target_then k b.target;
  place = place_then z k n home (standing b);
  attached = attached_then k b.place b.attached;
  told = told_after b.own b.place b.told;
}

abbrev pub shown : Size → ℕ → Call → WaitStep → ℕ → Stand → List ℕ
shown z p a k n c = step_line z p k (word_of z p k) (becomes k n) ++ ended c.ask (answer_line p (answer a n c.told))

unfoldable pub turn : Sketch → ℕ → Stand → Call → Sketch × List ℕ
turn s p b a =
    let k = step_at b.own a b.target b.place in
    let n = slice_index s.words (word_of s.opening.size b.own k) in
    let home = home_at s.homes (slot_number k) in
    let c = went s.opening.size k n home b in
    let t : Sketch = record {
      opening = s.opening;
      words = slice_set s.words (word_of s.opening.size b.own k) (becomes k n);
      homes = slice_set s.homes (slot_number k) (home_after k n b.own b.place home);
      stands = slice_set s.stands p c;
    } in
    (t, shown s.opening.size b.own a k n c)

abbrev pub steps : Sketch → ℕ → Option (Sketch × List ℕ)
steps s p = if nat_lt p s.opening.size.procs then option_map (turn s p (stand_at s p)) (stand_at s p).ask else None

abbrev pub ends : Sketch → List ℕ
ends s = ends_with s.opening s.words s.homes

abbrev pub opening_sketch : Opening → Sketch
opening_sketch o = record { opening = o; words = first_words o.size; homes = first_homes o; stands = map idle (range_with_len 0 o.size.procs) }

-- THE FRAMES that a place at run time stands for. What an arrival or a departure is at, behind a call on its condition
abbrev pub staged : Stage → Place
staged (stage.Settling b ph) = frame.Settling b ph ∷ []
staged (stage.Dozing b ph) = frame.Dozing b ph ∷ []
staged (stage.Passing b ph) = frame.Passing b ph ∷ []
staged (stage.Returning b ph) = frame.Returning b ph ∷ []

abbrev pub behind : Option Stage → Place
behind None = []
behind (Some g) = staged g

abbrev pub behind_left : Left → Place
behind_left (left.Ends o) = behind o
behind_left (left.Prepares c o) = frame.Preparing c ∷ behind o
behind_left (left.Broadcasts c o) = frame.Broadcasting c ∷ behind o

abbrev pub behind_popped : Popped → Place
behind_popped (popped.Signal c q) = frame.Signalling c q ∷ []
behind_popped (popped.Broadcast c q more o) = frame.Rousing c q more ∷ behind o

abbrev pub behind_set : Option Popped → Place
behind_set None = []
behind_set (Some w) = behind_popped w

abbrev pub behind_sleep : Sleep → Place
behind_sleep sleep.Alone = []
behind_sleep (sleep.On c o) = frame.SleepWaiting c ∷ behind o

abbrev pub job_of : Task → Job
job_of (task.Cancel c after) = job.Cancel c
job_of (task.Prepare c o) = job.Prepare c
job_of (task.Resleep c o) = job.Resleep c
job_of (task.Signal c) = job.Signal c
job_of (task.Broadcast c o) = job.Broadcast c
job_of (task.Rebroadcast c o) = job.Rebroadcast c
job_of (task.Attach b) = job.Attach b
job_of (task.Arrive b) = job.Arrive b
job_of (task.Notice b ph) = job.Notice b ph
job_of (task.Detach b) = job.Detach b
job_of (task.ArriveDetach b) = job.ArriveDetach b
job_of (task.ExceptLast b) = job.ExceptLast b

abbrev pub behind_task : Task → Place
behind_task (task.Cancel c after) = behind_left after
behind_task (task.Prepare c o) = behind o
behind_task (task.Resleep c o) = behind o
behind_task (task.Signal c) = []
behind_task (task.Broadcast c o) = behind o
behind_task (task.Rebroadcast c o) = behind o
behind_task (task.Attach b) = []
behind_task (task.Arrive b) = []
behind_task (task.Notice b ph) = []
behind_task (task.Detach b) = []
behind_task (task.ArriveDetach b) = []
behind_task (task.ExceptLast b) = []

abbrev pub frames_at : Point → Place
frames_at point.Idle = []
frames_at (point.Inside g) = staged g
frames_at (point.Popping w) = behind_popped w
frames_at (point.Setting q w) = frame.Setting q ∷ behind_set w
frames_at (point.Telling q w) = frame.Telling q ∷ behind_set w
frames_at (point.Waking q w) = frame.Waking q ∷ behind_set w
frames_at (point.Announcing u e) = frame.Announcing u ∷ behind_sleep e
frames_at (point.Rechecking u e) = frame.Rechecking u ∷ behind_sleep e
frames_at (point.CheckingShutdown e) = frame.CheckingShutdown ∷ behind_sleep e
frames_at (point.Looking u e) = frame.Looking u ∷ behind_sleep e
frames_at (point.Asleep u e) = frame.Asleep u ∷ behind_sleep e
frames_at (point.Retracting u e) = frame.Retracting u ∷ behind_sleep e
frames_at (point.Draining u e) = frame.Draining u ∷ behind_sleep e
frames_at (point.Repeating u e) = frame.Repeating u ∷ behind_sleep e
frames_at (point.LeavingSet e) = frame.LeavingSet ∷ behind_sleep e
frames_at (point.LeavingShutdown e) = frame.LeavingShutdown ∷ behind_sleep e
frames_at (point.Stopping q) = frame.Stopping q ∷ []
frames_at (point.SleepWaiting c o) = frame.SleepWaiting c ∷ behind o
frames_at (point.Resetting c o) = frame.Resetting c ∷ behind o
frames_at (point.Taking j) = frame.Taking (job_of j) ∷ behind_task j
frames_at (point.Spinning j) = frame.Spinning (job_of j) ∷ behind_task j

abbrev pub frames : Spot → Place
frames (spot.At p) = frames_at p
frames (spot.Holding j list found) = frame.Holding (job_of j) list.items found ∷ behind_task j

abbrev pub stand_of : Backend → Stand
stand_of b = record { own = b.own; ask = b.ask; target = b.target; place = frames b.spot; attached = b.attached.items; told = b.told }

abbrev pub kept_of : Home → Kept
kept_of h = as_kept h.list.items h.record

-- WHERE A SKETCH STANDS. The backends and the barriers that a place names are the table's
abbrev pub StageFits : Size → Stage → Type 0
StageFits z (stage.Settling b ph) = b < z.bars
StageFits z (stage.Dozing b ph) = b < z.bars
StageFits z (stage.Passing b ph) = b < z.bars
StageFits z (stage.Returning b ph) = b < z.bars

abbrev pub BehindFits : Size → Option Stage → Type 0
BehindFits z None = ⊤
BehindFits z (Some g) = StageFits z g

abbrev pub LeftFits : Size → Left → Type 0
LeftFits z (left.Ends o) = BehindFits z o
LeftFits z (left.Prepares c o) = BehindFits z o
LeftFits z (left.Broadcasts c o) = BehindFits z o

abbrev pub PoppedFits : Size → Popped → Type 0
PoppedFits z (popped.Signal c q) = q < z.procs
PoppedFits z (popped.Broadcast c q more o) = (q < z.procs) × BehindFits z o

abbrev pub SetFits : Size → Option Popped → Type 0
SetFits z None = ⊤
SetFits z (Some w) = PoppedFits z w

abbrev pub SleepFits : Size → Sleep → Type 0
SleepFits z sleep.Alone = ⊤
SleepFits z (sleep.On c o) = BehindFits z o

abbrev pub TaskFits : Size → Task → Type 0
TaskFits z (task.Cancel c after) = LeftFits z after
TaskFits z (task.Prepare c o) = BehindFits z o
TaskFits z (task.Resleep c o) = BehindFits z o
TaskFits z (task.Signal c) = ⊤
TaskFits z (task.Broadcast c o) = BehindFits z o
TaskFits z (task.Rebroadcast c o) = BehindFits z o
TaskFits z (task.Attach b) = b < z.bars
TaskFits z (task.Arrive b) = b < z.bars
TaskFits z (task.Notice b ph) = b < z.bars
TaskFits z (task.Detach b) = b < z.bars
TaskFits z (task.ArriveDetach b) = b < z.bars
TaskFits z (task.ExceptLast b) = b < z.bars

abbrev pub PointFits : Size → Point → Type 0
PointFits z point.Idle = ⊤
PointFits z (point.Inside g) = StageFits z g
PointFits z (point.Popping w) = PoppedFits z w
PointFits z (point.Setting q w) = (q < z.procs) × SetFits z w
PointFits z (point.Telling q w) = (q < z.procs) × SetFits z w
PointFits z (point.Waking q w) = (q < z.procs) × SetFits z w
PointFits z (point.Announcing u e) = SleepFits z e
PointFits z (point.Rechecking u e) = SleepFits z e
PointFits z (point.CheckingShutdown e) = SleepFits z e
PointFits z (point.Looking u e) = SleepFits z e
PointFits z (point.Asleep u e) = SleepFits z e
PointFits z (point.Retracting u e) = SleepFits z e
PointFits z (point.Draining u e) = SleepFits z e
PointFits z (point.Repeating u e) = SleepFits z e
PointFits z (point.LeavingSet e) = SleepFits z e
PointFits z (point.LeavingShutdown e) = SleepFits z e
PointFits z (point.Stopping q) = q < z.procs
PointFits z (point.SleepWaiting c o) = BehindFits z o
PointFits z (point.Resetting c o) = BehindFits z o
PointFits z (point.Taking j) = TaskFits z j
PointFits z (point.Spinning j) = TaskFits z j

abbrev pub SpotFits : Size → Spot → Type 0
SpotFits z (spot.At p) = PointFits z p
SpotFits z (spot.Holding j list found) = TaskFits z j × AllBelow z.procs list.items

abbrev pub CallFits : Size → Call → Type 0
CallFits z (call.Set q) = q < z.procs
CallFits z (call.Attach b) = b < z.bars
CallFits z (call.Arrive b) = b < z.bars
CallFits z (call.Detach b) = b < z.bars
CallFits z (call.ArriveDetach b) = b < z.bars
CallFits z (call.ExceptLast b) = b < z.bars
CallFits z c = ⊤

abbrev pub AsksFit : Size → Option Call → Type 0
AsksFit z None = ⊤
AsksFit z (Some a) = CallFits z a

pub record BackendFits (z : Size) (b : Backend) : Type 0 where
  pub own : b.own < z.procs
  pub ask : AsksFit z b.ask
  pub spot : SpotFits z b.spot

pub record SizeFits (z : Size) : Type 0 where
  pub procs : (0 < z.procs) × (z.procs ≤ 64)
  pub cvs : (0 < z.cvs) × (z.cvs ≤ 160)
  pub bars : (0 < z.bars) × (z.bars ≤ 72)

pub record OpeningFits (o : Opening) : Type 0 where
  pub size : SizeFits o.size
  pub phase : o.phase ≤ last_phase

pub record Fits (o : Opening) (words : List ℕ) (homes : List Kept) (backends : List Backend) : Type 0 where
  pub opening : OpeningFits o
  pub words_are : length words ≡ client_base o.size
  pub homes_are : length homes ≡ slots_in o.size
  pub backends_are : length backends ≡ o.size.procs
  pub lists : (x : ℕ) → AllBelow o.size.procs (home_at homes x).list.items
  pub each : All (BackendFits o.size) backends

-- a step is on a word of the table, and its slot is one
pub record StepFits (z : Size) (p : ℕ) (k : WaitStep) : Type 0 where
  pub word : word_of z p k < client_base z
  pub some : 0 < word_of z p k
  pub slot : slot_number k < slots_in z

-- after so many steps the counts and the phase of each record are near their opening, at home and in hand
pub record Near (made : ℕ) (r : Record) : Type 0 where
  pub phase : r.phase ≤ last_phase + made
  pub participants : r.participants ≤ made
  pub arrived : r.arrived ≤ made

abbrev pub HeldNear : ℕ → Place → Type 0
HeldNear made (frame.Holding j list found ∷ p) = Near made found
HeldNear made p = ⊤

abbrev pub SpotNear : ℕ → Spot → Type 0
SpotNear made (spot.At p) = ⊤
SpotNear made (spot.Holding j list found) = Near made found

-- a step with nothing in hand takes nothing
abbrev pub TakesNothing : Point → Type 0
TakesNothing point.Idle = ⊥
TakesNothing (point.Inside g) = ⊥
TakesNothing (point.Taking j) = ⊥
TakesNothing p = ⊤

-- so a sum that a step makes has room
pub record HasRoom (r : Record) : Type 0 where
  pub phase : r.phase + 1 < 2 ^ 64
  pub participants : r.participants + 1 < 2 ^ 32
  pub arrived : r.arrived + 1 < 2 ^ 32

abbrev pub SpotRoom : Spot → Type 0
SpotRoom (spot.At p) = ⊤
SpotRoom (spot.Holding j list found) = HasRoom found

pub record Counts (s : Sketch) (made : ℕ) : Type 0 where
  pub homes : (x : ℕ) → Near made (home_at s.homes x).record
  pub stands : (p : ℕ) → HeldNear made (stand_at s p).place
