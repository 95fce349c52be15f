-- What a replay keeps of a lock machine: the words, the lists at home, and of each backend the call that it is in, its place, the modes in which it holds locks, its surplus and its pokes.
use Rattle.std.specs.Prelude.{◌≡◌, ◌≤◌, ◌<◌, ℕ, ◌+◌, ◌*◌, ◌^◌, ◌++◌, ◌||◌, ◌%◌, ◌⊎◌, nat_lt, Bool, true, false, List, [], ◌∷◌, length, map, All, drop, take, replicate, slice_index, slice_index_or, slice_set, codes, Option, None, Some, option_map, option_and_then, ⊤, if◌then◌else◌}
use Rattle.std.specs.List.{range_with_len}
use Rattle.proc_table.specs.declared.Mode.{Mode}
use Rattle.lw_core.specs.declared.step.Call.{Call}
use Rattle.lw_core.specs.declared.step.Call.TheVariants as call
use Rattle.lw_core.specs.declared.step.LwStep.{LwStep}
use Rattle.lw_core.specs.declared.step.LwStep.TheVariants.{Grant, Guard, WaitStore, Wake, Post}
use Rattle.lw_core.specs.declared.view.Frame.TheVariants as frame
use Rattle.lw_core.specs.declared.view.Size.{Size}
use Rattle.lw_core.specs.declared.view.View.{View}
use Rattle.lw_core.specs.declared.view.Waiter.{Waiter}
use Rattle.lw_core.specs.declared.view.Want.{Want}
use Rattle.lw_core.specs.Words.{word_count}
use Rattle.lw_core.specs.WaitLists.{AllBelow}
use Rattle.lw_core.specs.Machine.{Place, becomes, lock_number, next, word_of}
use Rattle.lw_core.specs.Sending.{modes_then, pokes_by}
use Rattle.lock_script.specs.declared.locks.Ask.{Ask}
use Rattle.lock_script.specs.declared.locks.Ask.TheVariants.{Begin, Read, Write}
use Rattle.lock_script.specs.declared.locks.Backend.{Backend}
use Rattle.lock_script.specs.declared.locks.Heard.{Heard}
use Rattle.lock_script.specs.declared.locks.Heard.TheVariants as heard
use Rattle.lock_script.specs.declared.spots.Attempt.{Attempt}
use Rattle.lock_script.specs.declared.spots.Attempt.TheVariants as attempt
use Rattle.lock_script.specs.declared.spots.Look.{Look}
use Rattle.lock_script.specs.declared.spots.Look.TheVariants.{First, Second}
use Rattle.lock_script.specs.declared.spots.Queued.{Queued}
use Rattle.lock_script.specs.declared.spots.Queued.TheVariants as queued
use Rattle.lock_script.specs.declared.spots.Leaving.{Leaving}
use Rattle.lock_script.specs.declared.spots.Leaving.TheVariants as leaving
use Rattle.lock_script.specs.declared.spots.Slept.{Slept}
use Rattle.lock_script.specs.declared.spots.Slept.TheVariants as slept
use Rattle.lock_script.specs.declared.spots.Sleep.{Sleep}
use Rattle.lock_script.specs.declared.spots.Sleep.TheVariants as sleep
use Rattle.lock_script.specs.declared.spots.Purpose.{Purpose}
use Rattle.lock_script.specs.declared.spots.Purpose.TheVariants as purpose
use Rattle.lock_script.specs.declared.spots.Spot.{Spot}
use Rattle.lock_script.specs.declared.spots.Spot.TheVariants as spot
use Rattle.lock_script.specs.LockScripts.{first_homes, first_words, home_after}
use Rattle.lock_script.specs.Locks.{answer, answer_line, ask_lock, ask_of, call_lock, changed_word, ended, heard_after, list_text, may_begin, mode_held, step_at, step_line, still}
use Rattle.script_play.specs.Texts.{texts_of}

pub record Stand : Type 0 where
  pub ask : Option Ask
  pub place : Place
  pub modes : List (Option Mode)
  pub surplus : ℕ
  pub pokes : ℕ
  pub waited : Bool
  pub heard : Heard

pub record Sketch : Type 0 where
  pub size : Size
  pub words : List ℕ
  pub homes : List (List Waiter)
  pub stands : List Stand

unfoldable pub no_modes : List (Option Mode)
no_modes = replicate 200 None

abbrev pub idle : Stand
idle = record { ask = None; place = []; modes = no_modes; surplus = 0; pokes = 0; waited = false; heard = heard.Nothing }

abbrev pub stand_at : Sketch → ℕ → Stand
stand_at s p = slice_index_or s.stands p idle

abbrev pub mode_at : List (Option Mode) → ℕ → Option Mode
mode_at modes l = slice_index_or modes l None

-- a backend begins a call
abbrev pub started : Stand → Option Ask → Ask → Option Stand
started b (Some other) a = None
started b None a =
    if may_begin a (mode_at b.modes (ask_lock a)) b.pokes then Some (record { ask = Some a; place = b.place; modes = b.modes; surplus = b.surplus; pokes = b.pokes; waited = false; heard = heard.Nothing }) else None

abbrev pub with_stand : Sketch → ℕ → Stand → Sketch
with_stand s p c = record { size = s.size; words = s.words; homes = s.homes; stands = slice_set s.stands p c }

abbrev pub begun_with : Sketch → ℕ → Stand → Ask → Option Sketch
begun_with s p b a = option_map (with_stand s p) (started b b.ask a)

abbrev pub begins : Sketch → ℕ → List ℕ → Option Sketch
begins s p text = if nat_lt p s.size.procs then option_and_then (begun_with s p (stand_at s p)) (ask_of s.size text) else None

-- and makes its next step. Of a view the machine's next place and surplus need the place and the surplus alone
abbrev pub standing : ℕ → Place → View
standing surplus place = record {
  own = None;
  pending = None;
  taken = [];
  drawn = 0;
  place = place;
  steps = [];
  inherited = [];
  holds = [];
  grants = 0;
  waits = 0;
  surplus = surplus;
  pokes = 0;
  poked = [];
  downed = [];
}

abbrev pub place_after : LwStep → ℕ → List Waiter → ℕ → Place → Place
place_after k n home surplus place = (next k (standing surplus place) n home).place

abbrev pub surplus_after : LwStep → ℕ → ℕ → Place → ℕ
surplus_after k n surplus place = (next k (standing surplus place) n []).surplus

abbrev pub waited_after : LwStep → ℕ → Place → Bool → Bool
waited_after k n place waited = nat_lt 0 (next k (standing 0 place) n []).waits || waited

abbrev pub went : LwStep → ℕ → List Waiter → Stand → Stand
went k n home b = record {
  ask = still (place_after k n home b.surplus b.place) b.ask;
  place = place_after k n home b.surplus b.place;
  modes = modes_then k n b.modes;
  surplus = surplus_after k n b.surplus b.place;
  pokes = b.pokes + pokes_by k;
  waited = waited_after k n b.place b.waited;
  heard = heard_after k n b.heard;
}

abbrev pub told : Size → ℕ → Ask → LwStep → ℕ → Stand → List ℕ
told z p a k n c = step_line z p k n (word_of z p k) (becomes k n) ++ ended c.ask (answer_line p (answer a n (mode_at c.modes (ask_lock a)) c.waited c.heard))

unfoldable pub turn : Sketch → ℕ → Stand → Ask → Sketch × List ℕ
turn s p b a =
    let k = step_at p a (mode_held (mode_at b.modes (ask_lock a))) b.place in
    let n = slice_index s.words (word_of s.size p k) in
    let home = slice_index_or s.homes (lock_number k) [] in
    let c = went k n home b in
    let t : Sketch = record {
      size = s.size;
      words = slice_set s.words (word_of s.size p k) (becomes k n);
      homes = slice_set s.homes (lock_number k) (home_after k n b.place p home);
      stands = slice_set s.stands p c;
    } in
    (t, told s.size p a k n c)

abbrev pub steps : Sketch → ℕ → Option (Sketch × List ℕ)
steps s p = if nat_lt p s.size.procs then option_map (turn s p (stand_at s p)) (stand_at s p).ask else None

abbrev pub ends : Sketch → List ℕ
ends s = codes "final\n" ++ texts_of (changed_word s.size) (drop 1 s.words) 1 ++ texts_of list_text s.homes 0

abbrev pub opening_sketch : Size → Sketch
opening_sketch z = record { size = z; words = first_words z; homes = first_homes z; stands = map (λ _. idle) (range_with_len 0 z.procs) }

-- THE FRAMES that a place at run time stands for
abbrev pub behind_attempt : ℕ → Mode → Attempt → Place
behind_attempt l m attempt.Alone = []
behind_attempt l m (attempt.Unqueued w slept) = frame.Unqueued l m w slept ∷ []
behind_attempt l m (attempt.Queued w) = frame.Queued l m w ∷ []

abbrev pub behind_look : ℕ → ℕ → Look → Place
behind_look l old First = frame.VarUnqueued l old ∷ []
behind_look l old Second = frame.VarQueued l old ∷ []

abbrev pub behind_queued : ℕ → Want → Queued → Place
behind_queued l w (queued.Attempts m) = frame.Attempting l m ∷ frame.Queued l m w ∷ []
behind_queued l w (queued.Looks old) = frame.Allowing l ∷ frame.Peeking l old ∷ frame.VarQueued l old ∷ []

abbrev pub behind_leaving : Leaving → Place
behind_leaving leaving.Granted = frame.GivingBack ∷ []
behind_leaving (leaving.Told old conflicted) = frame.VarLeaving old conflicted ∷ []

abbrev pub behind_slept : ℕ → Slept → Place
behind_slept l (slept.Ends after) = behind_leaving after
behind_slept l (slept.Tries m) = frame.Woken l m ∷ []
behind_slept l (slept.Looks old) = frame.Peeking l old ∷ frame.VarUnqueued l old ∷ []

abbrev pub behind_sleep : Sleep → Place
behind_sleep sleep.Down = []
behind_sleep (sleep.Round l w answered after) = frame.Sleeping l w answered ∷ behind_slept l after

abbrev pub behind_list : ℕ → Purpose → Place
behind_list l (purpose.Queue w after) = frame.Queueing l w ∷ behind_queued l w after
behind_list l (purpose.Leave w after) = frame.Dequeueing l w ∷ behind_leaving after
behind_list l (purpose.Wake stored) = frame.Waking l stored ∷ []
behind_list l (purpose.Compare old look) = frame.Comparing l old ∷ behind_look l old look
behind_list l (purpose.Store x releases) = frame.Storing l x releases ∷ []

abbrev pub frames : Spot → Place
frames spot.Idle = []
frames (spot.Attempting l m after) = frame.Attempting l m ∷ behind_attempt l m after
frames (spot.Trying l m w after) = frame.Trying l m w ∷ behind_attempt l m after
frames (spot.Taking l why) = frame.TakingList l ∷ behind_list l why
frames (spot.Spinning l why) = frame.Spinning l ∷ behind_list l why
frames (spot.Flagging l w after list) = frame.Flagging l w list.items ∷ behind_queued l w after
frames (spot.Announcing l w after list) = frame.Announcing l w list.items ∷ behind_queued l w after
frames (spot.Appending l w after list) = frame.Appending l w list.items ∷ behind_queued l w after
frames (spot.Checking l w after list) = frame.Checking l w list.items ∷ behind_leaving after
frames (spot.Removing l w after list here) = frame.Removing l w list.items here ∷ behind_leaving after
frames (spot.Withdrawing after) = frame.Withdrawing ∷ behind_leaving after
frames (spot.Answering l w after) = frame.Answering l w ∷ frame.Looking ∷ frame.Sleeping l w true ∷ behind_leaving after
frames (spot.Looking why) = frame.Looking ∷ behind_sleep why
frames (spot.Asleep why) = frame.Asleep ∷ behind_sleep why
frames (spot.Downing why) = frame.Downing ∷ behind_sleep why
frames (spot.Sleeping l w answered after) = frame.Sleeping l w answered ∷ behind_slept l after
frames (spot.Woken l m) = frame.Woken l m ∷ []
frames spot.GivingBack = frame.GivingBack ∷ []
frames (spot.Marking l stored list taken told) = frame.Marking l stored list.items (take told taken.items) (drop told taken.items) ∷ []
frames (spot.Detaching l stored list w) = frame.Detaching l stored list.items w ∷ []
frames (spot.Clearing taken told) = frame.Clearing (drop told taken.items) ∷ []
frames (spot.Posting taken told) = frame.Posting (drop told taken.items) ∷ []
frames (spot.Peeking l old look) = frame.Peeking l old ∷ behind_look l old look
frames (spot.Reading l old look list) = frame.Reading l old list.items ∷ behind_look l old look
frames (spot.Returning l old look list n) = frame.Returning l old list.items n ∷ behind_look l old look
frames (spot.Allowing l old) = frame.Allowing l ∷ frame.Peeking l old ∷ frame.VarQueued l old ∷ []
frames (spot.Publishing l x list releases) = frame.Publishing l x list.items releases ∷ []
frames (spot.Calling l list taken told) = frame.Calling l list.items (take told taken.items) (drop told taken.items) ∷ []
frames (spot.Unhanding l list) = frame.Unhanding l list.items ∷ []
frames (spot.Releasing l) = frame.Releasing l ∷ []

abbrev pub stand_of : Backend → Stand
stand_of b = record { ask = b.ask; place = frames b.spot; modes = b.modes; surplus = b.surplus; pokes = b.pokes; waited = b.waited; heard = b.heard }

-- WHERE A SKETCH STANDS. The locks and the backends that a place names are the table's
abbrev pub SleepFits : Size → Sleep → Type 0
SleepFits z sleep.Down = ⊤
SleepFits z (sleep.Round l w answered after) = l < z.locks

abbrev pub SpotFits : Size → Spot → Type 0
SpotFits z spot.Idle = ⊤
SpotFits z (spot.Attempting l m after) = l < z.locks
SpotFits z (spot.Trying l m w after) = l < z.locks
SpotFits z (spot.Taking l why) = l < z.locks
SpotFits z (spot.Spinning l why) = l < z.locks
SpotFits z (spot.Flagging l w after list) = (l < z.locks) × AllBelow z.procs list.items
SpotFits z (spot.Announcing l w after list) = (l < z.locks) × AllBelow z.procs list.items
SpotFits z (spot.Appending l w after list) = (l < z.locks) × AllBelow z.procs list.items
SpotFits z (spot.Checking l w after list) = (l < z.locks) × AllBelow z.procs list.items
SpotFits z (spot.Removing l w after list here) = (l < z.locks) × AllBelow z.procs list.items
SpotFits z (spot.Withdrawing after) = ⊤
SpotFits z (spot.Answering l w after) = l < z.locks
SpotFits z (spot.Looking why) = SleepFits z why
SpotFits z (spot.Asleep why) = SleepFits z why
SpotFits z (spot.Downing why) = SleepFits z why
SpotFits z (spot.Sleeping l w answered after) = l < z.locks
SpotFits z (spot.Woken l m) = l < z.locks
SpotFits z spot.GivingBack = ⊤
SpotFits z (spot.Marking l stored list taken told) = (l < z.locks) × AllBelow z.procs list.items × AllBelow z.procs taken.items
SpotFits z (spot.Detaching l stored list w) = (l < z.locks) × AllBelow z.procs list.items
SpotFits z (spot.Clearing taken told) = AllBelow z.procs taken.items
SpotFits z (spot.Posting taken told) = AllBelow z.procs taken.items
SpotFits z (spot.Peeking l old look) = l < z.locks
SpotFits z (spot.Reading l old look list) = (l < z.locks) × AllBelow z.procs list.items
SpotFits z (spot.Returning l old look list n) = (l < z.locks) × AllBelow z.procs list.items
SpotFits z (spot.Allowing l old) = l < z.locks
SpotFits z (spot.Publishing l x list releases) = (l < z.locks) × AllBelow z.procs list.items
SpotFits z (spot.Calling l list taken told) = (l < z.locks) × AllBelow z.procs list.items × AllBelow z.procs taken.items
SpotFits z (spot.Unhanding l list) = (l < z.locks) × AllBelow z.procs list.items
SpotFits z (spot.Releasing l) = l < z.locks

abbrev pub CallFits : Size → Call → Type 0
CallFits z (call.Poke q) = q < z.procs
CallFits z c = ⊤

abbrev pub AskFits : Size → Ask → Type 0
AskFits z (Begin c) = (call_lock c < z.locks) × CallFits z c
AskFits z (Read l k) = (l < z.locks) × (k < 4)
AskFits z (Write l k x) = (l < z.locks) × (k < 4)

abbrev pub AsksFit : Size → Option Ask → Type 0
AsksFit z None = ⊤
AsksFit z (Some a) = AskFits z a

abbrev pub BackendFits : Size → Backend → Type 0
BackendFits z b = AsksFit z b.ask × SpotFits z b.spot

pub record SizeFits (z : Size) : Type 0 where
  pub locks : (0 < z.locks) × (z.locks ≤ 200)
  pub procs : (0 < z.procs) × (z.procs ≤ 64)

pub record Fits (z : Size) (words : List ℕ) (homes : List (List Waiter)) (backends : List Backend) : Type 0 where
  pub size : SizeFits z
  pub words_are : length words ≡ word_count z
  pub homes_are : length homes ≡ z.locks
  pub backends_are : length backends ≡ z.procs
  pub lists : (l : ℕ) → AllBelow z.procs (slice_index_or homes l [])
  pub each : All (BackendFits z) backends

-- a step is on a word of the table, and what it stores in a counted word isn't much more than what was there
abbrev pub GainsLittle : LwStep → Type 0
GainsLittle (Guard l k o) = k < 4
GainsLittle (WaitStore q x) = x ≤ 2
GainsLittle (Wake l w to) = to ≤ w + 2 ^ 30
GainsLittle k = ⊤

pub record StepFits (z : Size) (p : ℕ) (k : LwStep) : Type 0 where
  pub word : word_of z p k < word_count z
  pub lock : lock_number k < z.locks
  pub little : GainsLittle k

-- a sum that a step makes has room
abbrev pub HasRoom : LwStep → ℕ → Type 0
HasRoom (Grant l m w) n = n < 2 ^ 60
HasRoom (Post q begins) n = n < 2 ^ 60
HasRoom k n = ⊤

-- after so many steps the state words, the waiting fields and the semaphores are near their opening, and each backend's surplus and pokes are no more than the steps
abbrev pub IsCounted : Size → ℕ → Type 0
IsCounted z i = (i % 6 ≡ 1) ⊎ (1 + 6 * z.locks ≤ i)

pub record Counts (s : Sketch) (made : ℕ) : Type 0 where
  pub words : (i : ℕ) → IsCounted s.size i → slice_index s.words i ≤ (made + 1) * 2 ^ 30
  pub stands : (p : ℕ) → ((stand_at s p).surplus ≤ made) × ((stand_at s p).pokes ≤ made)
