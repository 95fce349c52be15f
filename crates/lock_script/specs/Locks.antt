-- A script on the lock machine: the calls, the step that a backend's place and call name, and what is printed of it.
use Rattle.std.specs.Prelude.{ℕ, ◌+◌, ◌-◌, ◌*◌, ◌/◌, ◌%◌, ◌==◌, ◌++◌, ◌&&◌, nat_lt, Bool, true, false, cond, is_none, is_some, List, [], ◌∷◌, codes, decimal, Option, None, Some, option_map, option_and_then, if◌then◌else◌}
use Rattle.std.specs.Str.{bytes_eq}
use Rattle.decimal_word.specs.Numbers.{number_of}
use Rattle.proc_table.specs.declared.Mode.{Mode}
use Rattle.proc_table.specs.declared.Mode.TheVariants.{Shared, Exclusive}
use Rattle.lw_core.specs.declared.step.Call.{Call}
use Rattle.lw_core.specs.declared.step.Call.TheVariants as call
use Rattle.lw_core.specs.declared.step.GuardOp.TheVariants as guard
use Rattle.lw_core.specs.declared.step.LwStep.{LwStep}
use Rattle.lw_core.specs.declared.step.LwStep.TheVariants.{Load, Grant, Refuse, Sub, Peek, Guard, Lock, VarLoad, VarStore, Unlock, Flag, WaitStore, WaitLoad, Wake, Post, Look, Down, SetReleaseOk}
use Rattle.lw_core.specs.declared.view.Frame.{Frame}
use Rattle.lw_core.specs.declared.view.Frame.TheVariants.{Attempting, Trying, Unqueued, Queued, TakingList, Spinning, Queueing, Flagging, Announcing, Appending, Dequeueing, Checking, Removing, Withdrawing, Answering, Looking, Asleep, Downing, Sleeping, Woken, GivingBack, Waking, Marking, Detaching, Clearing, Posting, Peeking, Comparing, Reading, Returning, VarUnqueued, Allowing, VarQueued, VarLeaving, Storing, Publishing, Calling, Unhanding, Releasing}
use Rattle.lw_core.specs.declared.view.Size.{Size}
use Rattle.lw_core.specs.declared.view.Waiter.{Waiter}
use Rattle.lw_core.specs.declared.view.Want.{Want}
use Rattle.lw_core.specs.declared.view.Want.TheVariants as want
use Rattle.lw_core.specs.Words.{is_free, release_ok}
use Rattle.lw_core.specs.WaitLists.{is_empty, taken_from, kept_from}
use Rattle.lw_core.specs.Machine.{Place, left_at, woken_word}
use Rattle.lock_script.specs.declared.locks.Ask.{Ask}
use Rattle.lock_script.specs.declared.locks.Ask.TheVariants.{Begin, Read, Write}
use Rattle.lock_script.specs.declared.locks.Heard.{Heard}
use Rattle.lock_script.specs.declared.locks.Heard.TheVariants as heard
use Rattle.script_play.specs.Lines.{first_word, after_word, number}
use Rattle.script_play.specs.Texts.{texts_of}

-- THE CALLS, by their words
abbrev pub mode_of : List ℕ → Option Mode
mode_of word = if bytes_eq word (codes "S") then Some Shared else if bytes_eq word (codes "X") then Some Exclusive else None

abbrev pub plain_ask : List ℕ → Option Ask
plain_ask name = if bytes_eq name (codes "down") then Some (Begin call.Down) else None

abbrev pub short_ask : Size → List ℕ → List ℕ → Option Ask
short_ask z name argument =
    if bytes_eq name (codes "release") then option_map (λ l. Begin (call.Release l)) (number_of 0 (z.locks - 1) argument)
    else if bytes_eq name (codes "poke") then option_map (λ q. Begin (call.Poke q)) (number_of 0 (z.procs - 1) argument) else None

abbrev pub mode_ask : List ℕ → ℕ → Mode → Option Ask
mode_ask name l m =
    if bytes_eq name (codes "acquire") then Some (Begin (call.Acquire l m))
    else if bytes_eq name (codes "try") then Some (Begin (call.Try l m))
    else if bytes_eq name (codes "orwait") then Some (Begin (call.AcquireOrWait l m)) else None

abbrev pub read_ask : ℕ → ℕ → Option Ask
read_ask l k = if nat_lt k 4 then Some (Read l k) else None

abbrev pub value_ask : List ℕ → ℕ → ℕ → Option Ask
value_ask name l x =
    if bytes_eq name (codes "varwait") then Some (Begin (call.WaitForVar l x))
    else if bytes_eq name (codes "var") then Some (Begin (call.UpdateVar l x))
    else if bytes_eq name (codes "relvar") then Some (Begin (call.ReleaseClearVar l x))
    else if bytes_eq name (codes "read") then read_ask l x else None

abbrev pub moded_ask : List ℕ → ℕ → List ℕ → Option Mode → Option Ask
moded_ask name l argument None = option_and_then (value_ask name l) (number argument)
moded_ask name l argument (Some m) = mode_ask name l m

abbrev pub pair_ask : List ℕ → ℕ → List ℕ → Option Ask
pair_ask name l argument = moded_ask name l argument (mode_of argument)

abbrev pub write_ask : List ℕ → ℕ → List ℕ → List ℕ → Option Ask
write_ask name l at value = if bytes_eq name (codes "write") then option_and_then (λ k. option_map (λ x. Write l k x) (number value)) (number_of 0 3 at) else None

abbrev pub lock_ask : List ℕ → ℕ → List ℕ → Option (List ℕ) → Option Ask
lock_ask name l argument None = pair_ask name l argument
lock_ask name l argument (Some value) = write_ask name l argument value

abbrev pub long_ask : Size → List ℕ → List ℕ → List ℕ → Option Ask
long_ask z name argument more = option_and_then (λ l. lock_ask name l (first_word more) (after_word more)) (number_of 0 (z.locks - 1) argument)

abbrev pub argued_ask : Size → List ℕ → List ℕ → Option (List ℕ) → Option Ask
argued_ask z name argument None = short_ask z name argument
argued_ask z name argument (Some more) = long_ask z name argument more

abbrev pub named_ask : Size → List ℕ → Option (List ℕ) → Option Ask
named_ask z name None = plain_ask name
named_ask z name (Some arguments) = argued_ask z name (first_word arguments) (after_word arguments)

abbrev pub ask_of : Size → List ℕ → Option Ask
ask_of z text = named_ask z (first_word text) (after_word text)

-- the lock that a call is on
abbrev pub call_lock : Call → ℕ
call_lock (call.Try l m) = l
call_lock (call.Acquire l m) = l
call_lock (call.AcquireOrWait l m) = l
call_lock (call.Release l) = l
call_lock (call.WaitForVar l old) = l
call_lock (call.UpdateVar l x) = l
call_lock (call.ReleaseClearVar l x) = l
call_lock call.Down = 0
call_lock (call.Poke q) = 0

abbrev pub ask_lock : Ask → ℕ
ask_lock (Begin c) = call_lock c
ask_lock (Read l k) = l
ask_lock (Write l k x) = l

-- who gets a lock or waits for its variable doesn't hold it, who reads or releases it does, and who writes holds it exclusively
abbrev pub is_exclusive : Option Mode → Bool
is_exclusive None = false
is_exclusive (Some Shared) = false
is_exclusive (Some Exclusive) = true

abbrev pub poke_limit : ℕ
poke_limit = 1048576

abbrev pub call_may : Call → Option Mode → ℕ → Bool
call_may (call.Try l m) mode pokes = is_none mode
call_may (call.Acquire l m) mode pokes = is_none mode
call_may (call.AcquireOrWait l m) mode pokes = is_none mode
call_may (call.Release l) mode pokes = is_some mode
call_may (call.WaitForVar l old) mode pokes = is_none mode
call_may (call.UpdateVar l x) mode pokes = is_exclusive mode
call_may (call.ReleaseClearVar l x) mode pokes = is_exclusive mode
call_may call.Down mode pokes = true
call_may (call.Poke q) mode pokes = nat_lt pokes poke_limit

abbrev pub may_begin : Ask → Option Mode → ℕ → Bool
may_begin (Begin c) mode pokes = call_may c mode pokes
may_begin (Read l k) mode pokes = is_some mode
may_begin (Write l k x) mode pokes = is_exclusive mode

-- THE STEP that comes next of the backend p, which holds the call's lock in the mode m. The first of a call
abbrev pub mode_held : Option Mode → Mode
mode_held None = Shared
mode_held (Some m) = m

abbrev pub call_step : Call → Mode → LwStep
call_step (call.Try l m) mode = Load l (Some (call.Try l m))
call_step (call.Acquire l m) mode = Load l (Some (call.Acquire l m))
call_step (call.AcquireOrWait l m) mode = Load l (Some (call.AcquireOrWait l m))
call_step (call.Release l) mode = Sub l mode (Some (call.Release l))
call_step (call.WaitForVar l old) mode = Peek l (Some (call.WaitForVar l old))
call_step (call.UpdateVar l x) mode = Lock l (Some (call.UpdateVar l x))
call_step (call.ReleaseClearVar l x) mode = Lock l (Some (call.ReleaseClearVar l x))
call_step call.Down mode = Look (Some call.Down)
call_step (call.Poke q) mode = Post q (Some (call.Poke q))

abbrev pub first_step : Ask → Mode → LwStep
first_step (Begin c) mode = call_step c mode
first_step (Read l k) mode = Guard l k guard.Load
first_step (Write l k x) mode = Guard l k (guard.Store x)

-- who is told next, if there is one
abbrev pub next_of : ℕ → List Waiter → ℕ
next_of p [] = p
next_of p (u ∷ us) = u.proc

abbrev pub marking : ℕ → List Waiter → LwStep → LwStep
marking p [] k = k
marking p (u ∷ us) k = WaitStore u.proc 2

-- and the one that the innermost frame names. Those at the end are never innermost
abbrev pub step_in : ℕ → Mode → Frame → LwStep
step_in p mode (Attempting l m) = Load l None
step_in p mode (Trying l m w) = cond (is_free m w) (Grant l m w) (Refuse l m w)
step_in p mode (TakingList l) = Lock l None
step_in p mode (Spinning l) = Load l None
step_in p mode (Flagging l w found) = Flag l
step_in p mode (Announcing l w found) = WaitStore p 1
step_in p mode (Appending l w found) = Unlock l false
step_in p mode (Checking l w found) = WaitLoad
step_in p mode (Removing l w found here) = Unlock l (is_empty (left_at (Removing l w found here ∷ []) p))
step_in p mode Withdrawing = WaitStore p 0
step_in p mode (Answering l w) = SetReleaseOk l
step_in p mode Looking = Look None
step_in p mode Asleep = Look None
step_in p mode Downing = Down
step_in p mode (Sleeping l w answered) = WaitLoad
step_in p mode (Woken l m) = SetReleaseOk l
step_in p mode GivingBack = Post p None
step_in p mode (Marking l updated found marked us) = marking p us (Load l None)
step_in p mode (Detaching l updated found w) = Wake l w (woken_word (taken_from found) (kept_from found) w)
step_in p mode (Clearing us) = WaitStore (next_of p us) 0
step_in p mode (Posting us) = Post (next_of p us) None
step_in p mode (Peeking l old) = Peek l None
step_in p mode (Reading l old found) = VarLoad l
step_in p mode (Returning l old found n) = Unlock l false
step_in p mode (Allowing l) = SetReleaseOk l
step_in p mode (Publishing l x found releases) = VarStore l x
step_in p mode (Calling l found marked us) = marking p us (Unlock l false)
step_in p mode (Unhanding l found) = Unlock l false
step_in p mode (Releasing l) = Sub l mode None
step_in p mode (Unqueued l m w slept) = WaitLoad
step_in p mode (Queued l m w) = WaitLoad
step_in p mode (Queueing l w) = WaitLoad
step_in p mode (Dequeueing l w) = WaitLoad
step_in p mode (Waking l updated) = WaitLoad
step_in p mode (Comparing l old) = WaitLoad
step_in p mode (VarUnqueued l old) = WaitLoad
step_in p mode (VarQueued l old) = WaitLoad
step_in p mode (VarLeaving old conflicted) = WaitLoad
step_in p mode (Storing l x releases) = WaitLoad

abbrev pub step_at : ℕ → Ask → Mode → Place → LwStep
step_at p a mode [] = first_step a mode
step_at p a mode (f ∷ rest) = step_in p mode f

-- WHAT A CALL HEARD last that its answer may tell: the word that refused an attempt, one without an exclusive holder, or the variable
abbrev pub heard_after : LwStep → ℕ → Heard → Heard
heard_after (Refuse l m w) n h = cond (n == w) (heard.Refused n) h
heard_after (Peek l begins) n h = cond (is_free Shared n) (heard.Free n) h
heard_after (VarLoad l) n h = heard.Changed n
heard_after k n h = h

-- THE TEXT. A state word has eight hexadecimal digits
abbrev pub digit : ℕ → ℕ
digit n = if nat_lt (n % 16) 10 then 48 + n % 16 else 87 + n % 16

abbrev pub byte_text : ℕ → List ℕ
byte_text n = digit (n / 16) ∷ digit n ∷ []

abbrev pub pair_text : ℕ → List ℕ
pair_text n = byte_text (n / 256) ++ byte_text n

abbrev pub state_text : ℕ → List ℕ
state_text n = pair_text (n / 65536) ++ pair_text n

-- an exchange that found another word than it expected is a retry
abbrev pub exchange_name : Bool → List ℕ → List ℕ
exchange_name true name = name
exchange_name false name = codes "retry"

abbrev pub kind_name : LwStep → ℕ → List ℕ
kind_name (Load l begins) n = codes "load"
kind_name (Grant l m w) n = exchange_name (n == w) (codes "grant")
kind_name (Refuse l m w) n = exchange_name (n == w) (codes "refuse")
kind_name (Sub l m begins) n = codes "sub"
kind_name (Peek l begins) n = codes "peek"
kind_name (Guard l k guard.Load) n = codes "gload"
kind_name (Guard l k (guard.Store x)) n = codes "gstore"
kind_name (Lock l begins) n = codes "lock"
kind_name (VarLoad l) n = codes "gload"
kind_name (VarStore l x) n = codes "gstore"
kind_name (Unlock l clears) n = codes "unlock"
kind_name (Flag l) n = codes "flag"
kind_name (WaitStore q x) n = codes "wstore"
kind_name WaitLoad n = codes "wload"
kind_name (Wake l w to) n = exchange_name (n == w) (codes "wake")
kind_name (Post q begins) n = codes "post"
kind_name (Look begins) n = codes "look"
kind_name Down n = codes "down"
kind_name (SetReleaseOk l) n = codes "ok"

-- a word and its value: that number j of the locks' words, six of each, and of the backends' words, two of each
abbrev pub lock_field : ℕ → List ℕ
lock_field i = if i == 0 then [] else if i == 1 then codes ".var" else if i == 2 then codes ".g0" else if i == 3 then codes ".g1" else if i == 4 then codes ".g2" else codes ".g3"

abbrev pub lock_text : ℕ → ℕ → List ℕ
lock_text j x = codes "L" ++ decimal (j / 6) ++ lock_field (j % 6) ++ codes " " ++ (if j % 6 == 0 then state_text x else decimal x)

abbrev pub proc_text : ℕ → ℕ → List ℕ
proc_text j x = codes "P" ++ decimal (j / 2) ++ (if j % 2 == 0 then codes ".waiting " else codes ".sem ") ++ decimal x

abbrev pub word_text : Size → ℕ → ℕ → List ℕ
word_text z i x = if nat_lt i (1 + 6 * z.locks) then lock_text (i - 1) x else proc_text (i - (1 + 6 * z.locks)) x

-- the backend p made a step that found n, and left x in the word i
abbrev pub step_line : Size → ℕ → LwStep → ℕ → ℕ → ℕ → List ℕ
step_line z p k n i x = decimal p ++ codes " " ++ kind_name k n ++ codes " " ++ word_text z i x ++ codes "\n"

-- what a call answers that ends: by what its last step found, by the mode in which its lock is held then, by whether the sleep of an acquire ended, and by what it heard last
abbrev pub heard_text : Heard → List ℕ
heard_text heard.Nothing = []
heard_text (heard.Refused n) = state_text n
heard_text (heard.Free n) = codes "free " ++ state_text n
heard_text (heard.Changed x) = codes "changed " ++ decimal x

abbrev pub got_text : Option Mode → List ℕ → Heard → List ℕ
got_text (Some m) name h = codes "got"
got_text None name h = name ++ heard_text h

abbrev pub call_answer : Call → Option Mode → Bool → Heard → List ℕ
call_answer (call.Try l m) mode waited h = got_text mode (codes "held ") h
call_answer (call.Acquire l m) mode waited h = if waited then codes "got waited" else codes "got"
call_answer (call.AcquireOrWait l m) mode waited h = got_text mode (codes "freed ") h
call_answer (call.Release l) mode waited h = codes "done"
call_answer (call.WaitForVar l old) mode waited h = heard_text h
call_answer (call.UpdateVar l x) mode waited h = codes "done"
call_answer (call.ReleaseClearVar l x) mode waited h = codes "done"
call_answer call.Down mode waited h = codes "done"
call_answer (call.Poke q) mode waited h = codes "done"

abbrev pub answer : Ask → ℕ → Option Mode → Bool → Heard → List ℕ
answer (Begin c) n mode waited h = call_answer c mode waited h
answer (Read l k) n mode waited h = codes "value " ++ decimal n
answer (Write l k x) n mode waited h = codes "done"

abbrev pub answer_line : ℕ → List ℕ → List ℕ
answer_line p text = decimal p ++ codes " = " ++ text ++ codes "\n"

-- a call has ended where its backend is in none any more
abbrev pub still : Place → Option Ask → Option Ask
still [] a = None
still (f ∷ p) a = a

abbrev pub ended : Option Ask → List ℕ → List ℕ
ended None line = line
ended (Some a) line = []

-- at the end: each word that differs from its opening, and each list at home that isn't empty
abbrev pub opened : Size → ℕ → ℕ
opened z i = if (i % 6 == 1) && nat_lt i (1 + 6 * z.locks) then release_ok else 0

abbrev pub changed_word : Size → ℕ → ℕ → List ℕ
changed_word z i x = if x == opened z i then [] else word_text z i x ++ codes "\n"

abbrev pub want_name : Want → List ℕ
want_name want.Shared = codes "S"
want_name want.Exclusive = codes "X"
want_name want.UntilFree = codes "U"

abbrev pub waiter_text : ℕ → Waiter → List ℕ
waiter_text i u = codes " " ++ decimal u.proc ++ want_name u.want

abbrev pub list_text : ℕ → List Waiter → List ℕ
list_text l us = if is_empty us then [] else codes "list L" ++ decimal l ++ texts_of waiter_text us 0 ++ codes "\n"
