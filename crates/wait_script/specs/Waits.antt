-- A script on the wait machine: the calls, the step that a backend's place and call name, and what is printed of it.
use Rattle.std.specs.Prelude.{ℕ, ◌+◌, ◌-◌, ◌/◌, ◌%◌, ◌==◌, ◌++◌, ◌&&◌, nat_lt, Bool, true, false, cond, is_none, is_some, List, [], ◌∷◌, codes, decimal, Option, None, Some, option_and_then, if◌then◌else◌}
use Rattle.std.specs.Str.{bytes_eq}
use Rattle.decimal_word.specs.Numbers.{number_of}
use Rattle.wait_core.specs.declared.step.Call.{Call}
use Rattle.wait_core.specs.declared.step.Call.TheVariants as call
use Rattle.wait_core.specs.declared.step.Spot.{Spot}
use Rattle.wait_core.specs.declared.step.Until.TheVariants.{Latch, LatchOrShutdown}
use Rattle.wait_core.specs.declared.step.WaitStep.{WaitStep}
use Rattle.wait_core.specs.declared.step.WaitStep.TheVariants.{Sload, Sset, Reset, Mstore, Mload, Byte, Look, Drain, Shload, Shstore, Take, Spin, Free}
use Rattle.wait_core.specs.declared.view.Frame.{Frame}
use Rattle.wait_core.specs.declared.view.Frame.TheVariants.{Setting, Telling, Waking, Announcing, Rechecking, CheckingShutdown, Looking, Asleep, Retracting, Draining, Repeating, LeavingSet, LeavingShutdown, Stopping, Taking, Spinning, Holding, Resetting, SleepWaiting, Preparing, Broadcasting, Signalling, Rousing, Settling, Dozing, Passing, Returning}
use Rattle.wait_core.specs.declared.view.Job.{Job}
use Rattle.wait_core.specs.declared.view.Job.TheVariants as job
use Rattle.wait_core.specs.declared.view.Kept.{Kept}
use Rattle.wait_core.specs.declared.view.Record.{Record}
use Rattle.wait_core.specs.declared.view.Size.{Size}
use Rattle.wait_core.specs.Words.{most_conditions, shut_at, spin_at}
use Rattle.wait_core.specs.Lists.{is_empty, is_listed}
use Rattle.wait_core.specs.Jobs.{has_passed, is_last, is_only, is_worn, spot_of, target_after}
use Rattle.wait_core.specs.Parties.{phase_of}
use Rattle.wait_core.specs.Machine.{Place, takes_first}
use Rattle.wait_script.specs.declared.waits.Told.{Told}
use Rattle.wait_script.specs.declared.waits.Told.TheVariants as told
use Rattle.script_play.specs.Lines.{first_word, after_word}
use Rattle.script_play.specs.Texts.{texts_of}

-- THE CALLS, by their words
abbrev pub plain_ask : List ℕ → Option Call
plain_ask name =
    if bytes_eq name (codes "reset") then Some call.Reset
    else if bytes_eq name (codes "isset") then Some call.IsSet
    else if bytes_eq name (codes "waitlatch") then Some (call.Wait LatchOrShutdown)
    else if bytes_eq name (codes "waitonly") then Some (call.Wait Latch)
    else if bytes_eq name (codes "shut") then Some call.Shut
    else if bytes_eq name (codes "cancel") then Some call.Cancel else None

-- those on a backend, on a condition, and on a barrier
abbrev pub backend_ask : List ℕ → ℕ → Option Call
backend_ask name q = if bytes_eq name (codes "set") then Some (call.Set q) else None

abbrev pub condition_ask : List ℕ → ℕ → Option Call
condition_ask name c =
    if bytes_eq name (codes "prepare") then Some (call.Prepare c)
    else if bytes_eq name (codes "sleep") then Some (call.Sleep c)
    else if bytes_eq name (codes "signal") then Some (call.Signal c)
    else if bytes_eq name (codes "broadcast") then Some (call.Broadcast c) else None

abbrev pub barrier_ask : List ℕ → ℕ → Option Call
barrier_ask name b =
    if bytes_eq name (codes "attach") then Some (call.Attach b)
    else if bytes_eq name (codes "arrive") then Some (call.Arrive b)
    else if bytes_eq name (codes "detach") then Some (call.Detach b)
    else if bytes_eq name (codes "arrdetach") then Some (call.ArriveDetach b)
    else if bytes_eq name (codes "exceptlast") then Some (call.ExceptLast b) else None

abbrev pub or_else : Option Call → Option Call → Option Call
or_else None b = b
or_else (Some a) b = Some a

abbrev pub numbered_ask : Size → List ℕ → List ℕ → Option Call
numbered_ask z name argument =
    or_else (option_and_then (backend_ask name) (number_of 0 (z.procs - 1) argument))
    (or_else (option_and_then (condition_ask name) (number_of 0 (z.cvs - 1) argument)) (option_and_then (barrier_ask name) (number_of 0 (z.bars - 1) argument)))

abbrev pub named_ask : Size → List ℕ → Option (List ℕ) → Option Call
named_ask z name None = plain_ask name
named_ask z name (Some argument) = numbered_ask z name argument

abbrev pub ask_of : Size → List ℕ → Option Call
ask_of z text = named_ask z (first_word text) (after_word text)

-- who attaches to a barrier isn't attached to it; who arrives or leaves is
abbrev pub may_begin : Call → List (ℕ × ℕ) → Bool
may_begin (call.Attach b) attached = is_none (phase_of attached b)
may_begin (call.Arrive b) attached = is_some (phase_of attached b)
may_begin (call.Detach b) attached = is_some (phase_of attached b)
may_begin (call.ArriveDetach b) attached = is_some (phase_of attached b)
may_begin (call.ExceptLast b) attached = is_some (phase_of attached b)
may_begin c attached = true

-- a cancel without a target has no step
abbrev pub has_step : Call → Option ℕ → Bool
has_step call.Cancel target = is_some target
has_step c target = true

-- THE STEP that comes next of the backend p, which has this target. The first of a call
abbrev pub taking_first : ℕ → Call → Option Spot → WaitStep
taking_first p c None = Sload p (Some c)
taking_first p c (Some x) = Take x (Some c)

abbrev pub first_step : ℕ → Option ℕ → Call → WaitStep
first_step p target (call.Set q) = Sload q (Some (call.Set q))
first_step p target call.Reset = Reset (Some call.Reset)
first_step p target call.Shut = Shstore (Some call.Shut)
first_step p target call.IsShut = Shload (Some call.IsShut)
first_step p target c = taking_first p c (takes_first target c)

-- and the one that the innermost frame names: where it has another call inside, the first of that. The last two are never innermost
abbrev pub step_in : ℕ → Option ℕ → Frame → WaitStep
step_in p target (Setting q) = Sset q
step_in p target (Telling q) = Mload q
step_in p target (Waking q) = Byte q
step_in p target (Announcing u) = Mstore true
step_in p target (Rechecking u) = Sload p None
step_in p target CheckingShutdown = Shload None
step_in p target (Looking u) = Look
step_in p target (Asleep u) = Look
step_in p target (Retracting u) = Mstore false
step_in p target (Draining u) = Drain
step_in p target (Repeating u) = Sload p None
step_in p target LeavingSet = Mstore false
step_in p target LeavingShutdown = Mstore false
step_in p target (Stopping q) = Byte q
step_in p target (Taking j) = Take (spot_of j) None
step_in p target (Spinning j) = Spin (spot_of j)
step_in p target (Holding j list found) = Free (spot_of j) (target_after j target)
step_in p target (Resetting c) = Reset None
step_in p target (SleepWaiting c) = first_step p target (call.Wait Latch)
step_in p target (Signalling c q) = first_step p target (call.Set q)
step_in p target (Rousing c q more) = first_step p target (call.Set q)
step_in p target (Settling b ph) = first_step p target (call.Prepare b)
step_in p target (Dozing b ph) = first_step p target (call.Sleep b)
step_in p target (Passing b ph) = first_step p target (call.Broadcast b)
step_in p target (Returning b ph) = first_step p target call.Cancel
step_in p target (Preparing c) = Look
step_in p target (Broadcasting c) = Look

abbrev pub step_at : ℕ → Call → Option ℕ → Place → WaitStep
step_at p a target [] = first_step p target a
step_at p a target (f ∷ rest) = step_in p target f

-- WHAT A CALL WAS TOLD that its answer says. A free tells what its job found; a cancel tells only where nothing was told before, so not in an arrival
abbrev pub unless_told : Told → Told → Told
unless_told told.Nothing x = x
unless_told t x = t

abbrev pub left_by : Record → Told
left_by r = cond (is_only r) told.Last told.More

abbrev pub sent_to : List ℕ → Told
sent_to [] = told.Nobody
sent_to (q ∷ rest) = told.Sent q

abbrev pub told_by : Job → ℕ → List ℕ → Record → Told → Told
told_by (job.Cancel c) p list r t = unless_told t (told.WasListed (is_listed p list))
told_by (job.Prepare c) p list r t = told.Prepared
told_by (job.Resleep c) p list r t = cond (is_listed p list) t told.Signalled
told_by (job.Signal c) p list r t = sent_to list
told_by (job.Attach b) p list r t = told.Phase r.phase
told_by (job.Arrive b) p list r t = cond (is_worn r) (told.Worn r.phase) (cond (is_last r) told.Elected t)
told_by (job.Notice b ph) p list r t = cond (has_passed ph r) (cond (r.elected == ph + 1) told.Released told.Elected) t
told_by (job.Detach b) p list r t = left_by r
told_by (job.ArriveDetach b) p list r t = cond (is_worn r) (told.Worn r.phase) (left_by r)
told_by (job.ExceptLast b) p list r t = cond (is_worn r) (told.Worn r.phase) (left_by r)
told_by j p list r t = t

-- by the step that the backend p makes at this place
abbrev pub told_after : ℕ → Place → Told → Told
told_after p (Holding j list found ∷ rest) t = told_by j p list found t
told_after p (LeavingShutdown ∷ rest) t = told.Shutdown
told_after p place t = t

-- THE TEXT
abbrev pub kind_name : WaitStep → List ℕ
kind_name (Sload q begins) = codes "sload"
kind_name (Sset q) = codes "sset"
kind_name (Reset begins) = codes "reset"
kind_name (Mstore may) = codes "mstore"
kind_name (Mload q) = codes "mload"
kind_name (Byte q) = codes "byte"
kind_name Look = codes "look"
kind_name Drain = codes "drain"
kind_name (Shload begins) = codes "shload"
kind_name (Shstore begins) = codes "shstore"
kind_name (Take x begins) = codes "take"
kind_name (Spin x) = codes "spin"
kind_name (Free x target) = codes "free"

-- the name of the word i: three of each backend, the shutdown word, and the spin words of conditions and of barriers
abbrev pub field_name : ℕ → List ℕ
field_name i = if i == 1 then codes ".set" else if i == 2 then codes ".may" else codes ".byte"

abbrev pub spin_name : ℕ → List ℕ
spin_name x = if nat_lt x most_conditions then codes "C" ++ decimal x else codes "B" ++ decimal (x - most_conditions)

abbrev pub word_name : Size → ℕ → List ℕ
word_name z i = if nat_lt i (shut_at z) then codes "P" ++ decimal ((i - 1) / 3) ++ field_name (i % 3) else if i == shut_at z then codes "shut" else spin_name (i - spin_at z 0)

-- the word i, which is x now
abbrev pub word_text : Size → ℕ → ℕ → List ℕ
word_text z i x = word_name z i ++ codes " " ++ decimal x ++ codes "\n"

-- the backend p made a step, and left x in the word i
abbrev pub step_line : Size → ℕ → WaitStep → ℕ → ℕ → List ℕ
step_line z p k i x = decimal p ++ codes " " ++ kind_name k ++ codes " " ++ word_text z i x

-- what a call answers that ends: by what its last step found, and by what it was told
abbrev pub told_text : Told → List ℕ
told_text told.Nothing = codes "done"
told_text told.Shutdown = codes "shutdown"
told_text (told.WasListed true) = codes "false"
told_text (told.WasListed false) = codes "true"
told_text told.Prepared = codes "prepared"
told_text told.Signalled = codes "signalled"
told_text (told.Sent q) = codes "sent " ++ decimal q
told_text told.Nobody = codes "none"
told_text (told.Phase n) = codes "phase " ++ decimal n
told_text (told.Worn n) = codes "worn " ++ decimal n
told_text told.Elected = codes "elected"
told_text told.Released = codes "released"
told_text told.Last = codes "last"
told_text told.More = codes "more"

abbrev pub wait_text : Told → List ℕ
wait_text told.Shutdown = codes "shutdown"
wait_text t = codes "latch"

abbrev pub answer : Call → ℕ → Told → List ℕ
answer call.IsSet n t = codes "value " ++ decimal n
answer call.IsShut n t = codes "value " ++ decimal n
answer (call.Wait u) n t = wait_text t
answer (call.Prepare c) n t = codes "done"
answer (call.Broadcast c) n t = codes "done"
answer c n t = told_text t

abbrev pub answer_line : ℕ → List ℕ → List ℕ
answer_line p text = decimal p ++ codes " = " ++ text ++ codes "\n"

-- a call has ended where its backend is in none any more
abbrev pub still : Place → Option Call → Option Call
still [] a = None
still (f ∷ p) a = a

abbrev pub ended : Option Call → List ℕ → List ℕ
ended None line = line
ended (Some a) line = []

-- at the end: each word that differs from its opening, each list at home that isn't empty, and each record that differs from its opening
abbrev pub changed_word : Size → ℕ → ℕ → List ℕ
changed_word z i x = if x == 0 then [] else word_text z i x

abbrev pub waiter_text : ℕ → ℕ → List ℕ
waiter_text i q = codes " " ++ decimal q

abbrev pub list_text : ℕ → Kept → List ℕ
list_text c k = if is_empty k.list.items then [] else codes "list C" ++ decimal c ++ texts_of waiter_text k.list.items 0 ++ codes "\n"

abbrev pub is_opening : ℕ → Record → Bool
is_opening phase r = (r.phase == phase) && (r.participants == 0) && (r.arrived == 0) && (r.elected == phase)

abbrev pub record_line : ℕ → Record → List ℕ
record_line b r =
    codes "B" ++ decimal b ++ codes " phase " ++ decimal r.phase ++ codes " participants " ++ decimal r.participants ++ codes " arrived " ++ decimal r.arrived ++ codes " elected " ++ decimal r.elected ++ codes "\n"

abbrev pub record_text : ℕ → ℕ → Kept → List ℕ
record_text phase b k = if is_opening phase k.record then [] else record_line b k.record
