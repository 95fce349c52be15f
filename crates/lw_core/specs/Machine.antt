-- The lock machine: which word each step is on, what the word becomes, how the view of the seat goes on, what becomes of the list in hand, and where the step is allowed.
use Rattle.std.specs.Prelude.{◌≡◌, ℕ, ◌+◌, ◌-◌, ◌<◌, ◌==◌, Bool, true, false, cond, List, [], ◌∷◌, ◌++◌, slice_index, slice_index_or, slice_set, Option, None, Some, IsSome, replicate, length, ⊤}
use Rattle.atomic_table.specs.Table.{State, Act, keeps, takes, gives, stepped}
use Rattle.proc_table.specs.declared.Mode.{Mode}
use Rattle.proc_table.specs.declared.Mode.TheVariants.{Shared, Exclusive}
use Rattle.lw_core.specs.declared.step.Call.{Call}
use Rattle.lw_core.specs.declared.step.Call.TheVariants as call
use Rattle.lw_core.specs.declared.step.GuardOp.{GuardOp}
use Rattle.lw_core.specs.declared.step.GuardOp.TheVariants as guard
use Rattle.lw_core.specs.declared.step.LwStep.{LwStep}
use Rattle.lw_core.specs.declared.step.LwStep.TheVariants.{Load, Grant, Refuse, Sub, Peek, Guard, Lock, VarLoad, VarStore, Unlock, Flag, WaitStore, WaitLoad, Wake, Post, Look, Down, SetReleaseOk}
use Rattle.lw_core.specs.declared.view.Frame.{Frame}
use Rattle.lw_core.specs.declared.view.Frame.TheVariants.{Attempting, Trying, Unqueued, Queued, TakingList, Spinning, Queueing, Flagging, Announcing, Appending, Dequeueing, Checking, Removing, Withdrawing, Answering, Looking, Asleep, Downing, Sleeping, Woken, GivingBack, Waking, Marking, Detaching, Clearing, Posting, Peeking, Comparing, Reading, Returning, VarUnqueued, Allowing, VarQueued, VarLeaving, Storing, Publishing, Calling, Unhanding, Releasing}
use Rattle.lw_core.specs.declared.view.Made.{Made}
use Rattle.lw_core.specs.declared.view.Hold.{Hold}
use Rattle.lw_core.specs.declared.view.Size.{Size}
use Rattle.lw_core.specs.declared.view.View.{View}
use Rattle.lw_core.specs.declared.view.Want.{Want}
use Rattle.lw_core.specs.declared.view.Want.TheVariants as want
use Rattle.lw_core.specs.declared.view.Waiter.{Waiter}
use Rattle.lw_core.specs.Words.{Waiters, state_at, var_at, guard_at, waiting_at, sem_at, grant_of, is_free, lock_part, locked, release_ok, has_waiters, has_flag, set_flag, clear_flag}
use Rattle.lw_core.specs.WaitLists.{waiter, joined_by, without, taken_from, kept_from, until_free_from, lockers_from, has_locker, is_empty, home_list}

-- the words, the lists at home, and one view per seat
abbrev pub LwState : Type 0
LwState = State Waiters View

-- what is still to do, the innermost program first. In no call there is nothing
abbrev pub Place : Type 0
Place = List Frame

abbrev pub top : Place → Option Frame
top [] = None
top (f ∷ p) = Some f

abbrev pub outer : Place → Place
outer [] = []
outer (f ∷ p) = p

-- what a seat has of a lock that it doesn't hold, and of one that it was just granted
abbrev pub not_held : Hold
not_held = record { mode = None; known = None ∷ None ∷ None ∷ None ∷ []; wrote = false }

abbrev pub held : Mode → Hold
held m = record { mode = Some m; known = None ∷ None ∷ None ∷ None ∷ []; wrote = false }

abbrev pub hold_in : ℕ → View → Hold
hold_in l v = slice_index_or v.holds l not_held

abbrev pub mode_in : ℕ → View → Option Mode
mode_in l v = (hold_in l v).mode

abbrev pub HoldsNothing : View → Type 0
HoldsNothing v = (l : ℕ) → mode_in l v ≡ None

-- what the seat knows of the guarded word k
abbrev pub known_at : Hold → ℕ → Option ℕ
known_at h k = slice_index_or h.known k None

-- the word k is known to be x
abbrev pub learnt : Hold → ℕ → ℕ → Hold
learnt h k x = record h { known = slice_set h.known k (Some x) }

abbrev pub written : Hold → ℕ → ℕ → Hold
written h k x = record h { known = slice_set h.known k (Some x); wrote = true }

-- these four words agree with those that are known
abbrev pub Agrees : Hold → List ℕ → Type 0
Agrees h words = (length words ≡ 4) × ((k n : ℕ) → k < 4 → known_at h k ≡ Some n → slice_index words k ≡ n)

-- where the seat wrote a word since the grant, each four words that agree with what it knows are lawful
abbrev pub LeavesLawful : (List ℕ → Type 0) → Hold → Type 0
LeavesLawful lawful h = h.wrote ≡ true → (words : List ℕ) → Agrees h words → lawful words

-- the view of a seat with this number, or with none, which did nothing yet
abbrev pub fresh : Option ℕ → View
fresh own = record { own = own; pending = None; taken = []; drawn = 0; place = []; steps = []; inherited = []; holds = replicate 200 not_held; grants = 0; waits = 0; surplus = 0; pokes = 0; poked = []; downed = [] }

abbrev pub number_of : Option ℕ → ℕ
number_of None = 0
number_of (Some n) = n

-- the lock that the step is on
abbrev pub lock_of : LwStep → Option ℕ
lock_of (Load l begins) = Some l
lock_of (Grant l m w) = Some l
lock_of (Refuse l m w) = Some l
lock_of (Sub l m begins) = Some l
lock_of (Peek l begins) = Some l
lock_of (Guard l k o) = Some l
lock_of (Lock l begins) = Some l
lock_of (VarLoad l) = Some l
lock_of (VarStore l x) = Some l
lock_of (Unlock l clears) = Some l
lock_of (Flag l) = Some l
lock_of (WaitStore q x) = None
lock_of WaitLoad = None
lock_of (Wake l w to) = Some l
lock_of (Post q begins) = None
lock_of (Look begins) = None
lock_of Down = None
lock_of (SetReleaseOk l) = Some l

-- the lock and the backend that the step names are the table's
abbrev pub IsBelow : Option ℕ → ℕ → Type 0
IsBelow None n = ⊤
IsBelow (Some x) n = x < n

abbrev pub backend_of : LwStep → Option ℕ
backend_of (WaitStore q x) = Some q
backend_of (Post q begins) = Some q
backend_of k = None

abbrev pub IsInRange : Size → LwStep → Type 0
IsInRange z k = IsBelow (lock_of k) z.locks × IsBelow (backend_of k) z.procs

-- the word that the step of the backend `own` is on
abbrev pub word_of : Size → ℕ → LwStep → ℕ
word_of z own (Load l begins) = state_at l
word_of z own (Grant l m w) = state_at l
word_of z own (Refuse l m w) = state_at l
word_of z own (Sub l m begins) = state_at l
word_of z own (Peek l begins) = state_at l
word_of z own (Guard l k o) = guard_at l k
word_of z own (Lock l begins) = state_at l
word_of z own (VarLoad l) = var_at l
word_of z own (VarStore l x) = var_at l
word_of z own (Unlock l clears) = state_at l
word_of z own (Flag l) = state_at l
word_of z own (WaitStore q x) = waiting_at z q
word_of z own WaitLoad = waiting_at z own
word_of z own (Wake l w to) = state_at l
word_of z own (Post q begins) = sem_at z q
word_of z own (Look begins) = sem_at z own
word_of z own Down = sem_at z own
word_of z own (SetReleaseOk l) = state_at l

-- what an operation makes of a guarded word, whether it writes, what the seat's hold of the lock then is, and in which mode the seat has to hold it
abbrev pub guard_becomes : GuardOp → ℕ → ℕ
guard_becomes guard.Load n = n
guard_becomes (guard.Store x) n = x

abbrev pub guard_writes : GuardOp → Bool
guard_writes guard.Load = false
guard_writes (guard.Store x) = true

abbrev pub guard_hold : GuardOp → Hold → ℕ → ℕ → Hold
guard_hold o h k n = record h { known = slice_set h.known k (Some (guard_becomes o n)); wrote = cond (guard_writes o) true h.wrote }

abbrev pub MayGuard : GuardOp → Option Mode → Type 0
MayGuard o m = cond (guard_writes o) (m ≡ Some Exclusive) (IsSome m)

-- what the word n becomes
abbrev pub becomes : LwStep → ℕ → ℕ
becomes (Load l begins) n = n
becomes (Grant l m w) n = cond (n == w) (w + grant_of m) n
becomes (Refuse l m w) n = n
becomes (Sub l m begins) n = n - grant_of m
becomes (Peek l begins) n = n
becomes (Guard l k o) n = guard_becomes o n
becomes (Lock l begins) n = set_flag locked n
becomes (VarLoad l) n = n
becomes (VarStore l x) n = x
becomes (Unlock l clears) n = cond clears (clear_flag has_waiters (clear_flag locked n)) (clear_flag locked n)
becomes (Flag l) n = set_flag has_waiters n
becomes (WaitStore q x) n = x
becomes WaitLoad n = n
becomes (Wake l w to) n = cond (n == w) to n
becomes (Post q begins) n = n + 1
becomes (Look begins) n = n
becomes Down n = n - 1
becomes (SetReleaseOk l) n = set_flag release_ok n

-- the state word after a wake that takes these waiters and keeps those
abbrev pub woken_word : List Waiter → List Waiter → ℕ → ℕ
woken_word took kept w =
    let free = clear_flag locked w in let answered = cond (has_locker took) (clear_flag release_ok free) (set_flag release_ok free) in cond (is_empty kept) (clear_flag has_waiters answered) answered

-- an exchange took place, or the word was changed without one
abbrev pub exchanges : LwStep → ℕ → Bool
exchanges (Load l begins) n = false
exchanges (Grant l m w) n = n == w
exchanges (Refuse l m w) n = n == w
exchanges (Sub l m begins) n = true
exchanges (Peek l begins) n = false
exchanges (Guard l k o) n = guard_writes o
exchanges (Lock l begins) n = true
exchanges (VarLoad l) n = false
exchanges (VarStore l x) n = true
exchanges (Unlock l clears) n = true
exchanges (Flag l) n = true
exchanges (WaitStore q x) n = true
exchanges WaitLoad n = false
exchanges (Wake l w to) n = n == w
exchanges (Post q begins) n = true
exchanges (Look begins) n = false
exchanges Down n = true
exchanges (SetReleaseOk l) n = true

-- a step that found the word n and took this list in hand or sent it home, and one that moved no list
abbrev pub made_with : LwStep → ℕ → List Waiter → Made
made_with k n list = record { step = k; found = n; list = list }

abbrev pub made : LwStep → ℕ → Made
made k n = made_with k n []

abbrev pub want_of : Mode → Want
want_of Shared = want.Shared
want_of Exclusive = want.Exclusive

-- PLACES. What is given back is given back where there is a surplus; else the call goes on behind it
abbrev pub resumed : ℕ → Place → Place
resumed surplus (GivingBack ∷ p) = cond (surplus == 0) p (GivingBack ∷ p)
resumed surplus (VarLeaving old conflicted ∷ p) = cond (surplus == 0) p (GivingBack ∷ p)
resumed surplus p = p

-- after an attempt that was granted: who queued for it leaves the list. What was too much is given back
abbrev pub on_grant : ℕ → Place → Place
on_grant surplus (Unqueued l m w slept ∷ p) = resumed surplus (GivingBack ∷ p)
on_grant surplus (Queued l m w ∷ p) = TakingList l ∷ Dequeueing l w ∷ GivingBack ∷ p
on_grant surplus p = p

-- after a sleep: who wants the lock tries again, and the call of who waited until it is free ends
abbrev pub on_waking : Want → ℕ → Mode → Place → Place
on_waking want.UntilFree l m p = GivingBack ∷ p
on_waking w l m p = Woken l m ∷ p

-- after an attempt that was refused: the backend queues and tries again; who queued sleeps
abbrev pub on_refusal : Place → Place
on_refusal (Unqueued l m w slept ∷ p) = TakingList l ∷ Queueing l w ∷ Attempting l m ∷ Queued l m w ∷ p
on_refusal (Queued l m w ∷ p) = Looking ∷ Sleeping l w false ∷ on_waking w l m p
on_refusal p = p

-- a load begins an attempt; or it is the look of one who spins for the list, or of one who wakes and is to exchange the word
abbrev pub loaded : Option Call → ℕ → Place → Place
loaded (Some (call.Try l m)) n p = Trying l m n ∷ p
loaded (Some (call.Acquire l m)) n p = Trying l m n ∷ Unqueued l m (want_of m) false ∷ p
loaded (Some (call.AcquireOrWait l m)) n p = Trying l m n ∷ Unqueued l m want.UntilFree false ∷ p
loaded (Some c) n p = p
loaded None n (Attempting l m ∷ p) = Trying l m n ∷ p
loaded None n (Spinning l ∷ p) = cond (has_flag locked n == 0) (TakingList l ∷ p) (Spinning l ∷ p)
loaded None n (Marking l updated found marked [] ∷ p) = Detaching l updated found n ∷ p
loaded None n p = p

-- a wait for the variable has an outcome, after a look that found an exclusive holder or none: who queued leaves the list. What was too much is given back
abbrev pub on_outcome : Bool → ℕ → Place → Place
on_outcome conflicted surplus (VarUnqueued l old ∷ p) = resumed surplus (GivingBack ∷ p)
on_outcome conflicted surplus (VarQueued l old ∷ p) = TakingList l ∷ Dequeueing l want.UntilFree ∷ VarLeaving old conflicted ∷ p
on_outcome conflicted surplus p = p

-- it has none yet: the backend queues, sets RELEASE_OK and looks again; who queued sleeps, and begins anew
abbrev pub on_conflict : Place → Place
on_conflict (VarUnqueued l old ∷ p) = TakingList l ∷ Queueing l want.UntilFree ∷ Allowing l ∷ Peeking l old ∷ VarQueued l old ∷ p
on_conflict (VarQueued l old ∷ p) = Looking ∷ Sleeping l want.UntilFree false ∷ Peeking l old ∷ VarUnqueued l old ∷ p
on_conflict p = p

-- a look at the lock that found n: where it has an exclusive holder, the variable is to be read with the list in hand
abbrev pub peeked : Option Call → ℕ → ℕ → Place → Place
peeked (Some (call.WaitForVar l old)) surplus n p = cond (is_free Shared n) p (TakingList l ∷ Comparing l old ∷ VarUnqueued l old ∷ p)
peeked None surplus n (Peeking l old ∷ p) = cond (is_free Shared n) (on_outcome false surplus p) (TakingList l ∷ Comparing l old ∷ p)
peeked b surplus n p = p

-- a release that left this word wakes where somebody waits, a wake may be, and nobody holds the lock
abbrev pub calls_for_wake : ℕ → Bool
calls_for_wake word = cond (has_flag has_waiters word == 1) (cond (has_flag release_ok word == 1) (lock_part word == 0) false) false

-- the place behind a release that begins, and behind one that is part of another call
abbrev pub releasing : Option Call → Place → Place
releasing (Some c) p = p
releasing None p = outer p

-- a release that is part of another call comes after that call's store of the variable
abbrev pub after_store : Option Call → Bool
after_store (Some c) = false
after_store None = true

-- a release that left this word
abbrev pub let_go : Option Call → ℕ → ℕ → Place → Place
let_go begins l word p = cond (calls_for_wake word) (TakingList l ∷ Waking l (after_store begins) ∷ p) p

-- a call that begins by taking the list
abbrev pub taking : Option Call → Place → Place
taking (Some (call.UpdateVar l x)) p = TakingList l ∷ Storing l x false ∷ p
taking (Some (call.ReleaseClearVar l x)) p = TakingList l ∷ Storing l x true ∷ p
taking b p = p

-- the list is in hand, as it was found
abbrev pub in_hand : List Waiter → Place → Place
in_hand found (Queueing l w ∷ p) = Flagging l w found ∷ p
in_hand found (Dequeueing l w ∷ p) = Checking l w found ∷ p
in_hand found (Waking l updated ∷ p) = Marking l updated found [] (taken_from found) ∷ p
in_hand found (Comparing l old ∷ p) = Reading l old found ∷ p
in_hand found (Storing l x releases ∷ p) = Publishing l x found releases ∷ p
in_hand found p = p

abbrev pub flagged : Place → Place
flagged (Flagging l w found ∷ p) = Announcing l w found ∷ p
flagged p = p

-- the variable was read, or stored
abbrev pub compared : ℕ → Place → Place
compared n (Reading l old found ∷ p) = Returning l old found n ∷ p
compared n p = p

abbrev pub published : Place → Place
published (Publishing l x found false ∷ p) = Calling l found [] (until_free_from found) ∷ p
published (Publishing l x found true ∷ p) = Unhanding l found ∷ p
published p = p

-- a waiting field was stored: the own one, that of a waiter to be taken, or that of one who was
abbrev pub stored : ℕ → Place → Place
stored surplus (Announcing l w found ∷ p) = Appending l w found ∷ p
stored surplus (Withdrawing ∷ p) = resumed surplus p
stored surplus (Marking l updated found marked (u ∷ us) ∷ p) = Marking l updated found (marked ++ u ∷ []) us ∷ p
stored surplus (Calling l found marked (u ∷ us) ∷ p) = Calling l found (marked ++ u ∷ []) us ∷ p
stored surplus (Clearing us ∷ p) = Posting us ∷ p
stored surplus p = p

-- the own waiting field was read
abbrev pub reread : ℕ → ℕ → Place → Place
reread surplus n (Checking l w found ∷ p) = Removing l w found (n == 1) ∷ p
reread surplus n (Sleeping l w answered ∷ p) = cond (n == 0) (resumed surplus p) (Looking ∷ Sleeping l w answered ∷ p)
reread surplus n p = p

-- these were taken off and are to be told
abbrev pub telling : List Waiter → Place → Place
telling [] p = p
telling (u ∷ us) p = Clearing (u ∷ us) ∷ p

-- the list went home
abbrev pub sent_home : ℕ → Place → Place
sent_home surplus (Appending l w found ∷ p) = p
sent_home surplus (Removing l w found true ∷ p) = Withdrawing ∷ p
sent_home surplus (Removing l w found false ∷ p) = Answering l w ∷ Looking ∷ Sleeping l w true ∷ p
sent_home surplus (Returning l old found n ∷ p) = cond (n == old) (on_conflict p) (on_outcome true surplus p)
sent_home surplus (Calling l found marked [] ∷ p) = telling marked p
sent_home surplus (Unhanding l found ∷ p) = Releasing l ∷ p
sent_home surplus p = p

abbrev pub detached : Bool → ℕ → Place → Place
detached hit n (Detaching l updated found w ∷ p) = cond hit (telling (taken_from found) p) (Detaching l updated found n ∷ p)
detached hit n p = p

-- a semaphore was posted, when this surplus was left
abbrev pub posted : ℕ → Place → Place
posted surplus (GivingBack ∷ p) = resumed surplus (GivingBack ∷ p)
posted surplus (Posting (u ∷ us) ∷ p) = telling us p
posted surplus p = p

-- the own semaphore was looked at. The first look may begin a call
abbrev pub looked : Bool → Place → Place
looked is_zero (Looking ∷ p) = cond is_zero (Asleep ∷ p) (Downing ∷ p)
looked is_zero (Asleep ∷ p) = cond is_zero (Asleep ∷ p) (Downing ∷ p)
looked is_zero p = cond is_zero (Asleep ∷ p) (Downing ∷ p)

-- RELEASE_OK was set: by one who was taken off while it left, by one who was woken and tries again, or by one who queued to wait for the variable
abbrev pub answered : Place → Place
answered (Answering l w ∷ p) = p
answered (Allowing l ∷ p) = p
answered (Woken l m ∷ p) = Attempting l m ∷ Unqueued l m (want_of m) true ∷ p
answered p = p

-- LISTS. What a step that sends the list in hand home leaves of it
abbrev pub left_at : Place → ℕ → List Waiter
left_at (Appending l w found ∷ p) own = joined_by (waiter own w) found
left_at (Removing l w found true ∷ p) own = without own found
left_at (Removing l w found false ∷ p) own = found
left_at (Detaching l updated found w ∷ p) own = kept_from found
left_at (Returning l old found n ∷ p) own = found
left_at (Calling l found marked [] ∷ p) own = lockers_from found
left_at (Unhanding l found ∷ p) own = found
left_at p own = []

abbrev pub sends_home : LwStep → ℕ → Bool
sends_home (Unlock l clears) n = true
sends_home (Wake l w to) n = n == w
sends_home k n = false

abbrev pub takes_list : LwStep → ℕ → Bool
takes_list (Lock l begins) n = has_flag locked n == 0
takes_list k n = false

-- the list that the step took in hand, where this one was at home, or sent home
abbrev pub list_of : LwStep → ℕ → List Waiter → ℕ → Place → List Waiter
list_of k n found own p = cond (takes_list k n) found (cond (sends_home k n) (left_at p own) [])

-- VIEWS. The view at the place p, after one step more
abbrev pub moved : View → LwStep → ℕ → Place → View
moved v k n p = record v { place = p; steps = v.steps ++ made k n ∷ [] }

-- the same, where the step may move a list
abbrev pub moved_list : View → LwStep → ℕ → List Waiter → Place → View
moved_list v k n found p = record v { place = p; steps = v.steps ++ made_with k n (list_of k n found (number_of v.own) v.place) ∷ [] }

-- the same, with another hold of the lock
abbrev pub gripped : View → LwStep → ℕ → ℕ → Place → Hold → ℕ → View
gripped v k l n p h grants = record v { place = p; steps = v.steps ++ made k n ∷ []; holds = slice_set v.holds l h; grants = grants }

abbrev pub with_surplus : View → ℕ → View
with_surplus v n = record v { surplus = n }

-- the sleep of an acquire ended
abbrev pub waits_after : Place → ℕ → ℕ
waits_after (Woken l m ∷ p) n = n + 1
waits_after p n = n

-- what is too much: one more where the seat was woken and is still on the list
abbrev pub surplus_found : ℕ → Place → ℕ → ℕ
surplus_found n (Sleeping l w a ∷ p) s = cond (n == 0) s (s + 1)
surplus_found n p s = s

abbrev pub surplus_posted : Place → ℕ → ℕ
surplus_posted (GivingBack ∷ p) s = s - 1
surplus_posted p s = s

-- a poke, and a `down` that ended, which isn't part of a sleep
abbrev pub poked_by : Option Call → View → View
poked_by (Some (call.Poke q)) v = record v { pokes = v.pokes + 1; poked = v.poked ++ q ∷ [] }
poked_by b v = v

abbrev pub downed_at : Place → Option ℕ → List ℕ → List ℕ
downed_at [] own ns = ns ++ number_of own ∷ []
downed_at (f ∷ p) own ns = ns

-- Where the word isn't the one that an exchange expects, the program goes on with the one found. `found` is the list at home, which a step that sets LOCKED takes in hand where it wasn't set
abbrev pub next : LwStep → View → ℕ → List Waiter → View
next (Load l begins) v n found = moved v (Load l begins) n (loaded begins n v.place)
next (Grant l m w) v n found = cond (n == w) (gripped v (Grant l m w) l n (on_grant v.surplus (outer v.place)) (held m) (v.grants + 1)) (moved v (Grant l m w) n (Trying l m n ∷ outer v.place))
next (Refuse l m w) v n found = moved v (Refuse l m w) n (cond (n == w) (on_refusal (outer v.place)) (Trying l m n ∷ outer v.place))
next (Sub l m begins) v n found = gripped v (Sub l m begins) l n (let_go begins l (n - grant_of m) (releasing begins v.place)) not_held v.grants
next (Peek l begins) v n found = moved v (Peek l begins) n (peeked begins v.surplus n v.place)
next (Guard l k o) v n found = gripped v (Guard l k o) l n v.place (guard_hold o (hold_in l v) k n) v.grants
next (Lock l begins) v n found = moved_list v (Lock l begins) n found (cond (has_flag locked n == 0) (in_hand found (outer (taking begins v.place))) (Spinning l ∷ outer (taking begins v.place)))
next (VarLoad l) v n found = moved v (VarLoad l) n (compared n v.place)
next (VarStore l x) v n found = moved v (VarStore l x) n (published v.place)
next (Unlock l clears) v n found = moved_list v (Unlock l clears) n found (sent_home v.surplus v.place)
next (Flag l) v n found = moved v (Flag l) n (flagged v.place)
next (WaitStore q x) v n found = moved v (WaitStore q x) n (stored v.surplus v.place)
next WaitLoad v n found = with_surplus (moved v WaitLoad n (reread v.surplus n v.place)) (surplus_found n v.place v.surplus)
next (Wake l w to) v n found = moved_list v (Wake l w to) n found (detached (n == w) n v.place)
next (Post q begins) v n found = poked_by begins (with_surplus (moved v (Post q begins) n (posted (surplus_posted v.place v.surplus) v.place)) (surplus_posted v.place v.surplus))
next (Look begins) v n found = moved v (Look begins) n (looked (n == 0) v.place)
next Down v n found = record v { place = outer v.place; steps = v.steps ++ made Down n ∷ []; downed = downed_at (outer v.place) v.own v.downed }
next (SetReleaseOk l) v n found = record v { place = answered v.place; steps = v.steps ++ made (SetReleaseOk l) n ∷ []; waits = waits_after v.place v.waits }

-- SLOTS. A list as it lies in one
abbrev pub as_waiters : List Waiter → Waiters
as_waiters ws = record { items = ws }

abbrev pub lock_number : LwStep → ℕ
lock_number k = number_of (lock_of k)

abbrev pub act_of : LwStep → ℕ → List Waiter → Act Waiters
act_of k n found = cond (takes_list k n) (takes (lock_number k) (as_waiters found)) (cond (sends_home k n) gives keeps)

-- the slot that the seat has out when it sends its list home
abbrev pub carried : LwStep → View → List (ℕ × Waiters)
carried k v = (lock_number k, as_waiters (left_at v.place (number_of v.own))) ∷ []

-- CONDITIONS. The call may begin in this view with a load, with a release, or with a look
abbrev pub BeginsAttempt : ℕ → Option Call → View → Type 0
BeginsAttempt l (Some (call.Try k m)) v = (k ≡ l) × (v.place ≡ []) × (mode_in l v ≡ None)
BeginsAttempt l (Some (call.Acquire k m)) v = (k ≡ l) × (v.place ≡ []) × (mode_in l v ≡ None)
BeginsAttempt l (Some (call.AcquireOrWait k m)) v = (k ≡ l) × (v.place ≡ []) × (mode_in l v ≡ None)
BeginsAttempt l b v = ⊥

abbrev pub BeginsRelease : ℕ → Option Call → View → Type 0
BeginsRelease l (Some (call.Release k)) v = (k ≡ l) × (v.place ≡ [])
BeginsRelease l None v = top v.place ≡ Some (Releasing l)
BeginsRelease l b v = ⊥

-- a look at a lock in a wait for its variable
abbrev pub MayPeek : ℕ → Place → Type 0
MayPeek l (Peeking k old ∷ p) = k ≡ l
MayPeek l p = ⊥

abbrev pub BeginsLook : ℕ → Option Call → View → Type 0
BeginsLook l (Some (call.WaitForVar k old)) v = (k ≡ l) × (v.place ≡ []) × (mode_in l v ≡ None)
BeginsLook l None v = MayPeek l v.place
BeginsLook l b v = ⊥

-- a load in a program that is under way
abbrev pub MayLoad : ℕ → Place → Type 0
MayLoad l (Attempting k m ∷ p) = k ≡ l
MayLoad l (Spinning k ∷ p) = k ≡ l
MayLoad l (Marking k updated found marked [] ∷ p) = k ≡ l
MayLoad l p = ⊥

abbrev pub BeginsLoad : ℕ → Option Call → View → Type 0
BeginsLoad l None v = MayLoad l v.place
BeginsLoad l (Some c) v = BeginsAttempt l (Some c) v

abbrev pub MayTake : ℕ → Place → Type 0
MayTake l (TakingList k ∷ Queueing j w ∷ p) = k ≡ l
MayTake l (TakingList k ∷ Dequeueing j w ∷ p) = k ≡ l
MayTake l (TakingList k ∷ Waking j updated ∷ p) = k ≡ l
MayTake l (TakingList k ∷ Comparing j old ∷ p) = k ≡ l
MayTake l (TakingList k ∷ Storing j x releases ∷ p) = k ≡ l
MayTake l p = ⊥

-- who will let go of the lock leaves lawful words, as at a release
abbrev pub BeginsTaking : (List ℕ → Type 0) → ℕ → Option Call → View → Type 0
BeginsTaking lawful l (Some (call.UpdateVar k x)) v = (k ≡ l) × (v.place ≡ []) × (mode_in l v ≡ Some Exclusive)
BeginsTaking lawful l (Some (call.ReleaseClearVar k x)) v = (k ≡ l) × (v.place ≡ []) × (mode_in l v ≡ Some Exclusive) × LeavesLawful lawful (hold_in l v)
BeginsTaking lawful l (Some c) v = ⊥
BeginsTaking lawful l None v = MayTake l v.place

abbrev pub MayReadVar : ℕ → Place → Type 0
MayReadVar l (Reading k old found ∷ p) = k ≡ l
MayReadVar l p = ⊥

abbrev pub MayStoreVar : ℕ → ℕ → Place → Type 0
MayStoreVar l x (Publishing k y found releases ∷ p) = (k ≡ l) × (y ≡ x)
MayStoreVar l x p = ⊥

abbrev pub MaySendHome : ℕ → Bool → ℕ → Place → Type 0
MaySendHome l clears own (Appending k w found ∷ p) = (k ≡ l) × (clears ≡ false)
MaySendHome l clears own (Removing k w found here ∷ p) = (k ≡ l) × (clears ≡ is_empty (left_at (Removing k w found here ∷ p) own))
MaySendHome l clears own (Returning k old found n ∷ p) = (k ≡ l) × (clears ≡ false)
MaySendHome l clears own (Calling k found marked [] ∷ p) = (k ≡ l) × (clears ≡ false)
MaySendHome l clears own (Unhanding k found ∷ p) = (k ≡ l) × (clears ≡ false)
MaySendHome l clears own p = ⊥

abbrev pub MayFlag : ℕ → Place → Type 0
MayFlag l (Flagging k w found ∷ p) = k ≡ l
MayFlag l p = ⊥

abbrev pub MayStore : ℕ → ℕ → Option ℕ → Place → Type 0
MayStore q x own (Announcing l w found ∷ p) = (own ≡ Some q) × (x ≡ 1)
MayStore q x own (Withdrawing ∷ p) = (own ≡ Some q) × (x ≡ 0)
MayStore q x own (Marking l updated found marked (u ∷ us) ∷ p) = (u.proc ≡ q) × (x ≡ 2)
MayStore q x own (Calling l found marked (u ∷ us) ∷ p) = (u.proc ≡ q) × (x ≡ 2)
MayStore q x own (Clearing (u ∷ us) ∷ p) = (u.proc ≡ q) × (x ≡ 0)
MayStore q x own p = ⊥

abbrev pub MayReread : Place → Type 0
MayReread (Checking l w found ∷ p) = ⊤
MayReread (Sleeping l w answered ∷ p) = ⊤
MayReread p = ⊥

abbrev pub MayDetach : ℕ → ℕ → ℕ → Place → Type 0
MayDetach l w to (Detaching k updated found word ∷ p) = (k ≡ l) × (word ≡ w) × (to ≡ woken_word (taken_from found) (kept_from found) w)
MayDetach l w to p = ⊥

-- the seat owes the backend q a wake, or q is its own number and it has wakes to give back
abbrev pub Owes : ℕ → Option ℕ → Place → Type 0
Owes q own (GivingBack ∷ p) = own ≡ Some q
Owes q own (Posting (u ∷ us) ∷ p) = u.proc ≡ q
Owes q own p = ⊥

abbrev pub MayPost : ℕ → Option Call → View → Type 0
MayPost q (Some (call.Poke r)) v = (r ≡ q) × (v.place ≡ []) × (v.pokes < 1048576)
MayPost q (Some c) v = ⊥
MayPost q None v = Owes q v.own v.place

-- a look begins a call where the seat is in none, or goes on in a sleep or in that call
abbrev pub MayLook : Option Call → Place → Type 0
MayLook (Some c) [] = c ≡ call.Down
MayLook None (Looking ∷ p) = ⊤
MayLook None (Asleep ∷ p) = ⊤
MayLook b p = ⊥

abbrev pub MayAnswer : ℕ → Place → Type 0
MayAnswer l (Answering k w ∷ p) = k ≡ l
MayAnswer l (Woken k m ∷ p) = k ≡ l
MayAnswer l (Allowing k ∷ p) = k ≡ l
MayAnswer l p = ⊥

-- the seat's place allows the step, and the call that begins with it may begin
abbrev pub Allowed : (ℕ → List ℕ → Type 0) → LwStep → View → Type 0
Allowed lawful (Load l begins) v = BeginsLoad l begins v
Allowed lawful (Grant l m w) v = (top v.place ≡ Some (Trying l m w)) × (is_free m w ≡ true)
Allowed lawful (Refuse l m w) v = (top v.place ≡ Some (Trying l m w)) × (is_free m w ≡ false)
Allowed lawful (Sub l m begins) v = BeginsRelease l begins v × (mode_in l v ≡ Some m) × LeavesLawful (lawful l) (hold_in l v)
Allowed lawful (Peek l begins) v = BeginsLook l begins v
Allowed lawful (Guard l k o) v = (k < 4) × (v.place ≡ []) × MayGuard o (mode_in l v)
Allowed lawful (Lock l begins) v = BeginsTaking (lawful l) l begins v
Allowed lawful (VarLoad l) v = MayReadVar l v.place
Allowed lawful (VarStore l x) v = MayStoreVar l x v.place
Allowed lawful (Unlock l clears) v = MaySendHome l clears (number_of v.own) v.place
Allowed lawful (Flag l) v = MayFlag l v.place
Allowed lawful (WaitStore q x) v = MayStore q x v.own v.place
Allowed lawful WaitLoad v = MayReread v.place
Allowed lawful (Wake l w to) v = MayDetach l w to v.place
Allowed lawful (Post q begins) v = MayPost q begins v
Allowed lawful (Look begins) v = MayLook begins v.place
Allowed lawful Down v = top v.place ≡ Some Downing
Allowed lawful (SetReleaseOk l) v = MayAnswer l v.place

-- the state after the step k of the seat id, whose view is v
abbrev pub after : Size → LwState → ℕ → View → LwStep → LwState
after z s id v k =
    let i = word_of z (number_of v.own) k in let n = slice_index s.words i in let found = home_list s.homes (lock_number k) in stepped s i (becomes k n) id (carried k v) (next k v n found) (act_of k n found)
