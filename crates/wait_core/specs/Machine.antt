-- The wait machine: which word each step is on, what the word becomes, how the view of the seat goes on, and where the step is allowed.
use Rattle.std.specs.Prelude.{◌≡◌, ℕ, ◌+◌, ◌<◌, ◌==◌, Bool, true, false, cond, List, [], ◌∷◌, ◌++◌, slice_index, Option, None, Some, ⊤}
use mathlib.Core.Option as maybe
use lib.ListN.{get_elem?}
use Rattle.atomic_table.specs.Table.{State, Act, keeps, takes, gives, stepped}
use Rattle.wait_core.specs.declared.step.Spot.{Spot}
use Rattle.wait_core.specs.declared.step.Spot.TheVariants.{Cv, Bar}
use Rattle.wait_core.specs.declared.step.Until.{Until}
use Rattle.wait_core.specs.declared.step.Until.TheVariants.{Latch, LatchOrShutdown}
use Rattle.wait_core.specs.declared.step.Call.{Call}
use Rattle.wait_core.specs.declared.step.Call.TheVariants as call
use Rattle.wait_core.specs.declared.step.WaitStep.{WaitStep}
use Rattle.wait_core.specs.declared.step.WaitStep.TheVariants.{Sload, Sset, Reset, Mstore, Mload, Byte, Look, Drain, Shload, Shstore, Take, Spin, Free}
use Rattle.wait_core.specs.declared.view.Frame.{Frame}
use Rattle.wait_core.specs.declared.view.Frame.TheVariants.{Setting, Telling, Waking, Announcing, Rechecking, CheckingShutdown, Looking, Asleep, Retracting, Draining, Repeating, LeavingSet, LeavingShutdown, Stopping, Taking, Spinning, Holding, Resetting, SleepWaiting, Preparing, Broadcasting, Signalling, Rousing, Settling, Dozing, Passing, Returning}
use Rattle.wait_core.specs.declared.view.Job.TheVariants as job
use Rattle.wait_core.specs.declared.view.Made.{Made}
use Rattle.wait_core.specs.declared.view.Kept.{Kept}
use Rattle.wait_core.specs.declared.view.Record.{Record}
use Rattle.wait_core.specs.declared.view.Size.{Size}
use Rattle.wait_core.specs.declared.view.WaitView.{WaitView}
use Rattle.wait_core.specs.Words.{set_at, may_at, byte_at, shut_at, slot_of, spin_at}
use Rattle.wait_core.specs.Jobs.{spot_of, left_list, left_record, target_after, heeds_after, attached_after, elections_after, passed_after, resumed, goes_on}

-- the words, what is at home in the slots, and one view per seat
abbrev pub WaitState : Type 0 → Type 0
WaitState C = State Kept (WaitView C)

-- what is still to do, the innermost program first. In no call there is nothing
abbrev pub Place : Type 0
Place = List Frame

abbrev pub top : Place → Option Frame
top [] = None
top (f ∷ p) = Some f

abbrev pub outer : Place → Place
outer [] = []
outer (f ∷ p) = p

abbrev pub bit : Bool → ℕ
bit true = 1
bit false = 0

abbrev pub number_of : Option ℕ → ℕ
number_of None = 0
number_of (Some n) = n

-- the word that the step of the backend `own` is on
abbrev pub word_of : Size → ℕ → WaitStep → ℕ
word_of z own (Sload q begins) = set_at q
word_of z own (Sset q) = set_at q
word_of z own (Reset begins) = set_at own
word_of z own (Mstore may) = may_at own
word_of z own (Mload q) = may_at q
word_of z own (Byte q) = byte_at q
word_of z own Look = byte_at own
word_of z own Drain = byte_at own
word_of z own (Shload begins) = shut_at z
word_of z own (Shstore begins) = shut_at z
word_of z own (Take x begins) = spin_at z (slot_of x)
word_of z own (Spin x) = spin_at z (slot_of x)
word_of z own (Free x target) = spin_at z (slot_of x)

-- what the word n becomes
abbrev pub becomes : WaitStep → ℕ → ℕ
becomes (Sload q begins) n = n
becomes (Sset q) n = 1
becomes (Reset begins) n = 0
becomes (Mstore may) n = bit may
becomes (Mload q) n = n
becomes (Byte q) n = 1
becomes Look n = n
becomes Drain n = 0
becomes (Shload begins) n = n
becomes (Shstore begins) n = 1
becomes (Take x begins) n = 1
becomes (Spin x) n = n
becomes (Free x target) n = 0

-- the step writes its word
abbrev pub writes : WaitStep → Bool
writes (Sload q begins) = false
writes (Sset q) = true
writes (Reset begins) = true
writes (Mstore may) = true
writes (Mload q) = false
writes (Byte q) = true
writes Look = false
writes Drain = true
writes (Shload begins) = false
writes (Shstore begins) = true
writes (Take x begins) = true
writes (Spin x) = false
writes (Free x target) = true

-- PLACES. What is behind the wait for the latch in a call that begins with it: a sleep waits inside
abbrev pub behind_wait : Call → Place → Place
behind_wait (call.Sleep c) p = SleepWaiting c ∷ p
behind_wait c p = p

-- The first load of a call. Where a latch is to be set, or is waited for, that program ends if it is set
abbrev pub begun : Call → Bool → Place → Place
begun (call.Set q) is_clear p = cond is_clear (Setting q ∷ p) (resumed p)
begun (call.Wait u) is_clear p = cond is_clear (Announcing u ∷ p) (resumed p)
begun (call.Sleep c) is_clear p = cond is_clear (Announcing Latch ∷ SleepWaiting c ∷ p) (Resetting c ∷ p)
begun c is_clear p = p

-- what follows the second look at the latch
abbrev pub watching : Until → Frame
watching Latch = Looking Latch
watching LatchOrShutdown = CheckingShutdown

-- a load of the latch inside a wait
abbrev pub reloaded : Bool → Place → Place
reloaded is_clear (Repeating u ∷ p) = cond is_clear (Announcing u ∷ p) (resumed p)
reloaded is_clear (Rechecking u ∷ p) = cond is_clear (watching u ∷ p) (LeavingSet ∷ p)
reloaded is_clear p = p

-- may-sleep was stored
abbrev pub marked : Place → Place
marked (Announcing u ∷ p) = Rechecking u ∷ p
marked (Retracting u ∷ p) = Draining u ∷ p
marked (LeavingSet ∷ p) = resumed p
marked (LeavingShutdown ∷ p) = resumed p
marked p = p

-- the wake byte of q was stored. The shutdown goes on with the next backend
abbrev pub woken : Size → ℕ → Place → Place
woken z q (Waking r ∷ p) = resumed p
woken z q (Stopping r ∷ p) = cond (q + 1 == z.procs) (resumed p) (Stopping (q + 1) ∷ p)
woken z q p = p

abbrev pub looked : Bool → Place → Place
looked is_clear (Looking u ∷ p) = cond is_clear (Asleep u ∷ p) (Retracting u ∷ p)
looked is_clear (Asleep u ∷ p) = cond is_clear (Asleep u ∷ p) (Retracting u ∷ p)
looked is_clear p = p

abbrev pub drained : Place → Place
drained (Draining u ∷ p) = Repeating u ∷ p
drained p = p

-- the latch was reset in a sleep
abbrev pub reset : Place → Place
reset (Resetting c ∷ p) = Taking (job.Resleep c) ∷ p
reset p = p

-- A call that begins by taking a spin word, in a seat with this target: it leaves the list of another condition first
abbrev pub entered : Option ℕ → Call → Place → Place
entered target (call.Signal c) p = Taking (job.Signal c) ∷ p
entered target (call.Attach b) p = Taking (job.Attach b) ∷ p
entered target (call.Arrive b) p = Taking (job.Arrive b) ∷ p
entered target (call.Detach b) p = Taking (job.Detach b) ∷ p
entered target (call.ArriveDetach b) p = Taking (job.ArriveDetach b) ∷ p
entered target (call.ExceptLast b) p = Taking (job.ExceptLast b) ∷ p
entered (Some t) call.Cancel p = Taking (job.Cancel t) ∷ p
entered (Some t) (call.Prepare c) p = Taking (job.Cancel t) ∷ Preparing c ∷ p
entered None (call.Prepare c) p = Taking (job.Prepare c) ∷ p
entered (Some t) (call.Sleep c) p = Taking (job.Cancel t) ∷ Preparing c ∷ p
entered None (call.Sleep c) p = Taking (job.Prepare c) ∷ p
entered (Some t) (call.Broadcast c) p = Taking (job.Cancel t) ∷ Broadcasting c ∷ p
entered None (call.Broadcast c) p = Taking (job.Broadcast c) ∷ p
entered target c p = p

-- what a spin word guards, with this list and this record
abbrev pub as_kept : List ℕ → Record → Kept
as_kept list found = record { list = record { items = list }; «record» = found }

-- the word was taken, and what it guards is in hand as it was found; or somebody has it
abbrev pub taken : Bool → Kept → Place → Place
taken is_free found (Taking j ∷ p) = cond is_free (Holding j found.list.items found.record ∷ p) (Spinning j ∷ p)
taken is_free found p = p

abbrev pub spun : Bool → Place → Place
spun is_free (Spinning j ∷ p) = cond is_free (Taking j ∷ p) (Spinning j ∷ p)
spun is_free p = p

-- the word was freed by the backend `own`
abbrev pub freed : ℕ → Place → Place
freed own (Holding j list found ∷ p) = goes_on j own list found p
freed own p = p

-- the place after a step that found n on a word that is no spin word
abbrev pub place_after : Size → WaitStep → ℕ → Place → Place
place_after z (Sload q (Some c)) n p = begun c (n == 0) p
place_after z (Sload q None) n p = reloaded (n == 0) p
place_after z (Sset q) n p = Telling q ∷ outer p
place_after z (Reset (Some c)) n p = p
place_after z (Reset None) n p = reset p
place_after z (Mstore may) n p = marked p
place_after z (Mload q) n p = cond (n == 0) (resumed (outer p)) (Waking q ∷ outer p)
place_after z (Byte q) n p = woken z q p
place_after z Look n p = looked (n == 0) p
place_after z Drain n p = drained p
place_after z (Shload (Some c)) n p = p
place_after z (Shload None) n p = cond (n == 0) (Looking LatchOrShutdown ∷ outer p) (LeavingShutdown ∷ outer p)
place_after z (Shstore begins) n p = Stopping 0 ∷ p
place_after z k n p = p

-- VIEWS. What of the view tells how a program goes on
pub record Stand : Type 0 where
  pub own : ℕ
  pub target : Option ℕ
  pub place : Place

-- the place after a step that found n, where `found` is at home in the slot of a spin word
abbrev pub place_then : Size → WaitStep → ℕ → Kept → Stand → Place
place_then z (Take x (Some c)) n found s = taken (n == 0) found (entered s.target c s.place)
place_then z (Take x None) n found s = taken (n == 0) found s.place
place_then z (Spin x) n found s = spun (n == 0) s.place
place_then z (Free x target) n found s = freed s.own s.place
place_then z k n found s = place_after z k n s.place

abbrev pub target_then : WaitStep → Option ℕ → Option ℕ
target_then (Free x after) target = after
target_then k target = target

abbrev pub freed_heeds : ℕ → Place → Bool → Bool
freed_heeds own (Holding j list found ∷ p) heeds = heeds_after j own list heeds
freed_heeds own p heeds = heeds

-- whether it heeds its signal: not where it reset its latch by itself
abbrev pub heeds_then : WaitStep → ℕ → Place → Bool → Bool
heeds_then (Reset (Some c)) own p heeds = false
heeds_then (Free x target) own p heeds = freed_heeds own p heeds
heeds_then k own p heeds = heeds

-- the barriers to which it is attached
abbrev pub freed_attached : Place → List (ℕ × ℕ) → List (ℕ × ℕ)
freed_attached (Holding j list found ∷ p) attached = attached_after j found attached
freed_attached p attached = attached

abbrev pub attached_then : WaitStep → Place → List (ℕ × ℕ) → List (ℕ × ℕ)
attached_then (Free x target) p attached = freed_attached p attached
attached_then k p attached = attached

-- its elections
abbrev pub freed_elections : Place → List (ℕ × ℕ) → List (ℕ × ℕ)
freed_elections (Holding j list found ∷ p) elections = elections_after j found elections
freed_elections p elections = elections

abbrev pub elections_then : WaitStep → Place → List (ℕ × ℕ) → List (ℕ × ℕ)
elections_then (Free x target) p elections = freed_elections p elections
elections_then k p elections = elections

-- the phases that it waited out
abbrev pub freed_passed : Place → List (ℕ × ℕ) → List (ℕ × ℕ)
freed_passed (Holding j list found ∷ p) passed = passed_after j found passed
freed_passed p passed = passed

abbrev pub passed_then : WaitStep → Place → List (ℕ × ℕ) → List (ℕ × ℕ)
passed_then (Free x target) p passed = freed_passed p passed
passed_then k p passed = passed

-- what is left of what the backend `own` has in hand
abbrev pub left_at : ℕ → Place → Kept
left_at own (Holding j list found ∷ p) = as_kept (left_list j own list) (left_record j found)
left_at own p = as_kept [] record { phase = 0; participants = 0; arrived = 0; elected = 0 }

-- the list that the step took in hand, or sent home
abbrev pub list_of : WaitStep → ℕ → Kept → ℕ → Place → List ℕ
list_of (Take x begins) n found own p = cond (n == 0) found.list.items []
list_of (Free x target) n found own p = (left_at own p).list.items
list_of k n found own p = []

abbrev pub made_with : WaitStep → ℕ → List ℕ → Made
made_with k n list = record { step = k; found = n; list = list }

abbrev pub made : WaitStep → ℕ → Made
made k n = made_with k n []

-- SLOTS. What is at home in one
abbrev pub home_of : maybe.Option (maybe.Option Kept) → Kept
home_of maybe.none = left_at 0 []
home_of (maybe.some maybe.none) = left_at 0 []
home_of (maybe.some (maybe.some k)) = k

abbrev pub home_in : List (maybe.Option Kept) → ℕ → Kept
home_in homes x = home_of (get_elem? homes x)

-- the step's spin word, and its slot
abbrev pub step_spot : WaitStep → Option Spot
step_spot (Take x begins) = Some x
step_spot (Spin x) = Some x
step_spot (Free x target) = Some x
step_spot k = None

abbrev pub slot_at : Option Spot → ℕ
slot_at None = 0
slot_at (Some x) = slot_of x

abbrev pub slot_number : WaitStep → ℕ
slot_number k = slot_at (step_spot k)

-- what the step does to its slot, where it found n
abbrev pub act_of : WaitStep → ℕ → Kept → Act Kept
act_of (Take x begins) n found = cond (n == 0) (takes (slot_of x) found) keeps
act_of (Free x target) n found = gives
act_of k n found = keeps

-- the slot that the seat has out when it frees its word, with what is left
abbrev pub carried : WaitStep → ℕ → Place → List (ℕ × Kept)
carried k own p = (slot_number k, left_at own p) ∷ []

-- CONDITIONS. The call sets the latch of q, or waits for the own latch alone
abbrev pub SetsLatchOf : ℕ → Call → Type 0
SetsLatchOf q (call.Set r) = q ≡ r
SetsLatchOf q c = ⊥

abbrev pub WaitsForLatch : Call → Type 0
WaitsForLatch (call.Wait Latch) = ⊤
WaitsForLatch c = ⊥

-- it prepares to sleep on this condition, sleeps on it, or broadcasts on it; or it leaves the list of the target
abbrev pub PreparesOn : ℕ → Call → Type 0
PreparesOn c (call.Prepare d) = c ≡ d
PreparesOn c k = ⊥

abbrev pub SleepsOn : ℕ → Call → Type 0
SleepsOn c (call.Sleep d) = c ≡ d
SleepsOn c k = ⊥

abbrev pub BroadcastsOn : ℕ → Call → Type 0
BroadcastsOn c (call.Broadcast d) = c ≡ d
BroadcastsOn c k = ⊥

abbrev pub LeavesTarget : Call → Type 0
LeavesTarget call.Cancel = ⊤
LeavesTarget k = ⊥

-- the call's program stands inside that of the frame
abbrev pub IsInside : Call → Frame → Type 0
IsInside k (Signalling c q) = SetsLatchOf q k
IsInside k (Rousing c q more) = SetsLatchOf q k
IsInside k (SleepWaiting c) = WaitsForLatch k
IsInside k (Settling b ph) = PreparesOn b k
IsInside k (Dozing b ph) = SleepsOn b k
IsInside k (Passing b ph) = BroadcastsOn b k
IsInside k (Returning b ph) = LeavesTarget k
IsInside k f = ⊥

-- the call may begin here: the seat is in no call, or at a frame whose program has the call inside
abbrev pub MayBegin : Call → Place → Type 0
MayBegin c [] = ⊤
MayBegin c (f ∷ p) = IsInside c f

-- the load of the latch of q begins this call, in a seat with this number and this target
abbrev pub BeginsLoad : Size → ℕ → Call → Option ℕ → Option ℕ → Type 0
BeginsLoad z q (call.Set r) own target = (r ≡ q) × (q < z.procs)
BeginsLoad z q (call.Wait u) own target = own ≡ Some q
BeginsLoad z q call.IsSet own target = own ≡ Some q
BeginsLoad z q (call.Sleep c) own target = (own ≡ Some q) × (target ≡ Some c)
BeginsLoad z q c own target = ⊥

-- the condition that the call names
abbrev pub IsBelow : ℕ → Option ℕ → Type 0
IsBelow n None = ⊤
IsBelow n (Some c) = c < n

abbrev pub named_by : Call → Option ℕ
named_by (call.Prepare c) = Some c
named_by (call.Sleep c) = Some c
named_by (call.Signal c) = Some c
named_by (call.Broadcast c) = Some c
named_by c = None

-- the spin word that the call takes first, in a seat with this target: that of its condition or barrier, or of the list that it leaves first
abbrev pub spot_for : Option ℕ → Option Spot
spot_for None = None
spot_for (Some c) = Some (Cv c)

abbrev pub takes_first : Option ℕ → Call → Option Spot
takes_first target call.Cancel = spot_for target
takes_first None (call.Prepare c) = Some (Cv c)
takes_first (Some t) (call.Prepare c) = Some (Cv t)
takes_first None (call.Sleep c) = Some (Cv c)
takes_first (Some t) (call.Sleep c) = cond (t == c) None (Some (Cv t))
takes_first target (call.Signal c) = Some (Cv c)
takes_first None (call.Broadcast c) = Some (Cv c)
takes_first (Some t) (call.Broadcast c) = Some (Cv t)
takes_first target (call.Attach b) = Some (Bar b)
takes_first target (call.Arrive b) = Some (Bar b)
takes_first target (call.Detach b) = Some (Bar b)
takes_first target (call.ArriveDetach b) = Some (Bar b)
takes_first target (call.ExceptLast b) = Some (Bar b)
takes_first target c = None

-- the spin word is the table's
abbrev pub IsSpot : Size → Spot → Type 0
IsSpot z (Cv c) = c < z.cvs
IsSpot z (Bar b) = b < z.bars

abbrev pub MayTake : Spot → Option Frame → Type 0
MayTake x (Some (Taking j)) = spot_of j ≡ x
MayTake x f = ⊥

abbrev pub MaySpin : Spot → Option Frame → Type 0
MaySpin x (Some (Spinning j)) = spot_of j ≡ x
MaySpin x f = ⊥

-- the target is then this one
abbrev pub MayFree : Spot → Option ℕ → Option ℕ → Option Frame → Type 0
MayFree x after target (Some (Holding j list found)) = (spot_of j ≡ x) × (after ≡ target_after j target)
MayFree x after target f = ⊥

abbrev pub MayReset : Option Frame → Type 0
MayReset (Some (Resetting c)) = ⊤
MayReset f = ⊥

abbrev pub MayReload : Option Frame → Type 0
MayReload (Some (Repeating u)) = ⊤
MayReload (Some (Rechecking u)) = ⊤
MayReload f = ⊥

abbrev pub MayMark : Bool → Option Frame → Type 0
MayMark true (Some (Announcing u)) = ⊤
MayMark false (Some (Retracting u)) = ⊤
MayMark false (Some LeavingSet) = ⊤
MayMark false (Some LeavingShutdown) = ⊤
MayMark may f = ⊥

abbrev pub MayWake : ℕ → Option Frame → Type 0
MayWake q (Some (Waking r)) = r ≡ q
MayWake q (Some (Stopping r)) = r ≡ q
MayWake q f = ⊥

abbrev pub MayLook : Option Frame → Type 0
MayLook (Some (Looking u)) = ⊤
MayLook (Some (Asleep u)) = ⊤
MayLook f = ⊥

abbrev pub MayDrain : Option Frame → Type 0
MayDrain (Some (Draining u)) = ⊤
MayDrain f = ⊥

-- a seat with this number and this target may make the step at this place
abbrev pub Permits : Size → WaitStep → Option ℕ → Option ℕ → Place → Type 0
Permits z (Sload q (Some c)) own target p = BeginsLoad z q c own target × MayBegin c p
Permits z (Sload q None) own target p = (own ≡ Some q) × MayReload (top p)
Permits z (Sset q) own target p = (q < z.procs) × (top p ≡ Some (Setting q))
Permits z (Reset (Some c)) own target p = (c ≡ call.Reset) × MayBegin call.Reset p
Permits z (Reset None) own target p = MayReset (top p)
Permits z (Mstore may) own target p = MayMark may (top p)
Permits z (Mload q) own target p = (q < z.procs) × (top p ≡ Some (Telling q))
Permits z (Byte q) own target p = (q < z.procs) × MayWake q (top p)
Permits z Look own target p = MayLook (top p)
Permits z Drain own target p = MayDrain (top p)
Permits z (Shload (Some c)) own target p = (c ≡ call.IsShut) × MayBegin call.IsShut p
Permits z (Shload None) own target p = top p ≡ Some CheckingShutdown
Permits z (Shstore begins) own target p = (begins ≡ Some call.Shut) × MayBegin call.Shut p
Permits z (Take x (Some c)) own target p = IsSpot z x × (takes_first target c ≡ Some x) × IsBelow z.cvs (named_by c) × MayBegin c p
Permits z (Take x None) own target p = IsSpot z x × MayTake x (top p)
Permits z (Spin x) own target p = IsSpot z x × MaySpin x (top p)
Permits z (Free x after) own target p = IsSpot z x × MayFree x after target (top p)

module _ {C : Type 0} where
  abbrev pub stand_of : WaitView C → Stand
  stand_of v = record { own = number_of v.own; target = v.target; place = v.place }

  -- the view after a step that found n, where `found` is at home in the slot of a spin word
  abbrev pub next_with : Size → WaitStep → WaitView C → ℕ → Kept → WaitView C
  next_with z k v n found = record v {
    place = place_then z k n found (stand_of v);
    steps = v.steps ++ made_with k n (list_of k n found (number_of v.own) v.place) ∷ [];
    target = target_then k v.target;
    heeds = heeds_then k (number_of v.own) v.place v.heeds;
    attached = attached_then k v.place v.attached;
    elections = elections_then k v.place v.elections;
    passed = passed_then k v.place v.passed;
  }

  -- the same of a step that takes nothing in hand
  abbrev pub next : Size → WaitStep → WaitView C → ℕ → WaitView C
  next z k v n = next_with z k v n (left_at 0 [])

  -- the view's place allows the step, and a call that begins with it may begin
  abbrev pub Allowed : Size → WaitStep → WaitView C → Type 0
  Allowed z k v = Permits z k v.own v.target v.place

  -- the state after the step k of the seat id, whose view is v
  abbrev pub after : Size → WaitState C → ℕ → WaitView C → WaitStep → WaitState C
  after z s id v k =
      let own = number_of v.own in let i = word_of z own k in let n = slice_index s.words i in let found = home_in s.homes (slot_number k) in
      stepped s i (becomes k n) id (carried k own v.place) (next_with z k v n found) (act_of k n found)
