-- What a step needs of the list in hand, and what becomes of it.
use Rattle.std.specs.Prelude.{◌≡◌, ℕ, ◌==◌, cond, true, false, List, [], slice_set, Option, None, Some, ⊤}
use Rattle.proc_table.specs.declared.Mode.{Mode}
use Rattle.lw_core.specs.declared.step.Call.TheVariants as call
use Rattle.lw_core.specs.declared.step.LwStep.{LwStep}
use Rattle.lw_core.specs.declared.step.LwStep.TheVariants.{Grant, Sub, Lock, Unlock, Wake, Post}
use Rattle.lw_core.specs.declared.view.View.{View}
use Rattle.lw_core.specs.declared.view.Waiter.{Waiter}
use Rattle.lw_core.specs.Words.{Waiters}
use Rattle.lw_core.specs.Machine.{number_of, left_at, sends_home, takes_list, carried}
use Rattle.lw_core.specs.Stances.{hand_at}
use Rattle.lw_core.specs.Seats.{Carries}

-- the list that goes home is the one that the program leaves
abbrev pub SendsHome : LwStep → View → List Waiter → Type 0
SendsHome (Unlock l clears) v list = list ≡ left_at v.place (number_of v.own)
SendsHome (Wake l w to) v list = list ≡ left_at v.place (number_of v.own)
SendsHome k v list = ⊤

-- a step that found n leaves the list in hand as it was, unless it took or sent it: then there is the one found, or none
abbrev pub ListAfter : LwStep → ℕ → List Waiter → List Waiter → Type 0
ListAfter k n old new = (takes_list k n ≡ false → sends_home k n ≡ false → new ≡ old) × (sends_home k n ≡ true → new ≡ [])

-- a step that may take the list of l in hand, one that may send it home, and one that neither takes nor sends a list
abbrev pub IsTaking : ℕ → LwStep → Type 0
IsTaking l (Lock k begins) = k ≡ l
IsTaking l k = ⊥

abbrev pub IsSending : ℕ → LwStep → Type 0
IsSending l (Unlock k clears) = k ≡ l
IsSending l (Wake k w to) = k ≡ l
IsSending l k = ⊥

abbrev pub IsApart : LwStep → Type 0
IsApart (Lock l begins) = ⊥
IsApart (Unlock l clears) = ⊥
IsApart (Wake l w to) = ⊥
IsApart k = ⊤

-- the slot that is out with the seat: where the list goes home it has the list already
abbrev pub HasSlot : LwStep → View → List (ℕ × Waiters) → Type 0
HasSlot (Unlock l clears) v c = c ≡ carried (Unlock l clears) v
HasSlot (Wake l w to) v c = c ≡ carried (Wake l w to) v
HasSlot k v c = Carries (hand_at v.place) c

-- the modes that a seat keeps, after a step that found n
abbrev pub modes_then : LwStep → ℕ → List (Option Mode) → List (Option Mode)
modes_then (Grant l m w) n modes = cond (n == w) (slice_set modes l (Some m)) modes
modes_then (Sub l m begins) n modes = slice_set modes l None
modes_then k n modes = modes

-- 1 where the step pokes somebody
abbrev pub pokes_by : LwStep → ℕ
pokes_by (Post q (Some (call.Poke r))) = 1
pokes_by k = 0
