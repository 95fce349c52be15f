-- What each step tells the seat that makes it.
use Rattle.std.specs.Prelude.{◌≡◌, ℕ, ◌+◌, ◌^◌, ◌<◌, ◌≤◌, List, [], length, slice_index, Option, None, Some, cond, false, ⊤}
use Rattle.atomic_table.specs.Table.{Me, Step, carried_after}
use Rattle.lw_core.specs.declared.step.LwStep.{LwStep}
use Rattle.lw_core.specs.declared.step.LwStep.TheVariants.{Load, Grant, Refuse, Sub, Peek, Guard, Lock, VarLoad, VarStore, Unlock, Flag, WaitStore, WaitLoad, Wake, Post, Look, Down, SetReleaseOk}
use Rattle.lw_core.specs.declared.view.View.{View}
use Rattle.lw_core.specs.declared.view.Hold.{Hold}
use Rattle.lw_core.specs.declared.view.Size.{Size}
use Rattle.lw_core.specs.declared.view.Waiter.{Waiter}
use Rattle.lw_core.specs.Words.{Waiters, locked, has_flag}
use Rattle.lw_core.specs.WaitLists.{AllBelow}
use Rattle.lw_core.specs.Machine.{next, lock_of, takes_list, sends_home, act_of, hold_in, known_at, not_held, held, learnt, guard_hold, guard_becomes}
use Rattle.lw_core.specs.Stances.{Hand, hand_at, round_at}
use Rattle.lw_core.specs.Runs.{drew_one}

abbrev pub Sat : Type 0
Sat = Me Waiters View

-- all four words are known to be these
abbrev pub KnowsAll : Hold → List ℕ → Type 0
KnowsAll h words = (length words ≡ 4) × ((j : ℕ) → j < 4 → known_at h j ≡ Some (slice_index words j))

-- a guarded word is found as it was known. Where all four are known then and the seat wrote none, they are lawful
abbrev pub Reads : (List ℕ → Type 0) → Hold → ℕ → ℕ → Type 0
Reads lawful h k n = ((m : ℕ) → known_at h k ≡ Some m → n ≡ m) × (known_at (learnt h k n) k ≡ Some n)
    × (h.wrote ≡ false → (words : List ℕ) → KnowsAll (learnt h k n) words → lawful words)

-- a list that was taken in hand has backends of the table alone, and there is room on it for one who isn't in a round
abbrev pub TellsList : Size → View → List Waiter → Type 0
TellsList z v found = AllBelow z.procs found × (length found ≤ z.procs) × (round_at v.place ≡ false → length found < z.procs)

-- what the word n that was found tells, and the list that was taken in hand, and what the seat has of the lock then
abbrev pub Tells : (ℕ → List ℕ → Type 0) → Size → LwStep → View → ℕ → List Waiter → Type 0
Tells lawful z (Load l begins) v n found = (n < 2 ^ 32) × (v.place ≡ [] → v.surplus ≡ 0)
Tells lawful z (Grant l m w) v n found = (n < 2 ^ 32) × (n ≡ w → hold_in l (next (Grant l m w) v n found) ≡ held m)
Tells lawful z (Refuse l m w) v n found = n < 2 ^ 32
Tells lawful z (Sub l m begins) v n found = (n < 2 ^ 32) × (hold_in l (next (Sub l m begins) v n found) ≡ not_held)
Tells lawful z (Peek l begins) v n found = (n < 2 ^ 32) × (v.place ≡ [] → v.surplus ≡ 0)
Tells lawful z (Guard l k o) v n found = (hold_in l (next (Guard l k o) v n found) ≡ guard_hold o (hold_in l v) k n) × (known_at (guard_hold o (hold_in l v) k n) k ≡ Some (guard_becomes o n)) × Reads (lawful l) (hold_in l v) k n
Tells lawful z (Lock l begins) v n found = (n < 2 ^ 32) × (has_flag locked n ≡ 0 → TellsList z v found) × (v.place ≡ [] → v.surplus ≡ 0)
Tells lawful z (VarLoad l) v n found = ⊤
Tells lawful z (VarStore l x) v n found = ⊤
Tells lawful z (Unlock l clears) v n found = n < 2 ^ 32
Tells lawful z (Flag l) v n found = n < 2 ^ 32
Tells lawful z (WaitStore q x) v n found = ⊤
Tells lawful z WaitLoad v n found = v.surplus < 2 ^ 32
Tells lawful z (Wake l w to) v n found = n < 2 ^ 32
Tells lawful z (Post q begins) v n found = ⊤
Tells lawful z (Look begins) v n found = ⊤
Tells lawful z Down v n found = 1 ≤ n
Tells lawful z (SetReleaseOk l) v n found = n < 2 ^ 32

-- the lock whose list is in hand
abbrev pub lock_in_hand : Option Hand → Option ℕ
lock_in_hand None = None
lock_in_hand (Some h) = Some h.lock

-- a step takes the list of its lock in hand, or sends the list in hand home; else it leaves in hand what was
abbrev pub hand_then : LwStep → ℕ → Option ℕ → Option ℕ
hand_then k n o = cond (takes_list k n) (lock_of k) (cond (sends_home k n) None o)

abbrev pub HandFollows : LwStep → View → ℕ → List Waiter → Type 0
HandFollows k v n found = lock_in_hand (hand_at (next k v n found).place) ≡ hand_then k n (lock_in_hand (hand_at v.place))

-- the view goes on as the machine says, the list leaves its slot or goes home, and the place knows of it
abbrev pub does : (ℕ → List ℕ → Type 0) → Size → LwStep → Step Waiters → Sat → ℕ → Sat → Type 0
does lawful z k st m n m' = (found : List Waiter) × (m'.0 ≡ next k m.0 n found) × (m'.1 ≡ carried_after m.1 (act_of k n found)) × Tells lawful z k m.0 n found × HandFollows k m.0 n found

-- seat 0 reads the number that it may draw, if that is below the number of backends
abbrev pub looks : Size → Step Waiters → Sat → ℕ → Sat → Type 0
looks z st m n m' = (m'.0 ≡ m.0) × (m'.1 ≡ m.1) × (m.0.own ≡ Some 0 → (n ≡ m.0.drawn + 1) × (n ≤ z.procs))

abbrev pub draws_one : Step Waiters → Sat → ℕ → Sat → Type 0
draws_one st m n m' = (m'.0 ≡ drew_one m.0) × (m'.1 ≡ m.1)
