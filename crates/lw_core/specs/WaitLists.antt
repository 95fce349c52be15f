-- Lists of waiters: how a backend joins one, leaves one, and is taken off one by a wake.
use Rattle.std.specs.Prelude.{◌≡◌, ℕ, ◌+◌, ◌<◌, ◌==◌, Bool, true, false, cond, List, [], ◌∷◌, ◌++◌, ⊤}
use mathlib.Core.Option as maybe
use lib.ListN.{get_elem?}
use Rattle.lw_core.specs.declared.view.Want.{Want}
use Rattle.lw_core.specs.declared.view.Want.TheVariants.{Shared, Exclusive, UntilFree}
use Rattle.lw_core.specs.declared.view.Waiter.{Waiter}
use Rattle.lw_core.specs.Words.{Waiters}

abbrev pub waiter : ℕ → Want → Waiter
waiter p want = record { proc = p; want = want }

abbrev pub same_want : Want → Want → Bool
same_want Shared Shared = true
same_want Exclusive Exclusive = true
same_want UntilFree UntilFree = true
same_want a b = false

-- how often the backend p is on the list, and how often with this want
abbrev pub times_on : ℕ → List Waiter → ℕ
times_on p [] = 0
times_on p (w ∷ ws) = cond (w.proc == p) 1 0 + times_on p ws

abbrev pub times_with : ℕ → Want → List Waiter → ℕ
times_with p want [] = 0
times_with p want (w ∷ ws) = cond (w.proc == p) (cond (same_want w.want want) 1 0) 0 + times_with p want ws

-- each backend on the list is one of the table's
abbrev pub AllBelow : ℕ → List Waiter → Type 0
AllBelow procs [] = ⊤
AllBelow procs (w ∷ ws) = (w.proc < procs) × AllBelow procs ws

-- no one who waits until the lock is free stands behind one who wants the lock
abbrev pub HasNoUntilFree : List Waiter → Type 0
HasNoUntilFree [] = ⊤
HasNoUntilFree (w ∷ ws) = (same_want w.want UntilFree ≡ false) × HasNoUntilFree ws

abbrev pub IsUntilFreeFirst : List Waiter → Type 0
IsUntilFreeFirst [] = ⊤
IsUntilFreeFirst (w ∷ ws) = (same_want w.want UntilFree ≡ false → HasNoUntilFree ws) × IsUntilFreeFirst ws

-- a waiter queues: at the head where it waits until the lock is free, and else at the tail
abbrev pub joined_by : Waiter → List Waiter → List Waiter
joined_by w ws = cond (same_want w.want UntilFree) (w ∷ ws) (ws ++ w ∷ [])

-- the backend p leaves
abbrev pub without : ℕ → List Waiter → List Waiter
without p [] = []
without p (w ∷ ws) = cond (w.proc == p) (without p ws) (w ∷ without p ws)

-- Whom a wake takes, and whom it leaves, where it took one who wants the lock before or didn't. From the head on it takes each but who wants the lock exclusively where one was taken who wants the lock; after one who is taken and wants it exclusively it takes none
abbrev pub taken_after : Bool → List Waiter → List Waiter
taken_after took_shared [] = []
taken_after took_shared (w ∷ ws) = cond (same_want w.want Exclusive) (cond took_shared (taken_after took_shared ws) (w ∷ [])) (w ∷ taken_after (cond (same_want w.want Shared) true took_shared) ws)

abbrev pub kept_after : Bool → List Waiter → List Waiter
kept_after took_shared [] = []
kept_after took_shared (w ∷ ws) = cond (same_want w.want Exclusive) (cond took_shared (w ∷ kept_after took_shared ws) ws) (kept_after (cond (same_want w.want Shared) true took_shared) ws)

abbrev pub taken_from : List Waiter → List Waiter
taken_from ws = taken_after false ws

abbrev pub kept_from : List Waiter → List Waiter
kept_from ws = kept_after false ws

-- those at the head who wait until the lock is free, and those behind them
abbrev pub until_free_from : List Waiter → List Waiter
until_free_from [] = []
until_free_from (w ∷ ws) = cond (same_want w.want UntilFree) (w ∷ until_free_from ws) []

abbrev pub lockers_from : List Waiter → List Waiter
lockers_from [] = []
lockers_from (w ∷ ws) = cond (same_want w.want UntilFree) (lockers_from ws) (w ∷ ws)

-- one of these wants the lock
abbrev pub has_locker : List Waiter → Bool
has_locker [] = false
has_locker (w ∷ ws) = cond (same_want w.want UntilFree) (has_locker ws) true

abbrev pub is_empty : List Waiter → Bool
is_empty [] = true
is_empty (w ∷ ws) = false

-- nobody is on any of these lists
abbrev pub AllEmpty : List Waiters → Type 0
AllEmpty [] = ⊤
AllEmpty (list ∷ lists) = (list.items ≡ []) × AllEmpty lists

-- the list of the lock l that is at home. Where it isn't there is none
abbrev pub home_of : maybe.Option (maybe.Option Waiters) → List Waiter
home_of maybe.none = []
home_of (maybe.some maybe.none) = []
home_of (maybe.some (maybe.some list)) = list.items

abbrev pub home_list : List (maybe.Option Waiters) → ℕ → List Waiter
home_list homes l = home_of (get_elem? homes l)
