-- What a step does to the words and lists that the parts on lists and wakes speak of, and to what its seat's place says of them.
use Rattle.std.proofs.Common.{◌≡◌, ◌≢◌, ℕ, ◌+◌, ◌-◌, ◌<◌, ◌≤◌, eqb, true, false, cond, List, [], ◌∷◌, ◌++◌, get_or, set, Option, None, Some}
use mathlib.Core.Option as maybe
use lib.ListN.{get_elem?}
use Rattle.lw_core.specs.declared.view.Size.{Size}
use Rattle.lw_core.specs.declared.view.Want.{Want}
use Rattle.lw_core.specs.declared.view.Want.TheVariants as want
use Rattle.lw_core.specs.declared.view.Waiter.{Waiter}
use Rattle.lw_core.specs.Words.{Waiters, state_at, var_at, guard_at, waiting_at, sem_at, locked, release_ok, has_waiters, has_flag, set_flag, clear_flag}
use Rattle.lw_core.specs.WaitLists.{waiter, times_on, joined_by, without, taken_from, kept_from, until_free_from, lockers_from, is_empty}
use Rattle.lw_core.specs.Machine.{woken_word, fresh}
use Rattle.lw_core.specs.Stances.{Stance, Entry, hand_of, hand_list, entry_of, due_of, stance_of}

-- the lists at home
abbrev pub Homes : Type 0
Homes = List (maybe.Option Waiters)

-- the word i becomes x, which changes no flag, no waiting field and no semaphore
pub data IsStill (z : Size) (words : List ℕ) (i x : ℕ) : Type 0 where
  reads : x ≡ get_or words i 0 → IsStill z words i x
  first : i ≡ 0 → IsStill z words i x
  grants : (l : ℕ) → l < z.locks → i ≡ state_at l → has_flag locked x ≡ has_flag locked (get_or words i 0) → has_flag release_ok x ≡ has_flag release_ok (get_or words i 0) → has_flag has_waiters x ≡ has_flag has_waiters (get_or words i 0) → IsStill z words i x
  guards : (l k : ℕ) → l < z.locks → k < 4 → i ≡ guard_at l k → IsStill z words i x
  varies : (l : ℕ) → l < z.locks → i ≡ var_at l → IsStill z words i x

-- The word i becomes x, the lists at home become `after`, and the stance v of the seat becomes w
pub data Turn (z : Size) (words : List ℕ) (homes after : Homes) (i x : ℕ) (v w : Stance) : Type 0 where
  -- nothing of this
  stays : IsStill z words i x → after ≡ homes → w ≡ v → Turn z words homes after i x v w
  -- LOCKED is set, and the list is in hand
  takes : (l : ℕ) (list : Waiters) → l < z.locks → i ≡ state_at l → has_flag locked (get_or words i 0) ≡ 0 → x ≡ set_flag locked (get_or words i 0)
      → get_elem? homes l ≡ maybe.some (maybe.some list) → after ≡ set homes l maybe.none → v.hand ≡ None → w ≡ record v { hand = hand_of l list.items } → Turn z words homes after i x v w
  -- HAS_WAITERS is set, to queue
  flags : (l : ℕ) (found : List Waiter) → l < z.locks → i ≡ state_at l → x ≡ set_flag has_waiters (get_or words i 0) → after ≡ homes → v.hand ≡ hand_of l found → v.flagged ≡ None
      → w ≡ record v { flagged = Some l } → Turn z words homes after i x v w
  -- the own waiting field is stored, to queue
  announces : (p : ℕ) → p < z.procs → v.own ≡ Some p → i ≡ waiting_at z p → x ≡ 1 → after ≡ homes → v.round ≡ false → v.announced ≡ false → w ≡ record v { announced = true } → Turn z words homes after i x v w
  -- the list goes home with the seat on it
  queues : (l p : ℕ) (want : Want) (found : List Waiter) (list : Waiters) → l < z.locks → p < z.procs → v.own ≡ Some p → i ≡ state_at l → x ≡ clear_flag locked (get_or words i 0)
      → list.items ≡ joined_by (waiter p want) found → after ≡ set homes l (maybe.some list) → v.hand ≡ hand_of l found → v.flagged ≡ Some l → v.announced ≡ true → v.round ≡ false → v.queued ≡ None
      → w ≡ record v { hand = None; flagged = None; announced = false; round = true; queued = entry_of l want; due = due_of (entry_of l want) } → Turn z words homes after i x v w
  -- with the list in hand the own waiting field is read
  checks : (l p : ℕ) (want : Want) (found : List Waiter) → p < z.procs → v.own ≡ Some p → i ≡ waiting_at z p → x ≡ get_or words i 0 → after ≡ homes → v.hand ≡ hand_of l found → v.queued ≡ entry_of l want
      → v.round ≡ true → v.announced ≡ false → w ≡ record v { leaving = Some (eqb (get_or words i 0) 1) } → Turn z words homes after i x v w
  -- the list goes home without the seat, which was on it
  leaves : (l p : ℕ) (want : Want) (found : List Waiter) (list : Waiters) → l < z.locks → p < z.procs → v.own ≡ Some p → i ≡ state_at l
      → x ≡ cond (is_empty (without p found)) (clear_flag has_waiters (clear_flag locked (get_or words i 0))) (clear_flag locked (get_or words i 0)) → list.items ≡ without p found → after ≡ set homes l (maybe.some list)
      → v.hand ≡ hand_of l found → v.flagged ≡ None → v.queued ≡ entry_of l want → v.round ≡ true → v.leaving ≡ Some true → v.announced ≡ false
      → w ≡ record v { hand = None; leaving = None; round = false; queued = None; due = None; announced = true } → Turn z words homes after i x v w
  -- the list goes home as it was, and the seat wasn't on it
  was_taken : (l p : ℕ) (want : Want) (found : List Waiter) (list : Waiters) → l < z.locks → p < z.procs → v.own ≡ Some p → i ≡ state_at l
      → x ≡ cond (is_empty found) (clear_flag has_waiters (clear_flag locked (get_or words i 0))) (clear_flag locked (get_or words i 0)) → list.items ≡ found → after ≡ set homes l (maybe.some list)
      → v.hand ≡ hand_of l found → v.flagged ≡ None → v.queued ≡ entry_of l want → v.round ≡ true → v.leaving ≡ Some false → w ≡ record v { hand = None; leaving = None; queued = None } → Turn z words homes after i x v w
  -- the own waiting field is cleared
  withdraws : (p : ℕ) → p < z.procs → v.own ≡ Some p → i ≡ waiting_at z p → x ≡ 0 → after ≡ homes → v.round ≡ false → v.announced ≡ true → w ≡ record v { announced = false } → Turn z words homes after i x v w
  -- one more of those who are taken is marked
  marks : (l : ℕ) (u : Waiter) (found done rest : List Waiter) → u.proc < z.procs → i ≡ waiting_at z u.proc → x ≡ 2 → after ≡ homes → v.hand ≡ hand_of l found → v.marked ≡ done → ((p : ℕ) → times_on p (done ++ u ∷ rest) ≤ times_on p found) → v.unlisted ≡ []
      → w ≡ record v { marked = done ++ u ∷ [] } → Turn z words homes after i x v w
  -- those who are taken leave the list, which goes home
  detaches : (l : ℕ) (found : List Waiter) (list : Waiters) → l < z.locks → i ≡ state_at l → x ≡ woken_word (taken_from found) (kept_from found) (get_or words i 0) → list.items ≡ kept_from found
      → after ≡ set homes l (maybe.some list) → v.hand ≡ hand_of l found → v.flagged ≡ None → v.marked ≡ taken_from found → v.unlisted ≡ [] → v.owed ≡ [] → v.leaving ≡ None
      → w ≡ record v { hand = None; marked = []; unlisted = taken_from found; owed = taken_from found } → Turn z words homes after i x v w
  -- those at the head who wait until the lock is free leave the list, which goes home
  summons : (l : ℕ) (found : List Waiter) (list : Waiters) → l < z.locks → i ≡ state_at l → x ≡ clear_flag locked (get_or words i 0) → list.items ≡ lockers_from found → after ≡ set homes l (maybe.some list)
      → v.hand ≡ hand_of l found → v.flagged ≡ None → v.marked ≡ until_free_from found → v.unlisted ≡ [] → v.owed ≡ [] → v.leaving ≡ None
      → w ≡ record v { hand = None; marked = []; unlisted = until_free_from found; owed = until_free_from found } → Turn z words homes after i x v w
  -- the list goes home as it was
  returns : (l : ℕ) (found : List Waiter) (list : Waiters) → l < z.locks → i ≡ state_at l → x ≡ clear_flag locked (get_or words i 0) → list.items ≡ found → after ≡ set homes l (maybe.some list) → v.hand ≡ hand_of l found
      → v.flagged ≡ None → v.marked ≡ [] → v.leaving ≡ None → w ≡ record v { hand = None } → Turn z words homes after i x v w
  -- the waiting field of one who was taken is cleared
  unmarks : (u : Waiter) (us : List Waiter) → u.proc < z.procs → i ≡ waiting_at z u.proc → x ≡ 0 → after ≡ homes → v.unlisted ≡ u ∷ us → w ≡ record v { unlisted = us } → Turn z words homes after i x v w
  -- its semaphore is posted
  posts : (u : Waiter) (us : List Waiter) → u.proc < z.procs → i ≡ sem_at z u.proc → x ≡ get_or words i 0 + 1 → after ≡ homes → v.owed ≡ u ∷ us → v.unlisted ≡ us → w ≡ record v { owed = us } → Turn z words homes after i x v w
  -- the own semaphore is looked at, and isn't 0
  sees : (p : ℕ) → p < z.procs → v.own ≡ Some p → i ≡ sem_at z p → x ≡ get_or words i 0 → get_or words i 0 ≢ 0 → after ≡ homes → v.downing ≡ false → w ≡ record v { downing = true } → Turn z words homes after i x v w
  -- it is taken down, in a sleep or by a call
  sleeps_down : (p : ℕ) → p < z.procs → v.own ≡ Some p → i ≡ sem_at z p → x ≡ get_or words i 0 - 1 → after ≡ homes → v.downing ≡ true → v.between ≡ false → w ≡ record v { downing = false; between = true } → Turn z words homes after i x v w
  calls_down : (p : ℕ) → p < z.procs → v.own ≡ Some p → i ≡ sem_at z p → x ≡ get_or words i 0 - 1 → after ≡ homes → v.downing ≡ true → v.round ≡ false → w ≡ record v { downing = false; downed = v.downed ++ p ∷ [] } → Turn z words homes after i x v w
  -- the own waiting field is read after it: the sleep is over, or the wake wasn't for this
  wakes : (p : ℕ) → p < z.procs → v.own ≡ Some p → i ≡ waiting_at z p → x ≡ get_or words i 0 → get_or words i 0 ≡ 0 → after ≡ homes → v.hand ≡ None → v.leaving ≡ None → v.round ≡ true → v.between ≡ true
      → w ≡ record v { between = false; round = false; queued = None } → Turn z words homes after i x v w
  oversleeps : (p : ℕ) → p < z.procs → v.own ≡ Some p → i ≡ waiting_at z p → x ≡ get_or words i 0 → get_or words i 0 ≢ 0 → after ≡ homes → v.between ≡ true → w ≡ record v { between = false; surplus = v.surplus + 1 } → Turn z words homes after i x v w
  -- a wake is given back
  gives_back : (p : ℕ) → p < z.procs → v.own ≡ Some p → i ≡ sem_at z p → x ≡ get_or words i 0 + 1 → after ≡ homes → 0 < v.surplus → w ≡ record v { surplus = v.surplus - 1 } → Turn z words homes after i x v w
  -- RELEASE_OK is set
  answers : (l : ℕ) → l < z.locks → i ≡ state_at l → x ≡ set_flag release_ok (get_or words i 0) → after ≡ homes → v.queued ≡ None → ((k : ℕ) → v.due ≡ Some k → k ≡ l) → w ≡ record v { due = None } → Turn z words homes after i x v w
  -- RELEASE_OK is set by one who queued until the lock is free
  allows : (l : ℕ) → l < z.locks → i ≡ state_at l → x ≡ set_flag release_ok (get_or words i 0) → after ≡ homes → v.queued ≡ entry_of l want.UntilFree → w ≡ v → Turn z words homes after i x v w
  -- somebody is poked
  pokes : (q : ℕ) → q < z.procs → i ≡ sem_at z q → x ≡ get_or words i 0 + 1 → after ≡ homes → w ≡ record v { poked = v.poked ++ q ∷ [] } → Turn z words homes after i x v w

-- the stance of a seat in no call, with this number and these pokes and ended downs
abbrev pub idle : Option ℕ → List ℕ → List ℕ → Stance
idle own poked downed = record (stance_of (fresh own)) { poked = poked; downed = downed }

-- the stance of a seat that took over the pokes and downs of another
abbrev pub takes_over : Stance → List ℕ → List ℕ → Stance
takes_over v poked downed = record v { poked = v.poked ++ poked; downed = v.downed ++ downed }

-- what holds of the stance of each seat whose place fits
pub record IsSound (v : Stance) : Type 0 where
  -- those that it marked are on the list in hand
  pub marked : (p : ℕ) → times_on p v.marked ≤ times_on p (hand_list v.hand)
  -- who announced is in no round, and owes no RELEASE_OK
  pub announced : v.announced ≡ true → v.round ≡ false
  pub undue : v.announced ≡ true → v.due ≡ None
  -- who has no list in hand is leaving none, and who may be on a list takes nobody off one
  pub leaving : v.hand ≡ None → v.leaving ≡ None
  pub unmarked : (e : Entry) → v.queued ≡ Some e → v.marked ≡ []
  -- where it may be on a list it is in a round, and its ok is due unless it waits until the lock is free
  pub queued : (e : Entry) → v.queued ≡ Some e → (v.round ≡ true) × (v.due ≡ due_of (Some e))
