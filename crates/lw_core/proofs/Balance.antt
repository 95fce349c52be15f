-- The counts of the semaphores stay balanced, and bound what a seat has to give back.
use Rattle.std.proofs.Common.{◌≡◌, ◌≢◌, ℕ, ◌+◌, ◌-◌, ◌<◌, ◌≤◌, Bool, true, false, List, [], ◌∷◌, ◌++◌, length, get_or, set, Option, None, Some, sym, refl, ap, ◌∙◌, subst, arith, get_or-set_other}
use mathlib.Core.Logic.{dite}
use mathlib.Core.Option as maybe
use native.Mathlib.Decide.{ℕ_discrete}
use lib.ListN.{get_elem?}
use Rattle.std.proofs.lemmas.Grind.{get_or-set_at}
use Rattle.seat_roster.specs.Totals.{total}
use Rattle.seat_roster.specs.Roster as roster
use Rattle.seat_roster.proofs.Totals.{total_set, total_snoc, total_at, total_le, total_gap, total_both}
use Rattle.seat_roster.proofs.Numbers as numbers
use Rattle.lw_core.specs.declared.view.Size.{Size}
use Rattle.lw_core.specs.declared.view.Waiter.{Waiter}
use Rattle.lw_core.specs.Words.{Waiters, state_at, waiting_at, sem_at, word_count}
use Rattle.lw_core.specs.WaitLists.{waiter, times_on, without, kept_from, lockers_from}
use Rattle.lw_core.specs.Stances.{Stance, hand_of, hand_list, is_own, count_if, on_lists, in_round}
use Rattle.lw_core.specs.ListedOnce.{ListedOnce}
use Rattle.lw_core.specs.WakesAreConserved.{spends, earns, takes_down, WakesAreConserved}
use Rattle.lw_core.proofs.Lists.{times_joined, times_left, times_parted, times_headed}
use Rattle.lw_core.proofs.Owning.{count_most, own_here, own_else, own_all, own_more, own_less, own_nothing, in_one_round}
use Rattle.lw_core.proofs.Storing.{word_read, still_past}
use Rattle.lw_core.proofs.Turns.{Homes, IsStill, Turn, stays, takes, flags, announces, queues, checks, leaves, was_taken, withdraws, marks, detaches, summons, returns, unmarks, posts, sees, sleeps_down, calls_down, wakes, oversleeps, gives_back, answers, allows, pokes, idle, takes_over}
use Rattle.lw_core.proofs.Listing.{times_in_hand, listed_same, listed_sent, listed_out, listed_more}

-- a semaphore once one is posted, and once one is taken down
module _ (z : Size) (words : List ℕ) (i x q : ℕ) (inside : i < length words) (is_word : i ≡ sem_at z q) where
  here : (p : ℕ) → p ≡ q → get_or words (sem_at z p) 0 ≡ get_or words i 0
  here p is = ap (λ (n : ℕ). get_or words n 0) (omega arith)

  pub posted_word : x ≡ get_or words i 0 + 1 → (p : ℕ) → get_or (set words i x) (sem_at z p) 0 ≡ get_or words (sem_at z p) 0 + is_own p (Some q)
  posted_word is_x p = dite (ℕ_discrete p q)
      (λ is. let one = own_here p q (Some q) refl is in let was = here p is in let now = get_or-set_at words i (sem_at z p) x 0 (omega arith) inside in omega arith)
      (λ ne. let none = own_else p q (Some q) refl ne in let there = get_or-set_other words i (sem_at z p) x 0 (λ e. ne (omega arith)) in omega arith)

  pub lowered_word : x ≡ get_or words i 0 - 1 → 1 ≤ get_or words i 0 → (p : ℕ) → get_or (set words i x) (sem_at z p) 0 + is_own p (Some q) ≡ get_or words (sem_at z p) 0
  lowered_word is_x some p = dite (ℕ_discrete p q)
      (λ is. let one = own_here p q (Some q) refl is in let was = here p is in let now = get_or-set_at words i (sem_at z p) x 0 (omega arith) inside in omega arith)
      (λ ne. let none = own_else p q (Some q) refl ne in let there = get_or-set_other words i (sem_at z p) x 0 (λ e. ne (omega arith)) in omega arith)

-- these words have the same semaphores
abbrev pub HasSameSems : Size → List ℕ → List ℕ → Type 0
HasSameSems z words others = (p : ℕ) → get_or others (sem_at z p) 0 ≡ get_or words (sem_at z p) 0

module _ (z : Size) (words : List ℕ) (i x : ℕ) where
  sems_read : x ≡ get_or words i 0 → HasSameSems z words (set words i x)
  sems_read is p = word_read words i x (sem_at z p) is

  sems_state : (l : ℕ) → l < z.locks → i ≡ state_at l → HasSameSems z words (set words i x)
  sems_state l below is p = get_or-set_other words i (sem_at z p) x 0 (λ e. omega arith)

  sems_waiting : (q : ℕ) → i ≡ waiting_at z q → HasSameSems z words (set words i x)
  sems_waiting q is p = get_or-set_other words i (sem_at z p) x 0 (λ e. omega arith)

  sems_still : IsStill z words i x → HasSameSems z words (set words i x)
  sems_still still p = still_past z words i x (sem_at z p) still (omega arith)

-- the bounds
module _ (z : Size) (words : List ℕ) (homes : Homes) (seats : List Stance) (was : WakesAreConserved z words homes seats) where
  -- who will take its semaphore down finds one there
  pub down_there : (id p : ℕ) (v : Stance) → get_elem? seats id ≡ maybe.some v → v.own ≡ Some p → p < z.procs → v.downing ≡ true → 1 ≤ get_or words (sem_at z p) 0
  down_there id p v at own below down = let there = was.there p below in let mine = total_at (takes_down p) seats id v at in let one = own_here p p v.own own refl in
      let is : takes_down p v ≡ is_own p v.own = ap (λ (b : Bool). count_if b (is_own p v.own)) down in omega arith

  module _ (alone : (p : ℕ) → total (λ (u : Stance). is_own p u.own) seats ≤ 1) where
    -- what is earned for p, where few were poked
    pub earned_most : (most : ℕ) → total (λ (u : Stance). length u.poked) seats ≤ most → (p : ℕ) → total (earns p) seats ≤ most + 1
    earned_most most few p = let round = in_one_round seats alone p in let both = total_both (λ (u : Stance). roster.times p u.poked) (in_round p) seats in
        let pokes = total_le (λ (u : Stance). roster.times p u.poked) (λ (u : Stance). length u.poked) seats (λ i u e. numbers.times_most p u.poked) in omega arith

    pub sem_bound : (most : ℕ) → total (λ (u : Stance). length u.poked) seats ≤ most → (p : ℕ) → p < z.procs → get_or words (sem_at z p) 0 ≤ most + 1
    sem_bound most few p below = let all = earned_most most few p in let sum = was.balance p below in omega arith

    pub surplus_bound : (most : ℕ) → total (λ (u : Stance). length u.poked) seats ≤ most → (id p : ℕ) (v : Stance) → get_elem? seats id ≡ maybe.some v → v.own ≡ Some p → p < z.procs → v.surplus ≤ most + 1
    surplus_bound most few id p v at own below = let all = earned_most most few p in let sum = was.balance p below in let mine = total_at (spends p) seats id v at in let is = own_all p v.surplus v.own own in omega arith

-- a stance without what the balance doesn't read
abbrev sight : Stance → Stance
sight u = record u { flagged = None; announced = false; queued = None; leaving = None; due = None; marked = []; unlisted = [] }

module _ (z : Size) (words : List ℕ) (homes : Homes) (seats : List Stance) (long : length words ≡ word_count z) (slots : length homes ≡ z.locks) (alone : (p : ℕ) → total (λ (u : Stance). is_own p u.own) seats ≤ 1)
    (listed_once : ListedOnce z.locks homes seats) (was : WakesAreConserved z words homes seats)
    (out : (j l : ℕ) (u : Stance) (found : List Waiter) → get_elem? seats j ≡ maybe.some u → l < z.locks → u.hand ≡ hand_of l found → get_elem? homes l ≡ maybe.some maybe.none) where
  module _ (id : ℕ) (v : Stance) (at : get_elem? seats id ≡ maybe.some v) (i x : ℕ) where
    abbrev Kept : Homes → Stance → Type 0
    Kept after w = WakesAreConserved z (set words i x) after (set seats id w)

    -- the lists and the stance after the turn are given by equations
    by : (after a : Homes) (w u : Stance) → after ≡ a → w ≡ u → Kept a u → Kept after w
    by after a w u same is = subst (λ (t : Homes × Stance). Kept t.0 t.1) (λ i. (sym same i, sym is i))

    -- the sums of the seat move alike on both sides
    moved : (after : Homes) (w : Stance)
        → ((p : ℕ) → p < z.procs → get_or (set words i x) (sem_at z p) 0 + (spends p w + (on_lists p after (set seats id w) + earns p v)) ≡ get_or words (sem_at z p) 0 + (spends p v + (on_lists p homes seats + earns p w)))
        → ((p : ℕ) → p < z.procs → total (takes_down p) seats + takes_down p w ≤ get_or (set words i x) (sem_at z p) 0 + takes_down p v) → Kept after w
    moved after w even enough = record {
      balance = λ p below. let old = was.balance p below in let equal = even p below in let a = total_set (spends p) seats id v w at in let b = total_set (earns p) seats id v w at in omega arith;
      there = λ p below. let most = enough p below in let a = total_set (takes_down p) seats id v w at in omega arith;
    }

    -- no semaphore changes
    quiet : (after : Homes) (w : Stance) → HasSameSems z words (set words i x) → ((p : ℕ) → spends p w + (on_lists p after (set seats id w) + earns p v) ≡ spends p v + (on_lists p homes seats + earns p w))
        → ((p : ℕ) → takes_down p w ≤ takes_down p v) → Kept after w
    quiet after w sems even downs = moved after w (λ p _. let same = sems p in let equal = even p in omega arith) (λ p below. let same = sems p in let old = was.there p below in let fewer = downs p in omega arith)

    -- and no list moves
    within : (w : Stance) → HasSameSems z words (set words i x) → hand_list w.hand ≡ hand_list v.hand → ((p : ℕ) → takes_down p w ≤ takes_down p v) → ((p : ℕ) → spends p w + earns p v ≡ spends p v + earns p w) → Kept homes w
    within w sems hands downs even = quiet homes w sems (λ p. let same = listed_same homes seats id v w at p (ap (times_on p) hands) in let equal = even p in omega arith) downs

    -- and nothing changes that the balance reads of the seat
    aside : (w : Stance) → HasSameSems z words (set words i x) → sight w ≡ sight v → Kept homes w
    aside w sems same = within w sems (ap (λ (u : Stance). hand_list u.hand) same) (λ p. let a : takes_down p w ≡ takes_down p v = ap (takes_down p) same in omega arith)
        (λ p. let a : spends p w ≡ spends p v = ap (spends p) same in let b : earns p w ≡ earns p v = ap (earns p) same in omega arith)

    -- the list of l leaves its slot
    taken : (l : ℕ) (list : Waiters) → l < z.locks → i ≡ state_at l → get_elem? homes l ≡ maybe.some (maybe.some list) → v.hand ≡ None → Kept (set homes l maybe.none) record v { hand = hand_of l list.items }
    taken l list below is_i home empty = let w : Stance = record v { hand = hand_of l list.items } in quiet (set homes l maybe.none) w (sems_state z words i x l below is_i)
        (λ p. let same = listed_out homes seats id v w at p l list home empty refl in omega arith) (λ p. omega arith)

    -- the list in hand goes home, changed as the sums of the seat are
    sent : (l : ℕ) (found : List Waiter) (list : Waiters) (w : Stance) → l < z.locks → i ≡ state_at l → v.hand ≡ hand_of l found → w.hand ≡ None → ((p : ℕ) → takes_down p w ≤ takes_down p v)
        → ((p : ℕ) → spends p w + (times_on p list.items + earns p v) ≡ spends p v + (times_on p found + earns p w)) → Kept (set homes l (maybe.some list)) w
    sent l found list w below is_i hand empty downs even = quiet (set homes l (maybe.some list)) w (sems_state z words i x l below is_i)
        (λ p. let home = listed_sent homes seats id v w at p l found list (out id l v found at below hand) hand empty in let equal = even p in omega arith) downs

    -- a semaphore changes, and no list moves
    in_sem : (w : Stance) → hand_list w.hand ≡ hand_list v.hand → ((q : ℕ) → get_or (set words i x) (sem_at z q) 0 + (spends q w + earns q v) ≡ get_or words (sem_at z q) 0 + (spends q v + earns q w))
        → ((q : ℕ) → q < z.procs → total (takes_down q) seats + takes_down q w ≤ get_or (set words i x) (sem_at z q) 0 + takes_down q v) → Kept homes w
    in_sem w hands even enough = moved homes w (λ q _. let same = listed_same homes seats id v w at q (ap (times_on q) hands) in let equal = even q in omega arith) enough

    -- that of p is posted
    posted : (p : ℕ) (w : Stance) → p < z.procs → i ≡ sem_at z p → x ≡ get_or words i 0 + 1 → hand_list w.hand ≡ hand_list v.hand → ((q : ℕ) → takes_down q w ≤ takes_down q v)
        → ((q : ℕ) → spends q w + (earns q v + is_own q (Some p)) ≡ spends q v + earns q w) → Kept homes w
    posted p w below is_i is_x hands downs even = in_sem w hands (λ q. let more = posted_word z words i x p (omega arith) is_i is_x q in let equal = even q in omega arith)
        (λ q under. let more = posted_word z words i x p (omega arith) is_i is_x q in let old = was.there q under in let fewer = downs q in omega arith)

    -- the own one is taken down
    lowered : (p : ℕ) (w : Stance) → p < z.procs → v.own ≡ Some p → i ≡ sem_at z p → x ≡ get_or words i 0 - 1 → v.downing ≡ true → w.downing ≡ false → hand_list w.hand ≡ hand_list v.hand
        → ((q : ℕ) → is_own q v.own ≡ is_own q (Some p) → spends q w + earns q v ≡ spends q v + (earns q w + is_own q (Some p))) → Kept homes w
    lowered p w below own is_i is_x down done hands even = in_sem w hands (λ q. let less = lowered_word z words i x p (omega arith) is_i is_x some q in let equal = even q (ap (is_own q) own) in omega arith)
        (λ q under. let less = lowered_word z words i x p (omega arith) is_i is_x some q in let old = was.there q under in let mine = ap (is_own q) own in
        let one : takes_down q v ≡ is_own q v.own = ap (λ (b : Bool). count_if b (is_own q v.own)) down in let none : takes_down q w ≡ 0 = ap (λ (b : Bool). count_if b (is_own q w.own)) done in omega arith)
      where
        some : 1 ≤ get_or words i 0
        some = let is = down_there z words homes seats was id p v at own below down in let same : get_or words (sem_at z p) 0 ≡ get_or words i 0 = ap (λ (n : ℕ). get_or words n 0) (sym is_i) in omega arith

    -- the own one isn't 0, and will be taken down
    found_there : (p : ℕ) (w : Stance) → p < z.procs → v.own ≡ Some p → i ≡ sem_at z p → x ≡ get_or words i 0 → get_or words i 0 ≢ 0 → v.downing ≡ false → w ≡ record v { downing = true } → Kept homes w
    found_there p w below own is_i is_x some down is = in_sem w (ap (λ (u : Stance). hand_list u.hand) is)
        (λ q. let kept = sems_read z words i x is_x q in let a : spends q w ≡ spends q v = ap (spends q) is in let b : earns q w ≡ earns q v = ap (earns q) is in omega arith)
        (λ q under. let kept = sems_read z words i x is_x q in let old = was.there q under in let mine = ap (is_own q) own in
        let none : takes_down q v ≡ 0 = ap (λ (b : Bool). count_if b (is_own q v.own)) down in let one : takes_down q w ≡ is_own q v.own = ap (takes_down q) is in dite (ℕ_discrete q p)
        (λ e. let yes = own_here q p (Some p) refl e in let gap = total_gap (takes_down q) (λ (u : Stance). is_own q u.own) seats id v (λ _ u _. count_most u.downing (is_own q u.own)) at in let most = alone q in
        let there : get_or words (sem_at z q) 0 ≡ get_or words i 0 = ap (λ (n : ℕ). get_or words n 0) (omega arith) in omega arith)
        (λ ne. let no = own_else q p (Some p) refl ne in omega arith))

    turned : (after : Homes) (w : Stance) → Turn z words homes after i x v w → Kept after w
    turned after w (stays still same is) = by _ _ _ _ same is (aside v (sems_still z words i x still) refl)
    turned after w (takes l list below is_i _ _ home same empty is) = by _ _ _ _ same is (taken l list below is_i home empty)
    turned after w (flags l found below is_i _ same hand _ is) = by _ _ _ _ same is (aside _ (sems_state z words i x l below is_i) refl)
    turned after w (announces p below own is_i _ same _ _ is) = by _ _ _ _ same is (aside _ (sems_waiting z words i x p is_i) refl)
    turned after w (queues l p want found list below under own is_i _ items same hand _ _ round _ is) = by _ _ _ _ same is (sent l found list _ below is_i hand refl (λ q. omega arith)
        (λ q. let more : times_on q list.items ≡ times_on q found + is_own q (Some p) = ap (times_on q) items ∙ times_joined q (waiter p want) found in let mine = ap (is_own q) own in
        let none : in_round q v ≡ 0 = ap (λ (b : Bool). count_if b (is_own q v.own)) round in omega arith))
    turned after w (checks l p want found under own is_i is_x same hand _ _ _ is) = by _ _ _ _ same is (aside _ (sems_read z words i x is_x) refl)
    turned after w (leaves l p want found list below under own is_i _ items same hand _ _ round leaving _ is) = by _ _ _ _ same is (sent l found list _ below is_i hand refl (λ q. omega arith)
        (λ q. let rest : times_on q list.items ≡ times_on q (without p found) = ap (times_on q) items in let mine = ap (is_own q) own in let one : in_round q v ≡ is_own q v.own = ap (λ (b : Bool). count_if b (is_own q v.own)) round in
        let fewer = times_left p found (sym (times_in_hand p v (hand_of l found) hand) ∙ (listed_once.leaves id v at true p leaving own).0 refl) q in omega arith))
    turned after w (was_taken l p want found list below under own is_i _ items same hand _ _ _ _ is) = by _ _ _ _ same is (sent l found list _ below is_i hand refl (λ q. omega arith)
        (λ q. let all : times_on q list.items ≡ times_on q found = ap (times_on q) items in omega arith))
    turned after w (withdraws p below own is_i _ same _ _ is) = by _ _ _ _ same is (aside _ (sems_waiting z words i x p is_i) refl)
    turned after w (marks l u found done rest below is_i _ same hand _ _ _ is) = by _ _ _ _ same is (aside _ (sems_waiting z words i x u.proc is_i) refl)
    turned after w (detaches l found list below is_i _ items same hand _ _ _ owed _ is) = by _ _ _ _ same is (sent l found list _ below is_i hand refl (λ q. omega arith)
        (λ q. let rest : times_on q list.items ≡ times_on q (kept_from found) = ap (times_on q) items in let parted = times_parted q found in let none : times_on q v.owed ≡ 0 = ap (times_on q) owed in omega arith))
    turned after w (summons l found list below is_i _ items same hand _ _ _ owed _ is) = by _ _ _ _ same is (sent l found list _ below is_i hand refl (λ q. omega arith)
        (λ q. let rest : times_on q list.items ≡ times_on q (lockers_from found) = ap (times_on q) items in let parted = times_headed q found in let none : times_on q v.owed ≡ 0 = ap (times_on q) owed in omega arith))
    turned after w (returns l found list below is_i _ items same hand _ _ _ is) = by _ _ _ _ same is (sent l found list _ below is_i hand refl (λ q. omega arith)
        (λ q. let all : times_on q list.items ≡ times_on q found = ap (times_on q) items in omega arith))
    turned after w (unmarks u us below is_i _ same _ is) = by _ _ _ _ same is (aside _ (sems_waiting z words i x u.proc is_i) refl)
    turned after w (posts u us below is_i is_x same owed _ is) = by _ _ _ _ same is (posted u.proc _ below is_i is_x refl (λ q. omega arith)
        (λ q. let one : times_on q v.owed ≡ is_own q (Some u.proc) + times_on q us = ap (times_on q) owed in omega arith))
    turned after w (sees p below own is_i is_x some same down is) = by _ _ _ _ same refl (found_there p w below own is_i is_x some down is)
    turned after w (sleeps_down p below own is_i is_x same down between is) = by _ _ _ _ same is (lowered p _ below own is_i is_x down refl refl
        (λ q mine. let none : count_if v.between (is_own q v.own) ≡ 0 = ap (λ (b : Bool). count_if b (is_own q v.own)) between in omega arith))
    turned after w (calls_down p below own is_i is_x same down _ is) = by _ _ _ _ same is (lowered p _ below own is_i is_x down refl refl (λ q mine. let more = numbers.times_append q v.downed (p ∷ []) in omega arith))
    turned after w (wakes p below own is_i is_x _ same _ _ round between is) = by _ _ _ _ same is (within _ (sems_read z words i x is_x) refl (λ q. omega arith)
        (λ q. let slept : count_if v.between (is_own q v.own) ≡ is_own q v.own = ap (λ (b : Bool). count_if b (is_own q v.own)) between in
        let one : in_round q v ≡ is_own q v.own = ap (λ (b : Bool). count_if b (is_own q v.own)) round in omega arith))
    turned after w (oversleeps p below own is_i is_x _ same between is) = by _ _ _ _ same is (within _ (sems_read z words i x is_x) refl (λ q. omega arith)
        (λ q. let slept : count_if v.between (is_own q v.own) ≡ is_own q v.own = ap (λ (b : Bool). count_if b (is_own q v.own)) between in let more = own_more q v.surplus v.own in omega arith))
    turned after w (gives_back p below own is_i is_x same some is) = by _ _ _ _ same is (posted p _ below is_i is_x refl (λ q. omega arith)
        (λ q. let mine = ap (is_own q) own in let less = own_less q v.surplus v.own some in omega arith))
    turned after w (answers l below is_i _ same _ _ is) = by _ _ _ _ same is (aside _ (sems_state z words i x l below is_i) refl)
    turned after w (allows l below is_i _ same _ is) = by _ _ _ _ same is (aside v (sems_state z words i x l below is_i) refl)
    turned after w (pokes q below is_i is_x same is) = by _ _ _ _ same is (posted q _ below is_i is_x refl (λ p. omega arith) (λ p. let more = numbers.times_append p v.poked (q ∷ []) in omega arith))

  pub wakes_turn : (id : ℕ) (v : Stance) → get_elem? seats id ≡ maybe.some v → (after : Homes) (i x : ℕ) (w : Stance) → Turn z words homes after i x v w → WakesAreConserved z (set words i x) after (set seats id w)
  wakes_turn id v at after i x w t = turned id v at i x after w t

module _ (z : Size) (words : List ℕ) (homes : Homes) (seats : List Stance) where
  -- a seat comes
  pub wakes_added : (own : Option ℕ) → WakesAreConserved z words homes seats → WakesAreConserved z words homes (seats ++ idle own [] [] ∷ [])
  wakes_added own was = let u : Stance = idle own [] [] in record {
    balance = λ p below. let old = was.balance p below in let a = total_snoc (spends p) seats u in let b = total_snoc (earns p) seats u in let c = listed_more p homes seats own in let none = own_nothing p own in omega arith;
    there = λ p below. let old = was.there p below in let a = total_snoc (takes_down p) seats u in omega arith;
  }

  -- a seat in no call is spent, and another takes over its pokes and ended downs
  pub wakes_joined : (id other : ℕ) (v : Stance) (own : Option ℕ) (poked downed : List ℕ) → get_elem? seats id ≡ maybe.some v → get_elem? (set seats id (takes_over v poked downed)) other ≡ maybe.some (idle own poked downed)
      → WakesAreConserved z words homes seats → WakesAreConserved z words homes (set (set seats id (takes_over v poked downed)) other (idle None [] []))
  wakes_joined id other v own poked downed at there was =
      let both : Stance = takes_over v poked downed in let spent : Stance = idle None [] [] in let gone : Stance = idle own poked downed in let halfway : List Stance = set seats id both in record {
        balance = λ p below. let old = was.balance p below in
            let a = total_set (spends p) seats id v both at in let b = total_set (earns p) seats id v both at in let c = listed_same homes seats id v both at p refl in
            let d = total_set (spends p) halfway other gone spent there in let e = total_set (earns p) halfway other gone spent there in let f = listed_same homes halfway other gone spent there p refl in
            let g = numbers.times_append p v.poked poked in let h = numbers.times_append p v.downed downed in let none = own_nothing p own in omega arith;
        there = λ p below. let old = was.there p below in let a = total_set (takes_down p) seats id v both at in let b = total_set (takes_down p) halfway other gone spent there in omega arith;
      }
