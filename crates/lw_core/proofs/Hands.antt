-- LOCKED says who has a lock's list in hand: what follows from it, and that each turn keeps it.
use Rattle.std.proofs.Common.{◌≡◌, ◌≢◌, ℕ, ◌<◌, Bool, true, false, cond, List, [], ◌∷◌, ◌++◌, length, get_or, set, Option, None, Some, sym, refl, ap, ◌∙◌, subst, arith, get_or-set_other, get_or-set_same}
use mathlib.Core.Logic.{dite}
use mathlib.Core.Option as maybe
use native.Mathlib.Decide.{ℕ_discrete}
use lib.ListN.{get_elem?}
use Rattle.atomic_table.proofs.Lists.{set_here, set_else}
use Rattle.seat_roster.specs.Totals.{total}
use Rattle.seat_roster.proofs.Totals.{total_set, total_snoc, total_at, total_two}
use Rattle.seat_roster.proofs.Stretches.{each_set, each_more}
use Rattle.lw_core.specs.declared.view.Size.{Size}
use Rattle.lw_core.specs.declared.view.Waiter.{Waiter}
use Rattle.lw_core.specs.Words.{Waiters, state_at, word_count, locked, has_waiters, has_flag, set_flag, clear_flag}
use Rattle.lw_core.specs.WaitLists.{taken_from, kept_from}
use Rattle.lw_core.specs.Stances.{Hand, Stance, hand_of, has_hand, has_list}
use Rattle.lw_core.specs.ListInOneHand.{ListInOneHand, HandsInside}
use Rattle.lw_core.proofs.Flags.{flag_most, flag_set, flag_cleared, set_keeps, woken_unlocked}
use Rattle.lw_core.proofs.Storing.{KeepsFlag, flag_kept, still_keeps}
use Rattle.lw_core.proofs.Owning.{hand_here, hand_else}
use Rattle.lw_core.proofs.Turns.{Homes, Turn, stays, takes, flags, announces, queues, checks, leaves, was_taken, withdraws, marks, detaches, summons, returns, unmarks, posts, sees, sleeps_down, calls_down, wakes, oversleeps, gives_back, answers, allows, pokes, idle, takes_over}

abbrev pub hand_in : Stance → Option Hand
hand_in v = v.hand

-- the word after the list went home
pub home_unlocked : (none : Bool) (n : ℕ) → has_flag locked (cond none (clear_flag has_waiters (clear_flag locked n)) (clear_flag locked n)) ≡ 0
home_unlocked true n = omega arith
home_unlocked false n = omega arith

module _ (z : Size) (words : List ℕ) (homes : Homes) (seats : List Stance) (long : length words ≡ word_count z) (slots : length homes ≡ z.locks)
    (hands : (l : ℕ) → l < z.locks → ListInOneHand l (get_or words (state_at l) 0) (get_elem? homes l) seats) where
  -- a seat that has a list in hand: LOCKED is set, and the list is out of its slot
  pub locked_here : (id l : ℕ) (v : Stance) (found : List Waiter) → get_elem? seats id ≡ maybe.some v → l < z.locks → v.hand ≡ hand_of l found → has_flag locked (get_or words (state_at l) 0) ≡ 1
  locked_here id l v found at below mine = let one = (hands l below).one in let part = total_at (has_list l) seats id v at in let here = hand_here (λ _. 1) l l v.hand found mine refl in
      let most = flag_most locked (get_or words (state_at l) 0) in omega arith

  pub home_out : (id l : ℕ) (v : Stance) (found : List Waiter) → get_elem? seats id ≡ maybe.some v → l < z.locks → v.hand ≡ hand_of l found → get_elem? homes l ≡ maybe.some maybe.none
  home_out id l v found at below mine = (hands l below).out (locked_here id l v found at below mine)

  -- nobody else has it
  pub alone_with : (id j l : ℕ) (v u : Stance) (found : List Waiter) → get_elem? seats id ≡ maybe.some v → get_elem? seats j ≡ maybe.some u → j ≢ id → l < z.locks → v.hand ≡ hand_of l found → has_list l u ≡ 0
  alone_with id j l v u found at at' ne below mine = let one = (hands l below).one in let two = total_two (has_list l) seats id j v u ne at at' in let here = hand_here (λ _. 1) l l v.hand found mine refl in
      let most = flag_most locked (get_or words (state_at l) 0) in omega arith

  module _ (id : ℕ) (v : Stance) (at : get_elem? seats id ≡ maybe.some v) (after : Homes) (i x : ℕ) (w : Stance) where
    abbrev Kept : ℕ → Type 0
    Kept l = ListInOneHand l (get_or (set words i x) (state_at l) 0) (get_elem? after l) (set seats id w)

    -- what this part sees of the lock l stays
    unseen : (l : ℕ) → l < z.locks → has_flag locked (get_or (set words i x) (state_at l) 0) ≡ has_flag locked (get_or words (state_at l) 0) → get_elem? after l ≡ get_elem? homes l → has_list l w ≡ has_list l v → Kept l
    unseen l below word home hand = let h = hands l below in let one = h.one in let sum = total_set (has_list l) seats id v w at in record {
      one = omega arith;
      out = λ e. home ∙ h.out (sym word ∙ e);
      at_home = λ e. let there = h.at_home (sym word ∙ e) in (there.0, home ∙ there.1);
    }

    -- no list moves
    same : KeepsFlag locked z words i x → after ≡ homes → w.hand ≡ v.hand → (l : ℕ) → l < z.locks → Kept l
    same keeps stay hand l below = unseen l below (flag_kept locked z words i x long keeps l below) (ap (λ (o : Homes). get_elem? o l) stay) (ap (has_hand l) hand)

    -- the list of k moves
    module _ (k : ℕ) (inside : k < z.locks) (is : i ≡ state_at k) where
      moved : (o : maybe.Option Waiters) → after ≡ set homes k o → ((l : ℕ) → l ≢ k → has_list l w ≡ has_list l v) → ListInOneHand k x (maybe.some o) (set seats id w)
          → (l : ℕ) → l < z.locks → Kept l
      moved o goes else here l below = dite (ℕ_discrete l k)
          (λ (e : l ≡ k). let word : get_or (set words i x) (state_at k) 0 ≡ x = ap (λ (j : ℕ). get_or (set words i x) j 0) (sym is) ∙ get_or-set_same words i x 0 (omega arith) in
          let home : get_elem? after k ≡ maybe.some o = ap (λ (a : Homes). get_elem? a k) goes ∙ set_here homes k o (omega arith) in
          subst (λ (j : ℕ). Kept j) (sym e) (subst (λ (n : ℕ). ListInOneHand k n (get_elem? after k) (set seats id w)) (sym word)
          (subst (λ (h : maybe.Option (maybe.Option Waiters)). ListInOneHand k x h (set seats id w)) (sym home) here)))
          (λ (ne : l ≢ k). let word = get_or-set_other words i (state_at l) x 0 (λ e. ne (omega arith)) in
          unseen l below (ap (has_flag locked) word) (ap (λ (a : Homes). get_elem? a l) goes ∙ set_else homes k l o ne) (else l ne))

      -- it is taken in hand
      taken : (list : Waiters) → has_flag locked (get_or words i 0) ≡ 0 → x ≡ set_flag locked (get_or words i 0) → after ≡ set homes k maybe.none → v.hand ≡ None → w.hand ≡ hand_of k list.items
          → (l : ℕ) → l < z.locks → Kept l
      taken list clear to goes free mine = let now : has_flag locked x ≡ 1 = ap (has_flag locked) to ∙ flag_set 28 (get_or words i 0) in
          moved maybe.none goes (λ l ne. hand_else (λ _. 1) l k w.hand list.items mine ne ∙ sym (ap (has_hand l) free)) record {
            one = let one = (hands k inside).one in let before : has_flag locked (get_or words (state_at k) 0) ≡ 0 = ap (λ (j : ℕ). has_flag locked (get_or words j 0)) (sym is) ∙ clear in
                let none = ap (has_hand k) free in let here = hand_here (λ _. 1) k k w.hand list.items mine refl in let sum = total_set (has_list k) seats id v w at in omega arith;
            out = λ e. refl;
            at_home = λ e. absurd (omega arith);
          }

      -- it goes home
      sent : (found : List Waiter) (list : Waiters) → has_flag locked x ≡ 0 → after ≡ set homes k (maybe.some list) → v.hand ≡ hand_of k found → w.hand ≡ None → (l : ℕ) → l < z.locks → Kept l
      sent found list clear goes mine free = moved (maybe.some list) goes (λ l ne. ap (has_hand l) free ∙ sym (hand_else (λ _. 1) l k v.hand found mine ne)) record {
        one = let one = (hands k inside).one in let set_before = locked_here id k v found at inside mine in let here = hand_here (λ _. 1) k k v.hand found mine refl in let none = ap (has_hand k) free in
            let sum = total_set (has_list k) seats id v w at in omega arith;
        out = λ e. absurd (omega arith);
        at_home = λ e. (list, refl);
      }

    pub hands_turn : Turn z words homes after i x v w → (l : ℕ) → l < z.locks → ListInOneHand l (get_or (set words i x) (state_at l) 0) (get_elem? after l) (set seats id w)
    hands_turn (stays still stay is) = same (still_keeps z words i x still).0 stay (ap hand_in is)
    hands_turn (takes k list inside at_k clear to home goes free is) = taken k inside at_k list clear to goes free (ap hand_in is)
    hands_turn (flags k found inside at_k to stay mine none is) = same (λ l below e. ap (has_flag locked) to ∙ set_keeps 30 28 (get_or words i 0) refl) stay (ap hand_in is)
    hands_turn (announces p few own at_p to stay round none is) = same (λ l below e. absurd (omega arith)) stay (ap hand_in is)
    hands_turn (queues k p want found list inside few own at_k to items goes mine flagged announced round none is) =
        sent k inside at_k found list (ap (has_flag locked) to ∙ flag_cleared 28 (get_or words i 0)) goes mine (ap hand_in is)
    hands_turn (checks k p want found few own at_p to stay mine queued round none is) = same (λ l below e. ap (has_flag locked) to) stay (ap hand_in is)
    hands_turn (leaves k p want found list inside few own at_k to items goes mine flagged queued round leaving none is) =
        sent k inside at_k found list (ap (has_flag locked) to ∙ home_unlocked _ (get_or words i 0)) goes mine (ap hand_in is)
    hands_turn (was_taken k p want found list inside few own at_k to items goes mine flagged queued round leaving is) =
        sent k inside at_k found list (ap (has_flag locked) to ∙ home_unlocked _ (get_or words i 0)) goes mine (ap hand_in is)
    hands_turn (withdraws p few own at_p to stay round announced is) = same (λ l below e. absurd (omega arith)) stay (ap hand_in is)
    hands_turn (marks k u found done rest few at_p to stay mine marked on_list none is) = same (λ l below e. absurd (omega arith)) stay (ap hand_in is)
    hands_turn (detaches k found list inside at_k to items goes mine flagged marked unlisted owed leaving is) =
        sent k inside at_k found list (ap (has_flag locked) to ∙ woken_unlocked (taken_from found) (kept_from found) (get_or words i 0)) goes mine (ap hand_in is)
    hands_turn (summons k found list inside at_k to items goes mine flagged marked unlisted owed leaving is) =
        sent k inside at_k found list (ap (has_flag locked) to ∙ flag_cleared 28 (get_or words i 0)) goes mine (ap hand_in is)
    hands_turn (returns k found list inside at_k to items goes mine flagged marked leaving is) = sent k inside at_k found list (ap (has_flag locked) to ∙ flag_cleared 28 (get_or words i 0)) goes mine (ap hand_in is)
    hands_turn (unmarks u us few at_p to stay unlisted is) = same (λ l below e. absurd (omega arith)) stay (ap hand_in is)
    hands_turn (posts u us few at_p to stay owed cleared is) = same (λ l below e. absurd (omega arith)) stay (ap hand_in is)
    hands_turn (sees p few own at_p to some stay none is) = same (λ l below e. ap (has_flag locked) to) stay (ap hand_in is)
    hands_turn (sleeps_down p few own at_p to stay downing between is) = same (λ l below e. absurd (omega arith)) stay (ap hand_in is)
    hands_turn (calls_down p few own at_p to stay downing apart is) = same (λ l below e. absurd (omega arith)) stay (ap hand_in is)
    hands_turn (wakes p few own at_p to zero_is stay free leaving round between is) = same (λ l below e. ap (has_flag locked) to) stay (ap hand_in is)
    hands_turn (oversleeps p few own at_p to some stay between is) = same (λ l below e. ap (has_flag locked) to) stay (ap hand_in is)
    hands_turn (gives_back p few own at_p to stay some is) = same (λ l below e. absurd (omega arith)) stay (ap hand_in is)
    hands_turn (answers k inside at_k to stay queued due is) = same (λ l below e. ap (has_flag locked) to ∙ set_keeps 29 28 (get_or words i 0) refl) stay (ap hand_in is)
    hands_turn (allows k inside at_k to stay queued is) = same (λ l below e. ap (has_flag locked) to ∙ set_keeps 29 28 (get_or words i 0) refl) stay (ap hand_in is)
    hands_turn (pokes q few at_q to stay is) = same (λ l below e. absurd (omega arith)) stay (ap hand_in is)

-- the seats change, and not how many have the list in hand
hands_same : (l word : ℕ) (home : maybe.Option (maybe.Option Waiters)) (seats others : List Stance) → total (has_list l) others ≡ total (has_list l) seats → ListInOneHand l word home seats → ListInOneHand l word home others
hands_same l word home seats others same h = record { one = h.one ∙ sym same; out = h.out; at_home = h.at_home }

-- a seat comes that has nothing in hand
pub hands_more : (l word : ℕ) (home : maybe.Option (maybe.Option Waiters)) (seats : List Stance) (own : Option ℕ) → ListInOneHand l word home seats → ListInOneHand l word home (seats ++ idle own [] [] ∷ [])
hands_more l word home seats own h = let sum = total_snoc (has_list l) seats (idle own [] []) in hands_same l word home seats (seats ++ idle own [] [] ∷ []) (omega arith) h

-- a seat takes over the pokes and downs of another in no call
pub hands_joined : (l word : ℕ) (home : maybe.Option (maybe.Option Waiters)) (seats : List Stance) (id other : ℕ) (v : Stance) (own : Option ℕ) (poked downed : List ℕ) → get_elem? seats id ≡ maybe.some v
    → get_elem? (set seats id (takes_over v poked downed)) other ≡ maybe.some (idle own poked downed) → ListInOneHand l word home seats
    → ListInOneHand l word home (set (set seats id (takes_over v poked downed)) other (idle None [] []))
hands_joined l word home seats id other v own poked downed at there h = let sum = total_set (has_list l) seats id v (takes_over v poked downed) at in
    let sum' = total_set (has_list l) (set seats id (takes_over v poked downed)) other (idle own poked downed) (idle None [] []) there in
    hands_same l word home seats (set (set seats id (takes_over v poked downed)) other (idle None [] [])) (omega arith) h

-- THE LOCKS IN HAND. A list is taken in hand of a lock of the table alone
abbrev IsInside : ℕ → Stance → Type 0
IsInside locks u = (h : Hand) → u.hand ≡ Some h → h.lock < locks

module _ (z : Size) (words : List ℕ) (homes : Homes) (seats : List Stance) (was : HandsInside z.locks seats) (id : ℕ) (v : Stance) (at : get_elem? seats id ≡ maybe.some v) (after : Homes) (i x : ℕ) (w : Stance) where
  inside_set : IsInside z.locks w → HandsInside z.locks (set seats id w)
  inside_set mine j u h at_j = each_set (IsInside z.locks) seats id w (λ j u e h. was j u h e) mine j u at_j h

  inside_same : w.hand ≡ v.hand → HandsInside z.locks (set seats id w)
  inside_same same = inside_set (λ h is. was id v h at (sym same ∙ is))

  inside_none : w.hand ≡ None → HandsInside z.locks (set seats id w)
  inside_none none = inside_set (λ h is. absurd (cc))

  pub inside_turn : Turn z words homes after i x v w → HandsInside z.locks (set seats id w)
  inside_turn (stays still stay is) = inside_same (ap hand_in is)
  inside_turn (takes l list inside at_l clear to home goes free is) = inside_set (λ h e. subst (λ (k : ℕ). k < z.locks) (lock_same l list.items h (sym (ap hand_in is) ∙ e)) inside)
    where
      lock_same : (k : ℕ) (ws : List Waiter) (h : Hand) → hand_of k ws ≡ Some h → k ≡ h.lock
      lock_same k ws h e = ap lock_or e
        where
          lock_or : Option Hand → ℕ
          lock_or None = 0
          lock_or (Some g) = g.lock
  inside_turn (flags l found inside at_l to stay mine unset is) = inside_same (ap hand_in is)
  inside_turn (announces p below own at_p to stay out quiet is) = inside_same (ap hand_in is)
  inside_turn (queues l p want found list inside below own at_l to items goes mine set_flag loud out free is) = inside_none (ap hand_in is)
  inside_turn (checks l p want found below own at_p to stay mine queued round quiet is) = inside_same (ap hand_in is)
  inside_turn (leaves l p want found list inside below own at_l to items goes mine unset queued round here quiet is) = inside_none (ap hand_in is)
  inside_turn (was_taken l p want found list inside below own at_l to items goes mine unset queued round here is) = inside_none (ap hand_in is)
  inside_turn (withdraws p below own at_p to stay out loud is) = inside_same (ap hand_in is)
  inside_turn (marks l u found done rest below at_u to stay mine marked on_list free is) = inside_same (ap hand_in is)
  inside_turn (detaches l found list inside at_l to items goes mine unset marked free paid out is) = inside_none (ap hand_in is)
  inside_turn (summons l found list inside at_l to items goes mine unset marked free paid out is) = inside_none (ap hand_in is)
  inside_turn (returns l found list inside at_l to items goes mine unset unmarked out is) = inside_none (ap hand_in is)
  inside_turn (unmarks u us below at_u to stay free is) = inside_same (ap hand_in is)
  inside_turn (posts u us below at_u to stay owed cleared is) = inside_same (ap hand_in is)
  inside_turn (sees p below own at_p to some stay awake is) = inside_same (ap hand_in is)
  inside_turn (sleeps_down p below own at_p to stay down out is) = inside_same (ap hand_in is)
  inside_turn (calls_down p below own at_p to stay down apart is) = inside_same (ap hand_in is)
  inside_turn (wakes p below own at_p to zero stay empty out round slept is) = inside_same (ap hand_in is)
  inside_turn (oversleeps p below own at_p to some stay slept is) = inside_same (ap hand_in is)
  inside_turn (gives_back p below own at_p to stay some is) = inside_same (ap hand_in is)
  inside_turn (answers l inside at_l to stay out due is) = inside_same (ap hand_in is)
  inside_turn (allows l inside at_l to stay queued is) = inside_same (ap hand_in is)
  inside_turn (pokes q below at_q to stay is) = inside_same (ap hand_in is)

pub inside_more : (locks : ℕ) (seats : List Stance) (own : Option ℕ) → HandsInside locks seats → HandsInside locks (seats ++ idle own [] [] ∷ [])
inside_more locks seats own was j u h e = each_more (IsInside locks) seats (idle own [] []) (λ j u e h. was j u h e) (λ h is. absurd (cc)) j u e h

pub inside_joined : (locks : ℕ) (seats : List Stance) (id other : ℕ) (v : Stance) (poked downed : List ℕ) → get_elem? seats id ≡ maybe.some v → HandsInside locks seats
    → HandsInside locks (set (set seats id (takes_over v poked downed)) other (idle None [] []))
inside_joined locks seats id other v poked downed at was j u h e = each_set (IsInside locks) (set seats id (takes_over v poked downed)) other (idle None [] [])
    (each_set (IsInside locks) seats id (takes_over v poked downed) (λ j u e h. was j u h e) (λ h. was id v h at)) (λ h is. absurd (cc)) j u e h
