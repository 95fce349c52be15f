-- HAS_WAITERS covers who is on a lock's list or about to be: each turn keeps it.
use Rattle.std.proofs.Common.{◌≡◌, ◌≢◌, ℕ, ◌+◌, ◌<◌, ◌≤◌, Bool, true, false, cond, List, [], ◌∷◌, ◌++◌, length, get_or, map, set, Option, None, Some, sym, refl, ap, ◌∙◌, subst, ⊎_elim, arith, get_or-set_other, get_or-set_same}
use mathlib.Core.Logic.{dite}
use mathlib.Core.Option as maybe
use native.Mathlib.Decide.{ℕ_discrete}
use lib.ListN.{get_elem?}
use Rattle.atomic_table.proofs.Lists.{at_set, set_here, set_else}
use Rattle.seat_roster.specs.Totals.{total}
use Rattle.seat_roster.proofs.Totals.{total_set, total_snoc, total_at, total_none}
use Rattle.seat_roster.proofs.Stretches.{from_seen}
use Rattle.lw_core.specs.declared.view.Frame.TheVariants.{Announcing, Appending}
use Rattle.lw_core.specs.declared.view.Size.{Size}
use Rattle.lw_core.specs.declared.view.View.{View}
use Rattle.lw_core.specs.declared.view.Waiter.{Waiter}
use Rattle.lw_core.specs.Words.{Waiters, state_at, word_count, locked, has_waiters, has_flag, set_flag, clear_flag}
use Rattle.lw_core.specs.WaitLists.{without, taken_from, kept_from, lockers_from, is_empty, home_of, home_list}
use Rattle.lw_core.specs.Machine.{Place}
use Rattle.lw_core.specs.Stances.{Hand, Stance, hand_of, hand_at, flagged_at, stance_of, has_hand, has_list}
use Rattle.lw_core.specs.ListInOneHand.{ListInOneHand}
use Rattle.lw_core.specs.FlagCoversList.{is_flag, hand_length, waits_for, FlagCoversList}
use Rattle.lw_core.proofs.Lists.{length_without, length_parted, length_headed, length_none}
use Rattle.lw_core.proofs.Flags.{flag_set, set_keeps, clear_keeps, woken_waiters}
use Rattle.lw_core.proofs.Storing.{KeepsFlag, flag_kept, still_keeps}
use Rattle.lw_core.proofs.Owning.{own_here, own_else, hand_here, hand_else}
use Rattle.lw_core.proofs.Turns.{Homes, Turn, stays, takes, flags, announces, queues, checks, leaves, was_taken, withdraws, marks, detaches, summons, returns, unmarks, posts, sees, sleeps_down, calls_down, wakes, oversleeps, gives_back, answers, allows, pokes, idle, takes_over}
use Rattle.lw_core.proofs.Hands.{hand_in, alone_with}

-- who hasn't a list in hand has nobody of it, and who set no flag for it isn't to queue there
no_long : (l : ℕ) (o : Option Hand) → has_hand l o ≡ 0 → hand_length l o ≡ 0
no_long l None e = refl
no_long l (Some h) e = dite (ℕ_discrete l h.lock) (λ is. let one = hand_here (λ _. 1) l h.lock (Some h) h.list refl is in absurd (omega arith)) (λ ne. hand_else length l h.lock (Some h) h.list refl ne)

no_flag : (l : ℕ) (o : Option ℕ) → (o ≡ Some l → ⊥) → is_flag l o ≡ 0
no_flag l None ne = refl
no_flag l (Some k) ne = own_else l k (Some k) refl (λ is. ne (ap Some (sym is)))

abbrev flag_of : Stance → Option ℕ
flag_of v = v.flagged

-- the word after the list went home, where anybody is on it
home_waiters : (none : Bool) (n : ℕ) → none ≡ false → has_flag has_waiters (cond none (clear_flag has_waiters (clear_flag locked n)) (clear_flag locked n)) ≡ has_flag has_waiters n
home_waiters true n e = absurd (cc)
home_waiters false n e = clear_keeps 28 30 n refl

module _ (z : Size) (words : List ℕ) (homes : Homes) (seats : List Stance) (long : length words ≡ word_count z) (slots : length homes ≡ z.locks)
    (hands : (l : ℕ) → l < z.locks → ListInOneHand l (get_or words (state_at l) 0) (get_elem? homes l) seats)
    (was : (l : ℕ) → l < z.locks → FlagCoversList l (get_or words (state_at l) 0) (home_list homes l) seats)
    (flagged_in : (j : ℕ) (u : Stance) (l : ℕ) → get_elem? seats j ≡ maybe.some u → u.flagged ≡ Some l → has_list l u ≡ 1)
    (id : ℕ) (v : Stance) (at : get_elem? seats id ≡ maybe.some v) (after : Homes) (i x : ℕ) (w : Stance) where
  abbrev Kept : ℕ → Type 0
  Kept l = FlagCoversList l (get_or (set words i x) (state_at l) 0) (home_list after l) (set seats id w)

  -- what this part sees of the lock l stays
  unseen : (l : ℕ) → l < z.locks → has_flag has_waiters (get_or (set words i x) (state_at l) 0) ≡ has_flag has_waiters (get_or words (state_at l) 0) → home_list after l ≡ home_list homes l → waits_for l w ≡ waits_for l v → Kept l
  unseen l below word home waits clear = let none = was l below (sym word ∙ clear) in let sum = total_set (waits_for l) seats id v w at in
      let same_length : length (home_list after l) ≡ length (home_list homes l) = ap length home in omega arith

  -- no list moves
  same : KeepsFlag has_waiters z words i x → after ≡ homes → w.hand ≡ v.hand → w.flagged ≡ v.flagged → (l : ℕ) → l < z.locks → Kept l
  same keeps stay hand flagged l below = let a : hand_length l w.hand ≡ hand_length l v.hand = ap (hand_length l) hand in let b : is_flag l w.flagged ≡ is_flag l v.flagged = ap (is_flag l) flagged in
      unseen l below (flag_kept has_waiters z words i x long keeps l below) (ap (λ (o : Homes). home_list o l) stay) (omega arith)

  -- the state word of k changes
  module _ (k : ℕ) (inside : k < z.locks) (is : i ≡ state_at k) where
    turned : ((l : ℕ) → l ≢ k → home_list after l ≡ home_list homes l) → ((l : ℕ) → l ≢ k → waits_for l w ≡ waits_for l v) → FlagCoversList k x (home_list after k) (set seats id w) → (l : ℕ) → l < z.locks → Kept l
    turned home_else waits_else here l below = dite (ℕ_discrete l k)
        (λ (e : l ≡ k). let word : get_or (set words i x) (state_at k) 0 ≡ x = ap (λ (j : ℕ). get_or (set words i x) j 0) (sym is) ∙ get_or-set_same words i x 0 (omega arith) in
        subst (λ (j : ℕ). Kept j) (sym e) (subst (λ (n : ℕ). FlagCoversList k n (home_list after k) (set seats id w)) (sym word) here))
        (λ (ne : l ≢ k). unseen l below (ap (has_flag has_waiters) (get_or-set_other words i (state_at l) x 0 (λ e. ne (omega arith)))) (home_else l ne) (waits_else l ne))

    -- where the flag stays as it was, and is clear, nobody was on the list
    was_clear : has_flag has_waiters x ≡ has_flag has_waiters (get_or words i 0) → has_flag has_waiters x ≡ 0 → length (home_list homes k) + total (waits_for k) seats ≡ 0
    was_clear keeps clear = was k inside (ap (λ (j : ℕ). has_flag has_waiters (get_or words j 0)) (sym is) ∙ (sym keeps ∙ clear))

    -- HAS_WAITERS is set
    flagging : x ≡ set_flag has_waiters (get_or words i 0) → after ≡ homes → v.flagged ≡ None → w.hand ≡ v.hand → w.flagged ≡ Some k → (l : ℕ) → l < z.locks → Kept l
    flagging to stay none hand flagged = turned (λ l ne. ap (λ (o : Homes). home_list o l) stay)
        (λ l ne. let a : hand_length l w.hand ≡ hand_length l v.hand = ap (hand_length l) hand in let b : is_flag l v.flagged ≡ 0 = ap (is_flag l) none in let c = own_else l k w.flagged flagged ne in omega arith)
        (λ clear. let one : has_flag has_waiters x ≡ 1 = ap (has_flag has_waiters) to ∙ flag_set 30 (get_or words i 0) in absurd (omega arith))

    -- the list of k moves
    moved : (o : maybe.Option Waiters) → after ≡ set homes k o → ((l : ℕ) → l ≢ k → waits_for l w ≡ waits_for l v) → FlagCoversList k x (home_of (maybe.some o)) (set seats id w) → (l : ℕ) → l < z.locks → Kept l
    moved o goes waits_else here = let home : home_list after k ≡ home_of (maybe.some o) = ap (λ (a : Homes). home_list a k) goes ∙ ap home_of (set_here homes k o (omega arith)) in
        turned (λ l ne. ap (λ (a : Homes). home_list a l) goes ∙ ap home_of (set_else homes k l o ne)) waits_else (subst (λ (ws : List Waiter). FlagCoversList k x ws (set seats id w)) (sym home) here)

    -- it is taken in hand
    taken : (list : Waiters) → x ≡ set_flag locked (get_or words i 0) → get_elem? homes k ≡ maybe.some (maybe.some list) → after ≡ set homes k maybe.none → v.hand ≡ None → w.hand ≡ hand_of k list.items → w.flagged ≡ v.flagged
        → (l : ℕ) → l < z.locks → Kept l
    taken list to home goes free mine flagged = moved maybe.none goes
        (λ l ne. let a : hand_length l v.hand ≡ 0 = ap (hand_length l) free in let b = hand_else length l k w.hand list.items mine ne in let c : is_flag l w.flagged ≡ is_flag l v.flagged = ap (is_flag l) flagged in omega arith)
        (λ clear. let a : hand_length k v.hand ≡ 0 = ap (hand_length k) free in let b = hand_here length k k w.hand list.items mine refl in let c : is_flag k w.flagged ≡ is_flag k v.flagged = ap (is_flag k) flagged in
        let d : length (home_list homes k) ≡ length list.items = ap (λ (h : maybe.Option (maybe.Option Waiters)). length (home_of h)) home in
        let none = was_clear (ap (has_flag has_waiters) to ∙ set_keeps 28 30 (get_or words i 0) refl) clear in let sum = total_set (waits_for k) seats id v w at in omega arith)

    -- it goes home
    module _ (found : List Waiter) (list : Waiters) (goes : after ≡ set homes k (maybe.some list)) (mine : v.hand ≡ hand_of k found) (free : w.hand ≡ None) where
      sent : ((l : ℕ) → l ≢ k → is_flag l w.flagged ≡ is_flag l v.flagged) → FlagCoversList k x list.items (set seats id w) → (l : ℕ) → l < z.locks → Kept l
      sent flagged = moved (maybe.some list) goes (λ l ne. let a = hand_else length l k v.hand found mine ne in let b : hand_length l w.hand ≡ 0 = ap (hand_length l) free in let c = flagged l ne in omega arith)

      -- with the seat on it, which flagged
      queued : x ≡ clear_flag locked (get_or words i 0) → v.flagged ≡ Some k → w.flagged ≡ None → (l : ℕ) → l < z.locks → Kept l
      queued to flagged unflagged = sent (λ l ne. let a : is_flag l w.flagged ≡ 0 = ap (is_flag l) unflagged in a ∙ sym (own_else l k v.flagged flagged ne))
          (λ clear. let none = was_clear (ap (has_flag has_waiters) to ∙ clear_keeps 28 30 (get_or words i 0) refl) clear in
          let part = total_at (waits_for k) seats id v at in let a = own_here k k v.flagged flagged refl in absurd (omega arith))

      -- then nobody has anything of it
      nobody : w.flagged ≡ None → total (waits_for k) (set seats id w) ≡ 0
      nobody unflagged = total_none (waits_for k) (set seats id w) (λ j u e. ⊎_elim
          (λ (t : (j ≡ id) × (w ≡ u)). let a : hand_length k w.hand ≡ 0 = ap (hand_length k) free in let b : is_flag k w.flagged ≡ 0 = ap (is_flag k) unflagged in ap (waits_for k) (sym t.1) ∙ omega arith)
          (λ (t : (j ≢ id) × (get_elem? seats j ≡ maybe.some u)). let alone = alone_with z words homes seats long slots hands id j k v u found at t.1 t.0 inside mine in let a = no_long k u.hand alone in
          let b = no_flag k u.flagged (λ is. let one = flagged_in j u k t.1 is in absurd (omega arith)) in omega arith)
          (at_set seats id j w u e))

      -- with those of it that the seat kept, which didn't flag
      thinned : (kept : List Waiter) → (is_empty kept ≡ false → has_flag has_waiters x ≡ has_flag has_waiters (get_or words i 0)) → length kept ≤ length found → list.items ≡ kept → v.flagged ≡ None → w.flagged ≡ v.flagged
          → (l : ℕ) → l < z.locks → Kept l
      thinned kept keeps fewer items unflagged flagged = sent (λ l ne. ap (is_flag l) flagged) (by_kept (is_empty kept) refl)
        where
          by_kept : (none : Bool) → is_empty kept ≡ none → FlagCoversList k x list.items (set seats id w)
          by_kept true e clear = let a = length_none kept e in let b : length list.items ≡ length kept = ap length items in let c = nobody (flagged ∙ unflagged) in omega arith
          by_kept false e clear = let none = was_clear (keeps e) clear in let part = total_at (waits_for k) seats id v at in let sum = total_set (waits_for k) seats id v w at in let a = hand_here length k k v.hand found mine refl in
              let b : hand_length k w.hand ≡ 0 = ap (hand_length k) free in let c : is_flag k w.flagged ≡ is_flag k v.flagged = ap (is_flag k) flagged in let d : length list.items ≡ length kept = ap length items in omega arith

  pub covers_turn : Turn z words homes after i x v w → (l : ℕ) → l < z.locks → FlagCoversList l (get_or (set words i x) (state_at l) 0) (home_list after l) (set seats id w)
  covers_turn (stays still stay is) = same (still_keeps z words i x still).2 stay (ap hand_in is) (ap flag_of is)
  covers_turn (takes k list inside at_k clear to home goes free is) = taken k inside at_k list to home goes free (ap hand_in is) (ap flag_of is)
  covers_turn (flags k found inside at_k to stay mine none is) = flagging k inside at_k to stay none (ap hand_in is) (ap flag_of is)
  covers_turn (announces p few own at_p to stay round none is) = same (λ l below e. absurd (omega arith)) stay (ap hand_in is) (ap flag_of is)
  covers_turn (queues k p want found list inside few own at_k to items goes mine flagged announced round none is) = queued k inside at_k found list goes mine (ap hand_in is) to flagged (ap flag_of is)
  covers_turn (checks k p want found few own at_p to stay mine queued round none is) = same (λ l below e. ap (has_flag has_waiters) to) stay (ap hand_in is) (ap flag_of is)
  covers_turn (leaves k p want found list inside few own at_k to items goes mine flagged queued round leaving none is) =
      thinned k inside at_k found list goes mine (ap hand_in is) (without p found)
      (λ e. ap (has_flag has_waiters) to ∙ home_waiters _ (get_or words i 0) e) (length_without p found) items flagged (ap flag_of is)
  covers_turn (was_taken k p want found list inside few own at_k to items goes mine flagged queued round leaving is) =
      thinned k inside at_k found list goes mine (ap hand_in is) found (λ e. ap (has_flag has_waiters) to ∙ home_waiters _ (get_or words i 0) e) (omega arith) items flagged (ap flag_of is)
  covers_turn (withdraws p few own at_p to stay round announced is) = same (λ l below e. absurd (omega arith)) stay (ap hand_in is) (ap flag_of is)
  covers_turn (marks k u found done rest few at_p to stay mine marked on_list none is) = same (λ l below e. absurd (omega arith)) stay (ap hand_in is) (ap flag_of is)
  covers_turn (detaches k found list inside at_k to items goes mine flagged marked unlisted owed leaving is) = let parts = length_parted found in
      thinned k inside at_k found list goes mine (ap hand_in is) (kept_from found)
      (λ e. ap (has_flag has_waiters) to ∙ woken_waiters (taken_from found) (kept_from found) (get_or words i 0) e) (omega arith) items flagged (ap flag_of is)
  covers_turn (summons k found list inside at_k to items goes mine flagged marked unlisted owed leaving is) = let parts = length_headed found in
      thinned k inside at_k found list goes mine (ap hand_in is) (lockers_from found) (λ e. ap (has_flag has_waiters) to ∙ clear_keeps 28 30 (get_or words i 0) refl) (omega arith) items flagged (ap flag_of is)
  covers_turn (returns k found list inside at_k to items goes mine flagged marked leaving is) =
      thinned k inside at_k found list goes mine (ap hand_in is) found (λ e. ap (has_flag has_waiters) to ∙ clear_keeps 28 30 (get_or words i 0) refl) (omega arith) items flagged (ap flag_of is)
  covers_turn (unmarks u us few at_p to stay unlisted is) = same (λ l below e. absurd (omega arith)) stay (ap hand_in is) (ap flag_of is)
  covers_turn (posts u us few at_p to stay owed cleared is) = same (λ l below e. absurd (omega arith)) stay (ap hand_in is) (ap flag_of is)
  covers_turn (sees p few own at_p to some stay none is) = same (λ l below e. ap (has_flag has_waiters) to) stay (ap hand_in is) (ap flag_of is)
  covers_turn (sleeps_down p few own at_p to stay downing between is) = same (λ l below e. absurd (omega arith)) stay (ap hand_in is) (ap flag_of is)
  covers_turn (calls_down p few own at_p to stay downing apart is) = same (λ l below e. absurd (omega arith)) stay (ap hand_in is) (ap flag_of is)
  covers_turn (wakes p few own at_p to zero_is stay free leaving round between is) = same (λ l below e. ap (has_flag has_waiters) to) stay (ap hand_in is) (ap flag_of is)
  covers_turn (oversleeps p few own at_p to some stay between is) = same (λ l below e. ap (has_flag has_waiters) to) stay (ap hand_in is) (ap flag_of is)
  covers_turn (gives_back p few own at_p to stay some is) = same (λ l below e. absurd (omega arith)) stay (ap hand_in is) (ap flag_of is)
  covers_turn (answers k inside at_k to stay queued due is) = same (λ l below e. ap (has_flag has_waiters) to ∙ set_keeps 29 30 (get_or words i 0) refl) stay (ap hand_in is) (ap flag_of is)
  covers_turn (allows k inside at_k to stay queued is) = same (λ l below e. ap (has_flag has_waiters) to ∙ set_keeps 29 30 (get_or words i 0) refl) stay (ap hand_in is) (ap flag_of is)
  covers_turn (pokes q few at_q to stay is) = same (λ l below e. absurd (omega arith)) stay (ap hand_in is) (ap flag_of is)

-- a seat comes that waits for nothing
pub covers_more : (l word : ℕ) (home : List Waiter) (seats : List Stance) (own : Option ℕ) → FlagCoversList l word home seats → FlagCoversList l word home (seats ++ idle own [] [] ∷ [])
covers_more l word home seats own h clear = let none = h clear in let sum = total_snoc (waits_for l) seats (idle own [] []) in omega arith

-- a seat takes over the pokes and downs of another in no call
pub covers_joined : (l word : ℕ) (home : List Waiter) (seats : List Stance) (id other : ℕ) (v : Stance) (own : Option ℕ) (poked downed : List ℕ) → get_elem? seats id ≡ maybe.some v
    → get_elem? (set seats id (takes_over v poked downed)) other ≡ maybe.some (idle own poked downed) → FlagCoversList l word home seats
    → FlagCoversList l word home (set (set seats id (takes_over v poked downed)) other (idle None [] []))
covers_joined l word home seats id other v own poked downed at there h clear = let none = h clear in let sum = total_set (waits_for l) seats id v (takes_over v poked downed) at in
    let sum' = total_set (waits_for l) (set seats id (takes_over v poked downed)) other (idle own poked downed) (idle None [] []) there in omega arith

-- who flagged to queue for a lock has its list in hand, which its place says
flagged_place : (p : Place) (l : ℕ) → flagged_at p ≡ Some l → has_hand l (hand_at p) ≡ 1
flagged_place (Announcing k w found ∷ p) l e = ap (λ (o : Option ℕ). is_flag l o) e ∙ own_here l l (Some l) refl refl
flagged_place (Appending k w found ∷ p) l e = ap (λ (o : Option ℕ). is_flag l o) e ∙ own_here l l (Some l) refl refl
flagged_place p l e = absurd (cc)

pub flagged_seat : (views : List View) (j : ℕ) (u : Stance) (l : ℕ) → get_elem? (map stance_of views) j ≡ maybe.some u → u.flagged ≡ Some l → has_list l u ≡ 1
flagged_seat views j u l at e = let t = from_seen stance_of views j u at in let v : View = t.0 in ap (has_list l) (sym t.2) ∙ flagged_place v.place l (ap flag_of t.2 ∙ e)
