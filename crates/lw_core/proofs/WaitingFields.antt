-- What a backend's waiting field says is kept by each turn, and where seats come or are spent.
use Rattle.std.proofs.Common.{◌≡◌, ◌≢◌, ℕ, ◌+◌, ◌*◌, ◌<◌, ◌≤◌, Bool, true, false, List, [], ◌∷◌, ◌++◌, length, get_or, set, Option, None, Some, sym, refl, ap, ◌∙◌, subst, arith, get_or-set_other}
use Rattle.std.proofs.lemmas.Grind.{get_or-set_at}
use mathlib.Core.Logic.{dite}
use mathlib.Core.Option as maybe
use native.Mathlib.Decide.{ℕ_discrete}
use lib.ListN.{get_elem?}
use Rattle.seat_roster.specs.Totals.{total}
use Rattle.seat_roster.proofs.Totals.{total_set, total_snoc, total_at, total_gap}
use Rattle.lw_core.specs.declared.view.Size.{Size}
use Rattle.lw_core.specs.declared.view.Waiter.{Waiter}
use Rattle.lw_core.specs.Words.{Waiters, state_at, waiting_at, word_count}
use Rattle.lw_core.specs.WaitLists.{waiter, times_on, without, taken_from, kept_from, until_free_from, lockers_from}
use Rattle.lw_core.specs.Stances.{Stance, hand_of, is_own, count_if, hand_times, on_lists, unlisted_times}
use Rattle.lw_core.specs.ListedOnce.{ListedOnce}
use Rattle.lw_core.specs.WaitingTellsPlace.{adds_to, WaitingTellsPlace}
use Rattle.lw_core.proofs.Storing.{word_read, still_past}
use Rattle.lw_core.proofs.Turns.{Homes, Turn, stays, takes, flags, announces, queues, checks, leaves, was_taken, withdraws, marks, detaches, summons, returns, unmarks, posts, sees, sleeps_down, calls_down, wakes, oversleeps, gives_back, answers, allows, pokes, idle, takes_over, IsSound}
use Rattle.lw_core.proofs.Lists.{times_here, times_else, times_append, times_joined, times_left, times_parted, times_headed}
use Rattle.lw_core.proofs.Owning.{count_most, own_here, own_else, announces_for, marked_times, adds_parts, in_one_round, round_quiet, own_counts, out_of_round, marked_most}
use Rattle.lw_core.proofs.Listing.{times_in_hand, listed_same, listed_sent, listed_out, listed_more}

-- what matters here of a stance
abbrev sight : ℕ → Stance → ℕ × ℕ
sight p u = (adds_to p u, hand_times p u)

module _ (z : Size) (words : List ℕ) (homes : Homes) (seats : List Stance) (long : length words ≡ word_count z) (slots : length homes ≡ z.locks) (alone : (p : ℕ) → total (λ (u : Stance). is_own p u.own) seats ≤ 1)
    (sound : (j : ℕ) (u : Stance) → get_elem? seats j ≡ maybe.some u → IsSound u) (listed_once : ListedOnce z.locks homes seats) (was : WaitingTellsPlace z words homes seats)
    (out : (j l : ℕ) (u : Stance) (found : List Waiter) → get_elem? seats j ≡ maybe.some u → l < z.locks → u.hand ≡ hand_of l found → get_elem? homes l ≡ maybe.some maybe.none) where
  -- the field of p, where it is stored, and where another word is
  stored : (i x p q : ℕ) → q < z.procs → i ≡ waiting_at z q → p ≡ q → get_or (set words i x) (waiting_at z p) 0 ≡ x
  stored i x p q below at is = get_or-set_at words i (waiting_at z p) x 0 (omega arith) (omega arith)

  unread : (i x p : ℕ) → waiting_at z p ≢ i → get_or (set words i x) (waiting_at z p) 0 ≡ get_or words (waiting_at z p) 0
  unread i x p ne = get_or-set_other words i (waiting_at z p) x 0 ne

  module _ (id : ℕ) (v : Stance) (at : get_elem? seats id ≡ maybe.some v) where
    -- the sums move by as much as the field
    moved : (after : Homes) (field p : ℕ) (w : Stance) → p < z.procs → field + (on_lists p homes seats + adds_to p v) ≡ get_or words (waiting_at z p) 0 + (on_lists p after (set seats id w) + adds_to p w)
        → field ≡ on_lists p after (set seats id w) + total (adds_to p) (set seats id w)
    moved after field p w below sums = let old = was p below in let sum = total_set (adds_to p) seats id v w at in omega arith

    -- nothing moves
    same : (after : Homes) (i x : ℕ) (w : Stance) → ((p : ℕ) → get_or (set words i x) (waiting_at z p) 0 ≡ get_or words (waiting_at z p) 0) → after ≡ homes → ((p : ℕ) → sight p w ≡ sight p v)
        → WaitingTellsPlace z (set words i x) after (set seats id w)
    same after i x w kept there seen = subst (λ (h : Homes). WaitingTellsPlace z (set words i x) h (set seats id w)) (sym there)
        (λ p below. let field = kept p in let a : adds_to p w ≡ adds_to p v = ap (λ (s : ℕ × ℕ). s.0) (seen p) in
        let lists = listed_same homes seats id v w at p (ap (λ (s : ℕ × ℕ). s.1) (seen p)) in moved homes (get_or (set words i x) (waiting_at z p) 0) p w below (omega arith))

    -- a list goes home
    sent : (after : Homes) (i x l : ℕ) (w : Stance) (found : List Waiter) (list : Waiters) → l < z.locks → i ≡ state_at l → v.hand ≡ hand_of l found → after ≡ set homes l (maybe.some list) → w.hand ≡ None
        → ((p : ℕ) → times_on p list.items + adds_to p w ≡ times_on p found + adds_to p v) → WaitingTellsPlace z (set words i x) after (set seats id w)
    sent after i x l w found list inside is hand there none parts = subst (λ (h : Homes). WaitingTellsPlace z (set words i x) h (set seats id w)) (sym there)
        (λ p below. let field = unread i x p (λ e. omega arith) in let a = parts p in let lists = listed_sent homes seats id v w at p l found list (out id l v found at inside hand) hand none in
        moved (set homes l (maybe.some list)) (get_or (set words i x) (waiting_at z p) 0) p w below (omega arith))

    -- the own field is stored, out of a round
    own_stored : (after : Homes) (i x q : ℕ) (w : Stance) (b : Bool) → q < z.procs → v.own ≡ Some q → i ≡ waiting_at z q → x ≡ count_if b 1 → after ≡ homes → v.round ≡ false → w ≡ record v { announced = b }
        → WaitingTellsPlace z (set words i x) after (set seats id w)
    own_stored after i x q w b few own at_field becomes there not is = subst (λ (h : Homes). WaitingTellsPlace z (set words i x) h (set seats id w)) (sym there)
        (λ p below. let lists = listed_same homes seats id v w at p (ap (hand_times p) is) in let adds : adds_to p w ≡ count_if b (is_own p v.own) + (times_on p v.marked + 2 * times_on p v.unlisted) = ap (adds_to p) is in
        moved homes (get_or (set words i x) (waiting_at z p) 0) p w below (dite (ℕ_discrete p q)
        (λ here. let field = stored i x p q few at_field here in let mine : v.own ≡ Some p = own ∙ ap Some (sym here) in
        let quiet = out_of_round seats alone p id v at mine not in let once = listed_once.once p in let marked = marked_most seats sound p in
        let said = own_counts seats alone p id v at mine (λ (u : Stance). u.announced) in let parts = adds_parts p seats in let old = was p below in
        let one : count_if b (is_own p v.own) ≡ count_if b 1 = ap (count_if b) (own_here p q v.own own here) in omega arith)
        (λ ne. let field = unread i x p (λ e. ne (omega arith)) in let none = own_else p q v.own own ne in let a = count_most b (is_own p v.own) in let c = count_most v.announced (is_own p v.own) in omega arith)))

    -- who is on a list in hand or was taken off one and is marked: once, and hasn't announced anything
    once_marked : (p : ℕ) → 1 ≤ on_lists p homes seats + total (unlisted_times p) seats → (on_lists p homes seats + total (unlisted_times p) seats ≡ 1) × (total (announces_for p) seats ≡ 0)
    once_marked p some = let once = listed_once.once p in let one = in_one_round seats alone p in (omega arith, round_quiet seats alone sound p (omega arith))

    -- THE LAW of the turns
    pub waiting_turn : (after : Homes) (i x : ℕ) (w : Stance) → Turn z words homes after i x v w → WaitingTellsPlace z (set words i x) after (set seats id w)
    waiting_turn after i x w (stays quiet there is) = same after i x w (λ p. still_past z words i x (waiting_at z p) quiet (omega arith)) there (λ p. ap (sight p) is)
    waiting_turn after i x w (takes l list inside at_state unlocked becomes home there none is) = subst (λ (h : Homes). WaitingTellsPlace z (set words i x) h (set seats id w)) (sym there)
        (λ p below. let field = unread i x p (λ e. omega arith) in let lists = listed_out homes seats id v w at p l list home none (ap (λ (u : Stance). u.hand) is) in let a : adds_to p w ≡ adds_to p v = ap (adds_to p) is in
        moved (set homes l maybe.none) (get_or (set words i x) (waiting_at z p) 0) p w below (omega arith))
    waiting_turn after i x w (flags l found inside at_state becomes there hand unflagged is) = same after i x w (λ p. unread i x p (λ e. omega arith)) there (λ p. ap (sight p) is)
    waiting_turn after i x w (announces q few own at_field becomes there not quiet is) = own_stored after i x q w true few own at_field becomes there not is
    waiting_turn after i x w (queues l q want found list inside few own at_state becomes joined there hand flagged announced not unqueued is) =
        sent after i x l w found list inside at_state hand there (ap (λ (u : Stance). u.hand) is)
        (λ p. let a : times_on p list.items ≡ times_on p found + is_own p (Some q) = ap (times_on p) joined ∙ times_joined p (waiter q want) found in
        let b : adds_to p w ≡ 0 + (times_on p v.marked + 2 * times_on p v.unlisted) = ap (adds_to p) is in
        let c : announces_for p v ≡ is_own p (Some q) = ap (λ (b : Bool). count_if b (is_own p v.own)) announced ∙ ap (is_own p) own in omega arith)
    waiting_turn after i x w (checks l q want found few own at_field becomes there hand queued round quiet is) = same after i x w (λ p. word_read words i x (waiting_at z p) becomes) there (λ p. ap (sight p) is)
    waiting_turn after i x w (leaves l q want found list inside few own at_state becomes left there hand unflagged queued round leaving quiet is) =
        sent after i x l w found list inside at_state hand there (ap (λ (u : Stance). u.hand) is)
        (λ p. let a : times_on p list.items ≡ times_on p (without q found) = ap (times_on p) left in let b : adds_to p w ≡ is_own p v.own + (times_on p v.marked + 2 * times_on p v.unlisted) = ap (adds_to p) is in
        let c : announces_for p v ≡ 0 = ap (λ (b : Bool). count_if b (is_own p v.own)) quiet in let mine : is_own p v.own ≡ is_own p (Some q) = ap (is_own p) own in
        let rest = times_left q found (sym (times_in_hand q v (hand_of l found) hand) ∙ (listed_once.leaves id v at true q leaving own).0 refl) p in omega arith)
    waiting_turn after i x w (was_taken l q want found list inside few own at_state becomes kept there hand unflagged queued round leaving is) =
        sent after i x l w found list inside at_state hand there (ap (λ (u : Stance). u.hand) is)
        (λ p. let a : times_on p list.items ≡ times_on p found = ap (times_on p) kept in let b : adds_to p w ≡ adds_to p v = ap (adds_to p) is in omega arith)
    waiting_turn after i x w (withdraws q few own at_field becomes there not announced is) = own_stored after i x q w false few own at_field becomes there not is
    waiting_turn after i x w (marks l u found done rest few at_field becomes there hand marked on_list unlisted is) =
        subst (λ (h : Homes). WaitingTellsPlace z (set words i x) h (set seats id w)) (sym there)
        (λ p below. let lists = listed_same homes seats id v w at p (ap (hand_times p) is) in let adds : adds_to p w ≡ announces_for p v + (times_on p (done ++ u ∷ []) + 2 * times_on p v.unlisted) = ap (adds_to p) is in
        let more = times_append p done (u ∷ []) in let before : times_on p v.marked ≡ times_on p done = ap (times_on p) marked in moved homes (get_or (set words i x) (waiting_at z p) 0) p w below (dite (ℕ_discrete p u.proc)
        (λ here. let field = stored i x p u.proc few at_field here in let one = times_here p u [] here in let one' = times_here p u rest here in
        let split = times_append p done (u ∷ rest) in let among = on_list p in
        let on = times_in_hand p v (hand_of l found) hand in let least = total_at (hand_times p) seats id v at in let once = once_marked p (omega arith) in
        let gap = total_gap (marked_times p) (hand_times p) seats id v (λ j t e. (sound j t e).marked p) at in let parts = adds_parts p seats in let old = was p below in omega arith)
        (λ ne. let field = unread i x p (λ e. ne (omega arith)) in let none = times_else p u [] ne in omega arith)))
    waiting_turn after i x w (detaches l found list inside at_state becomes kept there hand unflagged marked unlisted unowed unleaving is) =
        sent after i x l w found list inside at_state hand there (ap (λ (u : Stance). u.hand) is)
        (λ p. let a : times_on p list.items ≡ times_on p (kept_from found) = ap (times_on p) kept in let parted = times_parted p found in
        let b : adds_to p w ≡ announces_for p v + (0 + 2 * times_on p (taken_from found)) = ap (adds_to p) is in let c : times_on p v.marked ≡ times_on p (taken_from found) = ap (times_on p) marked in
        let d : times_on p v.unlisted ≡ 0 = ap (times_on p) unlisted in omega arith)
    waiting_turn after i x w (summons l found list inside at_state becomes kept there hand unflagged marked unlisted unowed unleaving is) =
        sent after i x l w found list inside at_state hand there (ap (λ (u : Stance). u.hand) is)
        (λ p. let a : times_on p list.items ≡ times_on p (lockers_from found) = ap (times_on p) kept in let headed = times_headed p found in
        let b : adds_to p w ≡ announces_for p v + (0 + 2 * times_on p (until_free_from found)) = ap (adds_to p) is in let c : times_on p v.marked ≡ times_on p (until_free_from found) = ap (times_on p) marked in
        let d : times_on p v.unlisted ≡ 0 = ap (times_on p) unlisted in omega arith)
    waiting_turn after i x w (returns l found list inside at_state becomes kept there hand unflagged unmarked unleaving is) =
        sent after i x l w found list inside at_state hand there (ap (λ (u : Stance). u.hand) is)
        (λ p. let a : times_on p list.items ≡ times_on p found = ap (times_on p) kept in let b : adds_to p w ≡ adds_to p v = ap (adds_to p) is in omega arith)
    waiting_turn after i x w (unmarks u us few at_field becomes there unlisted is) = subst (λ (h : Homes). WaitingTellsPlace z (set words i x) h (set seats id w)) (sym there)
        (λ p below. let lists = listed_same homes seats id v w at p (ap (hand_times p) is) in let adds : adds_to p w ≡ announces_for p v + (times_on p v.marked + 2 * times_on p us) = ap (adds_to p) is in
        let off : times_on p v.unlisted ≡ times_on p (u ∷ us) = ap (times_on p) unlisted in moved homes (get_or (set words i x) (waiting_at z p) 0) p w below (dite (ℕ_discrete p u.proc)
        (λ here. let field = stored i x p u.proc few at_field here in let more = times_here p u us here in let least = total_at (unlisted_times p) seats id v at in
        let once = once_marked p (omega arith) in let marks = marked_most seats sound p in let parts = adds_parts p seats in let old = was p below in omega arith)
        (λ ne. let field = unread i x p (λ e. ne (omega arith)) in let more = times_else p u us ne in omega arith)))
    waiting_turn after i x w (posts u us few at_sem becomes there owed cleared is) = same after i x w (λ p. unread i x p (λ e. omega arith)) there (λ p. ap (sight p) is)
    waiting_turn after i x w (sees q few own at_sem becomes some there undowned is) = same after i x w (λ p. word_read words i x (waiting_at z p) becomes) there (λ p. ap (sight p) is)
    waiting_turn after i x w (sleeps_down q few own at_sem becomes there downing asleep is) = same after i x w (λ p. unread i x p (λ e. omega arith)) there (λ p. ap (sight p) is)
    waiting_turn after i x w (calls_down q few own at_sem becomes there downing apart is) = same after i x w (λ p. unread i x p (λ e. omega arith)) there (λ p. ap (sight p) is)
    waiting_turn after i x w (wakes q few own at_field becomes clear there none unleaving round between is) = same after i x w (λ p. word_read words i x (waiting_at z p) becomes) there (λ p. ap (sight p) is)
    waiting_turn after i x w (oversleeps q few own at_field becomes some there between is) = same after i x w (λ p. word_read words i x (waiting_at z p) becomes) there (λ p. ap (sight p) is)
    waiting_turn after i x w (gives_back q few own at_sem becomes there some is) = same after i x w (λ p. unread i x p (λ e. omega arith)) there (λ p. ap (sight p) is)
    waiting_turn after i x w (answers l inside at_state becomes there unqueued due is) = same after i x w (λ p. unread i x p (λ e. omega arith)) there (λ p. ap (sight p) is)
    waiting_turn after i x w (allows l inside at_state becomes there queued is) = same after i x w (λ p. unread i x p (λ e. omega arith)) there (λ p. ap (sight p) is)
    waiting_turn after i x w (pokes q few at_sem becomes there is) = same after i x w (λ p. unread i x p (λ e. omega arith)) there (λ p. ap (sight p) is)

-- a seat comes, or is spent
pub waiting_added : (z : Size) (words : List ℕ) (homes : Homes) (seats : List Stance) (own : Option ℕ) → WaitingTellsPlace z words homes seats → WaitingTellsPlace z words homes (seats ++ idle own [] [] ∷ [])
waiting_added z words homes seats own was p below = let old = was p below in let lists = listed_more p homes seats own in let sum = total_snoc (adds_to p) seats (idle own [] []) in omega arith

pub waiting_joined : (z : Size) (words : List ℕ) (homes : Homes) (seats : List Stance) (id other : ℕ) (v : Stance) (own : Option ℕ) (poked downed : List ℕ) → get_elem? seats id ≡ maybe.some v
    → get_elem? (set seats id (takes_over v poked downed)) other ≡ maybe.some (idle own poked downed)
    → WaitingTellsPlace z words homes seats → WaitingTellsPlace z words homes (set (set seats id (takes_over v poked downed)) other (idle None [] []))
waiting_joined z words homes seats id other v own poked downed at there was p below =
    let old = was p below in let lists = listed_same homes seats id v (takes_over v poked downed) at p refl in let sum = total_set (adds_to p) seats id v (takes_over v poked downed) at in
    let lists' = listed_same homes (set seats id (takes_over v poked downed)) other (idle own poked downed) (idle None [] []) there p refl in
    let sum' = total_set (adds_to p) (set seats id (takes_over v poked downed)) other (idle own poked downed) (idle None [] []) there in omega arith
