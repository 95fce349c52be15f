-- Where RELEASE_OK is clear somebody will set it: this is kept by each turn, and where seats come or are spent.
use Rattle.std.proofs.Common.{◌≡◌, ◌≢◌, ℕ, ◌+◌, ◌<◌, ◌≤◌, Bool, true, false, cond, List, [], ◌∷◌, ◌++◌, length, get_or, set, Option, None, Some, sym, refl, ap, ◌∙◌, subst, arith, get_or-set_other}
use Rattle.std.proofs.lemmas.Grind.{get_or-set_at}
use mathlib.Core.Logic.{dite}
use mathlib.Core.Option as maybe
use native.Mathlib.Decide.{ℕ_discrete}
use lib.ListN.{get_elem?}
use Rattle.atomic_table.proofs.Lists.{set_else, at_longer}
use Rattle.seat_roster.specs.Totals.{total}
use Rattle.seat_roster.proofs.Totals.{total_at, total_two, total_some, set_there}
use Rattle.lw_core.specs.declared.view.Size.{Size}
use Rattle.lw_core.specs.declared.view.Want.{Want}
use Rattle.lw_core.specs.declared.view.Want.TheVariants.{UntilFree}
use Rattle.lw_core.specs.declared.view.Waiter.{Waiter}
use Rattle.lw_core.specs.Words.{Waiters, state_at, word_count, release_ok, has_waiters, locked, has_flag, set_flag, clear_flag}
use Rattle.lw_core.specs.WaitLists.{waiter, same_want, times_on, times_with, without, taken_from, kept_from, lockers_from, has_locker, is_empty}
use Rattle.lw_core.specs.Machine.{woken_word}
use Rattle.lw_core.specs.Stances.{Stance, Hand, hand_of, hand_list, hand_with, hand_times, entry_is, is_own, on_lists, may_be_listed}
use Rattle.lw_core.specs.ListedOnce.{ListedOnce}
use Rattle.lw_core.specs.ReleaseOkIsOwed.{Answers, ReleaseOkIsOwed}
use Rattle.lw_core.proofs.Storing.{KeepsFlag, flag_kept, still_keeps}
use Rattle.lw_core.proofs.Owning.{counted, own_here, owned, hand_here, entry_there, in_one_round}
use Rattle.lw_core.proofs.Turns.{Homes, Turn, stays, takes, flags, announces, queues, checks, leaves, was_taken, withdraws, marks, detaches, summons, returns, unmarks, posts, sees, sleeps_down, calls_down, wakes, oversleeps, gives_back, answers, allows, pokes, idle, takes_over, IsSound}
use Rattle.lw_core.proofs.Lists.{times_joined, times_without_le, times_parted, times_with_parted, times_headed, times_with_le, locker_there}
use Rattle.lw_core.proofs.Flags.{flag_set, set_keeps, clear_keeps, woken_ok}
use Rattle.lw_core.proofs.Listing.{listed_same, listed_sent, listed_out, listed_more}

abbrev own_of : Stance → Option ℕ
own_of u = u.own

abbrev due_of : Stance → Option ℕ
due_of u = u.due

-- what matters here of a stance, but for lists at home
abbrev Sight : Type 0
Sight = Option ℕ × Option ℕ × Option Hand

abbrev sight : Stance → Sight
sight u = (u.own, u.due, u.hand)

-- the word of a list that goes home, and who leaves it
pub sent_ok : (b : Bool) (n : ℕ) → has_flag release_ok (cond b (clear_flag has_waiters (clear_flag locked n)) (clear_flag locked n)) ≡ has_flag release_ok n
sent_ok true n = clear_keeps 30 29 (clear_flag locked n) refl ∙ clear_keeps 28 29 n refl
sent_ok false n = clear_keeps 28 29 n refl

module _ (seats : List Stance) (id : ℕ) (v : Stance) (at : get_elem? seats id ≡ maybe.some v) where
  -- what stands at the index of the seat is its stance
  pub found_here : (j : ℕ) (u : Stance) → get_elem? seats j ≡ maybe.some u → j ≡ id → u ≡ v
  found_here j u there is = maybe.some-injective u v (sym there ∙ (ap (get_elem? seats) is ∙ at))

  -- another seat answers as before, once its number is on no list; and so does any where this one's number stays, and what is due
  module _ (after : Homes) (w : Stance) (l j p : ℕ) (u : Stance) (there : get_elem? seats j ≡ maybe.some u) (own : u.own ≡ Some p) (due : u.due ≡ Some l) (off : on_lists p after (set seats id w) ≡ 0) where
    pub elsewhere : j ≢ id → Answers l after (set seats id w)
    elsewhere ne = record { id = j; seat = u; proc = p; at = set_else seats id j w ne ∙ there; own = own; due = due; off = off }

    pub anywhere : w.own ≡ v.own → w.due ≡ v.due → Answers l after (set seats id w)
    anywhere own' due' = dite (ℕ_discrete j id)
        (λ is. let same : u ≡ v = found_here j u there is in record {
          id = id;
          seat = w;
          proc = p;
          at = set_there seats id v w at;
          own = own' ∙ (ap own_of (sym same) ∙ own);
          due = due' ∙ (ap due_of (sym same) ∙ due);
          off = off;
        })
        elsewhere

module _ (z : Size) (words : List ℕ) (homes : Homes) (seats : List Stance) (long : length words ≡ word_count z) (slots : length homes ≡ z.locks) (alone : (p : ℕ) → total (λ (u : Stance). is_own p u.own) seats ≤ 1)
    (sound : (j : ℕ) (u : Stance) → get_elem? seats j ≡ maybe.some u → IsSound u) (listed_once : ListedOnce z.locks homes seats)
    (was : (l : ℕ) → l < z.locks → ReleaseOkIsOwed l (get_or words (state_at l) 0) homes seats)
    (out : (j l : ℕ) (u : Stance) (found : List Waiter) → get_elem? seats j ≡ maybe.some u → l < z.locks → u.hand ≡ hand_of l found → get_elem? homes l ≡ maybe.some maybe.none) where
  -- RELEASE_OK of l where a word is stored that keeps it, or that is another than l's
  ok_kept : (i x l : ℕ) → l < z.locks → KeepsFlag release_ok z words i x → has_flag release_ok (get_or (set words i x) (state_at l) 0) ≡ has_flag release_ok (get_or words (state_at l) 0)
  ok_kept i x l below keeps = flag_kept release_ok z words i x long keeps l below

  ok_else : (i x l : ℕ) → state_at l ≢ i → has_flag release_ok (get_or (set words i x) (state_at l) 0) ≡ has_flag release_ok (get_or words (state_at l) 0)
  ok_else i x l ne = ap (has_flag release_ok) (get_or-set_other words i (state_at l) x 0 ne)

  -- and where it is set
  ok_set : (i x l : ℕ) → l < z.locks → i ≡ state_at l → x ≡ set_flag release_ok (get_or words i 0) → has_flag release_ok (get_or (set words i x) (state_at l) 0) ≡ 1
  ok_set i x l below is becomes = ap (has_flag release_ok) (get_or-set_at words i (state_at l) x 0 (sym is) (omega arith) ∙ becomes) ∙ flag_set 29 (get_or words i 0)

  module _ (id : ℕ) (v : Stance) (at : get_elem? seats id ≡ maybe.some v) where
    -- nobody is listed more where no list moves
    no_more : (after : Homes) (w : Stance) → after ≡ homes → ((p : ℕ) → hand_times p w ≡ hand_times p v) → (p : ℕ) → on_lists p after (set seats id w) ≤ on_lists p homes seats
    no_more after w there hand p = let lists = listed_same homes seats id v w at p (hand p) in
        let same : on_lists p after (set seats id w) ≡ on_lists p homes (set seats id w) = ap (λ (h : Homes). on_lists p h (set seats id w)) there in omega arith

    -- how often p is listed once a list went home
    sent : (after : Homes) (w : Stance) (l : ℕ) (found : List Waiter) (list : Waiters) → l < z.locks → v.hand ≡ hand_of l found → after ≡ set homes l (maybe.some list) → w.hand ≡ None → (p : ℕ)
        → on_lists p after (set seats id w) + times_on p found ≡ on_lists p homes seats + times_on p list.items
    sent after w l found list inside hand there none p =
        let lists = listed_sent homes seats id v w at p l found list (out id l v found at inside hand) hand none in
        let same : on_lists p after (set seats id w) ≡ on_lists p (set homes l (maybe.some list)) (set seats id w) = ap (λ (h : Homes). on_lists p h (set seats id w)) there in omega arith

    -- the flag of l, this seat's number and what is due stay, and nobody is listed more
    same : (after : Homes) (i x : ℕ) (w : Stance) (l : ℕ) → l < z.locks → has_flag release_ok (get_or (set words i x) (state_at l) 0) ≡ has_flag release_ok (get_or words (state_at l) 0)
        → w.own ≡ v.own → w.due ≡ v.due → ((p : ℕ) → on_lists p after (set seats id w) ≤ on_lists p homes seats) → ReleaseOkIsOwed l (get_or (set words i x) (state_at l) 0) after (set seats id w)
    same after i x w l below kept own due fewer clear =
        let a = was l below (sym kept ∙ clear) in let less = fewer a.proc in let off = a.off in anywhere seats id v at after w l a.id a.proc a.seat a.at a.own a.due (omega arith) own due

    -- and no list moves
    unmoved : (after : Homes) (i x : ℕ) (w : Stance) (l : ℕ) → l < z.locks → KeepsFlag release_ok z words i x → after ≡ homes → sight w ≡ sight v → ReleaseOkIsOwed l (get_or (set words i x) (state_at l) 0) after (set seats id w)
    unmoved after i x w l below keeps there seen =
        same after i x w l below (ok_kept i x l below keeps) (ap (λ (s : Sight). s.0) seen) (ap (λ (s : Sight). s.1) seen) (no_more after w there (λ p. ap (λ (s : Sight). times_on p (hand_list s.2)) seen))

    -- those who are taken leave the list, of whom one who wants the lock will answer
    detached : (after : Homes) (i x : ℕ) (w : Stance) (m : ℕ) (found : List Waiter) → m < z.locks → i ≡ state_at m → x ≡ woken_word (taken_from found) (kept_from found) (get_or words i 0) → v.hand ≡ hand_of m found
        → w.own ≡ v.own → w.due ≡ v.due → ((p : ℕ) → on_lists p after (set seats id w) + times_on p found ≡ on_lists p homes seats + times_on p (kept_from found)) → (locker : Bool) → has_locker (taken_from found) ≡ locker
        → ReleaseOkIsOwed m (get_or (set words i x) (state_at m) 0) after (set seats id w)
    detached after i x w m found inside at_state becomes hand own due lists false none clear =
        let set_now : has_flag release_ok (get_or (set words i x) (state_at m) 0) ≡ 1 =
        ap (has_flag release_ok) (get_or-set_at words i (state_at m) x 0 (sym at_state) (omega arith) ∙ becomes) ∙ woken_ok (taken_from found) (kept_from found) (get_or words i 0) none in
        absurd (omega arith)
    detached after i x w m found inside at_state becomes hand own due lists true some clear =
        let t = locker_there (taken_from found) some in let p : ℕ = t.0 in let want : Want = t.1 in let wants : same_want want UntilFree ≡ false = t.2 in
        let there : 1 ≤ times_with p want (taken_from found) = t.3 in
        let parted = times_with_parted p want found in
        let mine : hand_with m p want v.hand ≡ times_with p want found = hand_here (times_with p want) m m v.hand found hand refl in
        let least = total_at (λ (u : Stance). hand_with m p want u.hand) seats id v at in let round = listed_once.for_round m inside want p in
        let s = total_some (may_be_listed m want p) seats (omega arith) in let is = counted (entry_is m want s.1.queued) (is_own p s.1.own) s.3 in
        let owes : s.1.due ≡ Some m = ((sound s.0 s.1 s.2).queued (record { lock = m; want = want }) (entry_there m want s.1.queued is.0)).1 ∙ ap (λ (b : Bool). cond b None (Some m)) wants in
        let moved = lists p in let parted_times = times_parted p found in let some_taken = times_with_le p want (taken_from found) in let once = listed_once.once p in let one = in_one_round seats alone p in
        anywhere seats id v at after w m s.0 p s.1 s.2 (owned p s.1.own is.1) owes (omega arith) own due

    -- THE LAW of the turns
    pub owed_turn : (after : Homes) (i x : ℕ) (w : Stance) → Turn z words homes after i x v w → (l : ℕ) → l < z.locks → ReleaseOkIsOwed l (get_or (set words i x) (state_at l) 0) after (set seats id w)
    owed_turn after i x w (stays quiet there is) l below = unmoved after i x w l below (still_keeps z words i x quiet).1 there (ap sight is)
    owed_turn after i x w (takes m list inside at_state unlocked becomes home there none is) l below =
        same after i x w l below (ok_kept i x l below (λ k inside e. ap (has_flag release_ok) becomes ∙ set_keeps 28 29 (get_or words i 0) refl)) (ap own_of is) (ap due_of is)
        (λ p. let lists = listed_out homes seats id v w at p m list home none (ap (λ (u : Stance). u.hand) is) in
        let moved : on_lists p after (set seats id w) ≡ on_lists p (set homes m maybe.none) (set seats id w) = ap (λ (h : Homes). on_lists p h (set seats id w)) there in omega arith)
    owed_turn after i x w (flags m found inside at_state becomes there hand unflagged is) l below =
        unmoved after i x w l below (λ k inside e. ap (has_flag release_ok) becomes ∙ set_keeps 30 29 (get_or words i 0) refl) there (ap sight is)
    owed_turn after i x w (announces q few own at_field becomes there not quiet is) l below = unmoved after i x w l below (λ k inside e. absurd (omega arith)) there (ap sight is)
    owed_turn after i x w (queues m q want found list inside few own at_state becomes joined there hand flagged announced not unqueued is) l below = λ clear.
        let a = was l below (sym (ok_kept i x l below (λ k inside e. ap (has_flag release_ok) becomes ∙ clear_keeps 28 29 (get_or words i 0) refl)) ∙ clear) in dite (ℕ_discrete a.id id)
        (λ here. let mine : a.seat ≡ v = found_here seats id v at a.id a.seat a.at here in let none : v.due ≡ None = (sound id v at).undue announced in
        let some : v.due ≡ Some l = ap due_of (sym mine) ∙ a.due in absurd (cc))
        (λ ne. let lists = sent after w m found list inside hand there (ap (λ (u : Stance). u.hand) is) a.proc in let off = a.off in
        let more : times_on a.proc list.items ≡ times_on a.proc found + is_own a.proc (Some q) = ap (times_on a.proc) joined ∙ times_joined a.proc (waiter q want) found in
        let not_mine : is_own a.proc v.own ≡ is_own a.proc (Some q) = ap (is_own a.proc) own in
        let two = total_two (λ (u : Stance). is_own a.proc u.own) seats id a.id v a.seat ne at a.at in let one = alone a.proc in
        let his = own_here a.proc a.proc a.seat.own a.own refl in elsewhere seats id v at after w l a.id a.proc a.seat a.at a.own a.due (omega arith) ne)
    owed_turn after i x w (checks m q want found few own at_field becomes there hand queued round quiet is) l below = unmoved after i x w l below (λ k inside e. absurd (omega arith)) there (ap sight is)
    owed_turn after i x w (leaves m q want found list inside few own at_state becomes left there hand unflagged queued round leaving quiet is) l below = λ clear.
        let a = was l below (sym (ok_kept i x l below (λ k inside e. ap (has_flag release_ok) becomes ∙ sent_ok (is_empty (without q found)) (get_or words i 0))) ∙ clear) in let off = a.off in dite (ℕ_discrete a.id id)
        (λ here. let mine : a.seat ≡ v = found_here seats id v at a.id a.seat a.at here in
        let on = (listed_once.leaves id v at true a.proc leaving (ap own_of (sym mine) ∙ a.own)).0 refl in let least = total_at (hand_times a.proc) seats id v at in absurd (omega arith))
        (λ ne. let lists = sent after w m found list inside hand there (ap (λ (u : Stance). u.hand) is) a.proc in let fewer : times_on a.proc list.items ≡ times_on a.proc (without q found) = ap (times_on a.proc) left in
        let less = times_without_le a.proc q found in elsewhere seats id v at after w l a.id a.proc a.seat a.at a.own a.due (omega arith) ne)
    owed_turn after i x w (was_taken m q want found list inside few own at_state becomes kept there hand unflagged queued round leaving is) l below =
        same after i x w l below (ok_kept i x l below (λ k inside e. ap (has_flag release_ok) becomes ∙ sent_ok (is_empty found) (get_or words i 0))) (ap own_of is) (ap due_of is)
        (λ p. let lists = sent after w m found list inside hand there (ap (λ (u : Stance). u.hand) is) p in let kept_times : times_on p list.items ≡ times_on p found = ap (times_on p) kept in omega arith)
    owed_turn after i x w (withdraws q few own at_field becomes there not announced is) l below = unmoved after i x w l below (λ k inside e. absurd (omega arith)) there (ap sight is)
    owed_turn after i x w (marks m u found done rest few at_field becomes there hand marked within unlisted is) l below = unmoved after i x w l below (λ k inside e. absurd (omega arith)) there (ap sight is)
    owed_turn after i x w (detaches m found list inside at_state becomes kept there hand unflagged marked unlisted unowed unleaving is) l below =
        let lists : (p : ℕ) → on_lists p after (set seats id w) + times_on p found ≡ on_lists p homes seats + times_on p (kept_from found) =
        λ p. sent after w m found list inside hand there (ap (λ (u : Stance). u.hand) is) p ∙ ap (λ (ws : List Waiter). on_lists p homes seats + times_on p ws) kept in
        dite (ℕ_discrete l m)
        (λ here. subst (λ (k : ℕ). ReleaseOkIsOwed k (get_or (set words i x) (state_at k) 0) after (set seats id w)) (sym here)
        (detached after i x w m found inside at_state becomes hand (ap own_of is) (ap due_of is) lists (has_locker (taken_from found)) refl))
        (λ ne. same after i x w l below (ok_else i x l (λ e. ne (omega arith))) (ap own_of is) (ap due_of is) (λ p. let moved = lists p in let parted = times_parted p found in omega arith))
    owed_turn after i x w (summons m found list inside at_state becomes kept there hand unflagged marked unlisted unowed unleaving is) l below =
        same after i x w l below (ok_kept i x l below (λ k inside e. ap (has_flag release_ok) becomes ∙ clear_keeps 28 29 (get_or words i 0) refl)) (ap own_of is) (ap due_of is)
        (λ p. let lists = sent after w m found list inside hand there (ap (λ (u : Stance). u.hand) is) p in let kept_times : times_on p list.items ≡ times_on p (lockers_from found) = ap (times_on p) kept in
        let parted = times_headed p found in omega arith)
    owed_turn after i x w (returns m found list inside at_state becomes kept there hand unflagged marked unleaving is) l below =
        same after i x w l below (ok_kept i x l below (λ k inside e. ap (has_flag release_ok) becomes ∙ clear_keeps 28 29 (get_or words i 0) refl)) (ap own_of is) (ap due_of is)
        (λ p. let lists = sent after w m found list inside hand there (ap (λ (u : Stance). u.hand) is) p in let kept_times : times_on p list.items ≡ times_on p found = ap (times_on p) kept in omega arith)
    owed_turn after i x w (unmarks u us few at_field becomes there unlisted is) l below = unmoved after i x w l below (λ k inside e. absurd (omega arith)) there (ap sight is)
    owed_turn after i x w (posts u us few at_sem becomes there owed cleared is) l below = unmoved after i x w l below (λ k inside e. absurd (omega arith)) there (ap sight is)
    owed_turn after i x w (sees q few own at_sem becomes some there undowned is) l below = unmoved after i x w l below (λ k inside e. absurd (omega arith)) there (ap sight is)
    owed_turn after i x w (sleeps_down q few own at_sem becomes there downing asleep is) l below = unmoved after i x w l below (λ k inside e. absurd (omega arith)) there (ap sight is)
    owed_turn after i x w (calls_down q few own at_sem becomes there downing apart is) l below = unmoved after i x w l below (λ k inside e. absurd (omega arith)) there (ap sight is)
    owed_turn after i x w (wakes q few own at_field becomes zero_is there none unleaving round between is) l below = unmoved after i x w l below (λ k inside e. absurd (omega arith)) there (ap sight is)
    owed_turn after i x w (oversleeps q few own at_field becomes some there between is) l below = unmoved after i x w l below (λ k inside e. absurd (omega arith)) there (ap sight is)
    owed_turn after i x w (gives_back q few own at_sem becomes there some is) l below = unmoved after i x w l below (λ k inside e. absurd (omega arith)) there (ap sight is)
    owed_turn after i x w (answers m inside at_state becomes there unqueued due is) l below = λ clear. dite (ℕ_discrete l m)
        (λ here. let set_now = ok_set i x l below (omega arith) becomes in absurd (omega arith))
        (λ ne. let a = was l below (sym (ok_else i x l (λ e. ne (omega arith))) ∙ clear) in let off = a.off in let fewer = no_more after w there (λ p. ap (hand_times p) is) a.proc in
        elsewhere seats id v at after w l a.id a.proc a.seat a.at a.own a.due (omega arith) (λ here. ne (due l (ap due_of (sym (found_here seats id v at a.id a.seat a.at here)) ∙ a.due))))
    owed_turn after i x w (allows m inside at_state becomes there queued is) l below = λ clear. dite (ℕ_discrete l m)
        (λ here. let set_now = ok_set i x l below (omega arith) becomes in absurd (omega arith))
        (λ ne. same after i x w l below (ok_else i x l (λ e. ne (omega arith))) (ap own_of is) (ap due_of is) (no_more after w there (λ p. ap (hand_times p) is)) clear)
    owed_turn after i x w (pokes q few at_sem becomes there is) l below = unmoved after i x w l below (λ k inside e. absurd (omega arith)) there (ap sight is)

-- a seat comes, or is spent
pub owed_added : (l word : ℕ) (homes : Homes) (seats : List Stance) (own : Option ℕ) → ReleaseOkIsOwed l word homes seats → ReleaseOkIsOwed l word homes (seats ++ idle own [] [] ∷ [])
owed_added l word homes seats own was clear = let a = was clear in
    record { id = a.id; seat = a.seat; proc = a.proc; at = at_longer seats (idle own [] [] ∷ []) a.id a.seat a.at; own = a.own; due = a.due; off = listed_more a.proc homes seats own ∙ a.off }

pub owed_joined : (l word : ℕ) (homes : Homes) (seats : List Stance) (id other : ℕ) (v : Stance) (own : Option ℕ) (poked downed : List ℕ) → get_elem? seats id ≡ maybe.some v
    → get_elem? (set seats id (takes_over v poked downed)) other ≡ maybe.some (idle own poked downed)
    → ReleaseOkIsOwed l word homes seats → ReleaseOkIsOwed l word homes (set (set seats id (takes_over v poked downed)) other (idle None [] []))
owed_joined l word homes seats id other v own poked downed at there was clear =
    let a = was clear in let joined : List Stance = set seats id (takes_over v poked downed) in
    let b = anywhere seats id v at homes (takes_over v poked downed) l a.id a.proc a.seat a.at a.own a.due
    (listed_same homes seats id v (takes_over v poked downed) at a.proc refl ∙ a.off) refl refl in
    elsewhere joined other (idle own poked downed) there homes (idle None [] []) l b.id b.proc b.seat b.at b.own b.due
    (listed_same homes joined other (idle own poked downed) (idle None [] []) there b.proc refl ∙ b.off)
    (λ here. let none : None ≡ Some l = ap due_of (sym (found_here joined other (idle own poked downed) there b.id b.seat b.at here)) ∙ b.due in cc)
