-- After each turn nobody is listed more, but who queues; and who answers for a lock still does, but who sets its RELEASE_OK.
use Rattle.std.proofs.Common.{◌≡◌, ℕ, ◌+◌, ◌<◌, ◌≤◌, Bool, true, false, cond, List, set, Option, None, Some, sym, refl, ap, ◌∙◌, arith, eqb, ne_eqb}
use mathlib.Core.Logic.{dite}
use mathlib.Core.Option as maybe
use native.Mathlib.Decide.{ℕ_discrete}
use lib.ListN.{get_elem?}
use Rattle.seat_roster.specs.Totals.{total}
use Rattle.seat_roster.proofs.Totals.{total_at, total_two}
use Rattle.lw_core.specs.declared.view.Size.{Size}
use Rattle.lw_core.specs.declared.view.Waiter.{Waiter}
use Rattle.lw_core.specs.Words.{Waiters}
use Rattle.lw_core.specs.WaitLists.{waiter, times_on, without, kept_from, lockers_from}
use Rattle.lw_core.specs.Stances.{Stance, Hand, hand_of, hand_list, hand_times, is_own, on_lists}
use Rattle.lw_core.specs.ListedOnce.{ListedOnce}
use Rattle.lw_core.specs.ReleaseOkIsOwed.{Answers}
use Rattle.lw_core.proofs.Turns.{Homes, Turn, stays, takes, flags, announces, queues, checks, leaves, was_taken, withdraws, marks, detaches, summons, returns, unmarks, posts, sees, sleeps_down, calls_down, wakes, oversleeps, gives_back, answers, allows, pokes, IsSound}
use Rattle.lw_core.proofs.Lists.{times_joined, times_parted, times_headed}
use Rattle.lw_core.proofs.Listing.{listed_same, listed_sent, listed_out}
use Rattle.lw_core.proofs.Owning.{own_here}
use Rattle.lw_core.proofs.Lists.{times_without_le}
use Rattle.seat_roster.proofs.Totals.{set_there}
use Rattle.lw_core.proofs.Answered.{found_here, elsewhere}

abbrev hand_in : Stance → Option Hand
hand_in u = u.hand

abbrev due_in : Stance → Option ℕ
due_in u = u.due

-- what isn't true is false
not_true : (b : Bool) → (b ≡ true → ⊥) → b ≡ false
not_true true other = absurd (other refl)
not_true false other = refl

module _ (z : Size) (words : List ℕ) (homes : Homes) (seats : List Stance)
    (out : (j l : ℕ) (u : Stance) (found : List Waiter) → get_elem? seats j ≡ maybe.some u → l < z.locks → u.hand ≡ hand_of l found → get_elem? homes l ≡ maybe.some maybe.none)
    (id : ℕ) (v : Stance) (at : get_elem? seats id ≡ maybe.some v) (after : Homes) (i x : ℕ) (w : Stance) where
  -- no list moves
  unmoved : after ≡ homes → w.hand ≡ v.hand → (p : ℕ) → on_lists p after (set seats id w) ≤ on_lists p homes seats
  unmoved there hand p = let lists = listed_same homes seats id v w at p (ap (λ (h : Option Hand). times_on p (hand_list h)) hand) in
      let same : on_lists p after (set seats id w) ≡ on_lists p homes (set seats id w) = ap (λ (h : Homes). on_lists p h (set seats id w)) there in omega arith

  -- a list goes home, and p isn't on it more often than it was
  sent : (l : ℕ) (found : List Waiter) (list : Waiters) → l < z.locks → v.hand ≡ hand_of l found → after ≡ set homes l (maybe.some list) → w.hand ≡ None → (p : ℕ) → times_on p list.items ≤ times_on p found
      → on_lists p after (set seats id w) ≤ on_lists p homes seats
  sent l found list inside hand there none p fewer =
      let lists = listed_sent homes seats id v w at p l found list (out id l v found at inside hand) hand none in
      let same : on_lists p after (set seats id w) ≡ on_lists p (set homes l (maybe.some list)) (set seats id w) = ap (λ (h : Homes). on_lists p h (set seats id w)) there in omega arith

  pub listed_fewer : Turn z words homes after i x v w → (p : ℕ) → (v.own ≡ Some p → v.announced ≡ false) → on_lists p after (set seats id w) ≤ on_lists p homes seats
  listed_fewer (stays still there is) p quiet = unmoved there (ap hand_in is) p
  listed_fewer (takes l list inside at_state clear to home there none is) p quiet =
      let lists = listed_out homes seats id v w at p l list home none (ap hand_in is) in
      let moved : on_lists p after (set seats id w) ≡ on_lists p (set homes l maybe.none) (set seats id w) = ap (λ (h : Homes). on_lists p h (set seats id w)) there in omega arith
  listed_fewer (flags l found inside at_state to there hand none is) p quiet = unmoved there (ap hand_in is) p
  listed_fewer (announces q few own at_field to there round none is) p quiet = unmoved there (ap hand_in is) p
  listed_fewer (queues l q want found list inside few own at_state to items there hand flagged announced round none is) p quiet = dite (ℕ_discrete p q)
      (λ same. let silent : v.announced ≡ false = quiet (own ∙ ap Some (sym same)) in absurd (cc))
      (λ ne. let joined : times_on p list.items ≡ times_on p found + cond (eqb q p) 1 0 = ap (times_on p) items ∙ times_joined p (waiter q want) found in
      let none_more : cond {A = ℕ} (eqb q p) 1 0 ≡ 0 = ap (λ (b : Bool). cond b 1 0) (ne_eqb q p (λ e. ne (sym e))) in sent l found list inside hand there (ap hand_in is) p (omega arith))
  listed_fewer (checks l q want found few own at_field to there hand queued round none is) p quiet = unmoved there (ap hand_in is) p
  listed_fewer (leaves l q want found list inside few own at_state to items there hand flagged queued round leaving none is) p quiet =
      let fewer : times_on p list.items ≡ times_on p (without q found) = ap (times_on p) items in let less = times_without_le p q found in sent l found list inside hand there (ap hand_in is) p (omega arith)
  listed_fewer (was_taken l q want found list inside few own at_state to items there hand flagged queued round leaving is) p quiet =
      let same : times_on p list.items ≡ times_on p found = ap (times_on p) items in sent l found list inside hand there (ap hand_in is) p (omega arith)
  listed_fewer (withdraws q few own at_field to there round announced is) p quiet = unmoved there (ap hand_in is) p
  listed_fewer (marks l u found done rest few at_field to there hand marked within none is) p quiet = unmoved there (ap hand_in is) p
  listed_fewer (detaches l found list inside at_state to items there hand flagged marked unlisted owed leaving is) p quiet =
      let same : times_on p list.items ≡ times_on p (kept_from found) = ap (times_on p) items in let parts = times_parted p found in sent l found list inside hand there (ap hand_in is) p (omega arith)
  listed_fewer (summons l found list inside at_state to items there hand flagged marked unlisted owed leaving is) p quiet =
      let same : times_on p list.items ≡ times_on p (lockers_from found) = ap (times_on p) items in let parts = times_headed p found in sent l found list inside hand there (ap hand_in is) p (omega arith)
  listed_fewer (returns l found list inside at_state to items there hand flagged marked leaving is) p quiet =
      let same : times_on p list.items ≡ times_on p found = ap (times_on p) items in sent l found list inside hand there (ap hand_in is) p (omega arith)
  listed_fewer (unmarks u us few at_field to there unlisted is) p quiet = unmoved there (ap hand_in is) p
  listed_fewer (posts u us few at_sem to there owed cleared is) p quiet = unmoved there (ap hand_in is) p
  listed_fewer (sees q few own at_sem to some there none is) p quiet = unmoved there (ap hand_in is) p
  listed_fewer (sleeps_down q few own at_sem to there downing between is) p quiet = unmoved there (ap hand_in is) p
  listed_fewer (calls_down q few own at_sem to there downing apart is) p quiet = unmoved there (ap hand_in is) p
  listed_fewer (wakes q few own at_field to zero_is there none leaving round between is) p quiet = unmoved there (ap hand_in is) p
  listed_fewer (oversleeps q few own at_field to some there between is) p quiet = unmoved there (ap hand_in is) p
  listed_fewer (gives_back q few own at_sem to there some is) p quiet = unmoved there (ap hand_in is) p
  listed_fewer (answers l inside at_state to there queued due is) p quiet = unmoved there (ap hand_in is) p
  listed_fewer (allows l inside at_state to there queued is) p quiet = unmoved there (ap hand_in is) p
  listed_fewer (pokes q few at_sem to there is) p quiet = unmoved there (ap hand_in is) p

  -- what is due stays due, where the seat neither queues nor leaves a list that it is on nor sets RELEASE_OK
  due_stays : (l : ℕ) → v.due ≡ Some l → v.announced ≡ false → (v.leaving ≡ Some true → ⊥) → (v.queued ≡ None → ⊥) → Turn z words homes after i x v w → w.due ≡ Some l
  due_stays l due quiet stays_on waits (stays still there is) = ap due_in is ∙ due
  due_stays l due quiet stays_on waits (takes k list inside at_state clear to home there none is) = ap due_in is ∙ due
  due_stays l due quiet stays_on waits (flags k found inside at_state to there hand none is) = ap due_in is ∙ due
  due_stays l due quiet stays_on waits (announces q few own at_field to there round none is) = ap due_in is ∙ due
  due_stays l due quiet stays_on waits (queues k q want found list inside few own at_state to items there hand flagged announced round none is) = absurd (cc)
  due_stays l due quiet stays_on waits (checks k q want found few own at_field to there hand queued round none is) = ap due_in is ∙ due
  due_stays l due quiet stays_on waits (leaves k q want found list inside few own at_state to items there hand flagged queued round leaving none is) = absurd (stays_on leaving)
  due_stays l due quiet stays_on waits (was_taken k q want found list inside few own at_state to items there hand flagged queued round leaving is) = ap due_in is ∙ due
  due_stays l due quiet stays_on waits (withdraws q few own at_field to there round announced is) = absurd (cc)
  due_stays l due quiet stays_on waits (marks k u found done rest few at_field to there hand marked within none is) = ap due_in is ∙ due
  due_stays l due quiet stays_on waits (detaches k found list inside at_state to items there hand flagged marked unlisted owed leaving is) = ap due_in is ∙ due
  due_stays l due quiet stays_on waits (summons k found list inside at_state to items there hand flagged marked unlisted owed leaving is) = ap due_in is ∙ due
  due_stays l due quiet stays_on waits (returns k found list inside at_state to items there hand flagged marked leaving is) = ap due_in is ∙ due
  due_stays l due quiet stays_on waits (unmarks u us few at_field to there unlisted is) = ap due_in is ∙ due
  due_stays l due quiet stays_on waits (posts u us few at_sem to there owed cleared is) = ap due_in is ∙ due
  due_stays l due quiet stays_on waits (sees q few own at_sem to some there none is) = ap due_in is ∙ due
  due_stays l due quiet stays_on waits (sleeps_down q few own at_sem to there downing between is) = ap due_in is ∙ due
  due_stays l due quiet stays_on waits (calls_down q few own at_sem to there downing apart is) = ap due_in is ∙ due
  due_stays l due quiet stays_on waits (wakes q few own at_field to zero_is there none leaving round between is) = ap due_in is ∙ due
  due_stays l due quiet stays_on waits (oversleeps q few own at_field to some there between is) = ap due_in is ∙ due
  due_stays l due quiet stays_on waits (gives_back q few own at_sem to there some is) = ap due_in is ∙ due
  due_stays l due quiet stays_on waits (answers k inside at_state to there queued just is) = absurd (waits queued)
  due_stays l due quiet stays_on waits (allows k inside at_state to there queued is) = ap due_in is ∙ due
  due_stays l due quiet stays_on waits (pokes q few at_sem to there is) = ap due_in is ∙ due

  -- THE LAW of who answers
  pub still_answers : w.own ≡ v.own → ((q : ℕ) → total (λ (u : Stance). is_own q u.own) seats ≤ 1) → IsSound v → ListedOnce z.locks homes seats → Turn z words homes after i x v w
      → (l : ℕ) → (v.queued ≡ None → v.due ≡ Some l → ⊥) → Answers l homes seats → Answers l after (set seats id w)
  still_answers own alone sound once t l waits a = let off = a.off in dite (ℕ_discrete a.id id)
      (λ here. let same : a.seat ≡ v = found_here seats id v at a.id a.seat a.at here in
      let due : v.due ≡ Some l = ap due_in (sym same) ∙ a.due in let number : v.own ≡ Some a.proc = ap (λ (u : Stance). u.own) (sym same) ∙ a.own in
      let quiet = not_true v.announced (λ told. let none : v.due ≡ None = sound.undue told in let no : None ≡ Some l = sym none ∙ due in cc) in
      let fewer = listed_fewer t a.proc (λ _. quiet) in
      let stays_on : v.leaving ≡ Some true → ⊥ = λ e. let on = (once.leaves id v at true a.proc e number).0 refl in let least = total_at (hand_times a.proc) seats id v at in omega arith in
      record { id = id; seat = w; proc = a.proc; at = set_there seats id v w at; own = own ∙ number; due = due_stays l due quiet stays_on (λ none. waits none due) t; off = omega arith })
      (λ ne. let fewer = listed_fewer t a.proc (λ e. absurd (let two = total_two (λ (u : Stance). is_own a.proc u.own) seats id a.id v a.seat ne at a.at in let one = alone a.proc in
      let his = own_here a.proc a.proc a.seat.own a.own refl in let my = own_here a.proc a.proc v.own e refl in omega arith)) in
      elsewhere seats id v at after w l a.id a.proc a.seat a.at a.own a.due (omega arith) ne)
