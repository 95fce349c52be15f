-- The parts of a state on which others rest; and who is on a list: it queued for that lock, with what it is listed for.
use Rattle.std.proofs.Common.{◌≡◌, ◌≢◌, ℕ, ◌+◌, ◌<◌, ◌≤◌, eqb, Bool, true, false, cond, List, length, map, get_or, Option, None, Some, sym, refl, ap, ◌∙◌, subst, arith}
use mathlib.Core.Logic.{dite}
use mathlib.Core.Option as maybe
use native.Mathlib.Decide.{ℕ_discrete}
use lib.ListN.{get_elem?}
use Rattle.seat_roster.specs.Totals.{total}
use Rattle.seat_roster.proofs.Totals.{at_inside, total_some, total_at, total_two, total_le, total_none}
use Rattle.seat_roster.proofs.Stretches.{at_seen}
use Rattle.lw_core.specs.declared.view.Size.{Size}
use Rattle.lw_core.specs.declared.view.View.{View}
use Rattle.lw_core.specs.declared.view.Waiter.{Waiter}
use Rattle.lw_core.specs.declared.view.Want.{Want}
use Rattle.lw_core.specs.declared.view.Want.TheVariants.{UntilFree}
use Rattle.lw_core.specs.Words.{state_at, locked, has_flag}
use Rattle.lw_core.specs.WaitLists.{times_on, times_with, home_of, home_list}
use Rattle.lw_core.specs.Machine.{LwState, number_of}
use Rattle.lw_core.specs.Stances.{Stance, Hand, Entry, hand_list, hand_times, hand_with, has_hand, has_list, home_times, is_own, on_lists, may_be_listed, entry_of, entry_is, queued_at, stance_of}
use Rattle.lw_core.specs.FlagCoversList.{hand_length, is_flag, waits_for}
use Rattle.lw_core.specs.FreeLockIsAnswered.{lock_in}
use Rattle.lw_core.specs.Rule.{PlacesFit, EachCountsHolders, EachListInOneHand, EachHandInside, EachListedOnce, EachFlagCovers, EachReleaseOkIsOwed}
use Rattle.lw_core.proofs.Lists.{some_want, times_length, times_with_le}
use Rattle.lw_core.proofs.Owning.{own_here, counted, owned, entry_there, hand_here}
use Rattle.lw_core.proofs.Answered.{found_here}

-- no two seats have one number
pub two_numbers : (seats : List Stance) → ((p : ℕ) → total (λ (u : Stance). is_own p u.own) seats ≤ 1) → (i j p : ℕ) (u v : Stance) → get_elem? seats i ≡ maybe.some u → get_elem? seats j ≡ maybe.some v → j ≢ i
    → u.own ≡ Some p → v.own ≡ Some p → ⊥
two_numbers seats alone i j p u v at there ne own own' = let two = total_two (λ (x : Stance). is_own p x.own) seats i j u v ne at there in let one = alone p in
    let a = own_here p p u.own own refl in let b = own_here p p v.own own' refl in omega arith

pub record Beside (z : Size) (s : LwState) : Type 0 where
  pub slots : length s.homes ≡ z.locks
  pub alone : (p : ℕ) → total (λ (u : Stance). is_own p u.own) (map stance_of s.views) ≤ 1
  pub places : PlacesFit s
  pub counts : EachCountsHolders z s
  pub lists : EachListInOneHand z s
  pub hands : EachHandInside z s
  pub listed : EachListedOnce z s
  pub flags : EachFlagCovers z s
  pub answers : EachReleaseOkIsOwed z s

hand_there : (p : ℕ) (o : Option Hand) → 1 ≤ times_on p (hand_list o) → (h : Hand) × (o ≡ Some h)
hand_there p None some = absurd (omega arith)
hand_there p (Some h) some = (h, refl)

module _ (z : Size) (s : LwState) (b : Beside z s) where
  abbrev seats : List Stance
  seats = map stance_of s.views

  -- how often p is on the list of l with the want, at home or in hand
  abbrev pub on_list : ℕ → Want → ℕ → ℕ
  on_list l want p = times_with p want (home_list s.homes l) + total (λ (u : Stance). hand_with l p want u.hand) seats

  -- who is listed is on the list of some lock, with some want
  somewhere : (p : ℕ) → 1 ≤ on_lists p s.homes seats → (l : ℕ) × (want : Want) × (l < z.locks) × (1 ≤ on_list l want p)
  somewhere p some = dite (ℕ_discrete (total (home_times p) s.homes) 0)
      (λ none. let t = total_some (hand_times p) seats (omega arith) in let h = hand_there p t.1.hand t.3 in let on : times_on p (hand_list t.1.hand) ≡ times_on p h.0.list = ap (λ (o : Option Hand). times_on p (hand_list o)) h.1 in
      let w = some_want p h.0.list (omega arith) in
      let mine : hand_with h.0.lock p w.0 t.1.hand ≡ times_with p w.0 h.0.list = hand_here (times_with p w.0) h.0.lock h.0.lock t.1.hand h.0.list h.1 refl in
      let least = total_at (λ (u : Stance). hand_with h.0.lock p w.0 u.hand) seats t.0 t.1 t.2 in (h.0.lock, w.0, b.hands t.0 t.1 h.0 t.2 h.1, omega arith))
      (λ more. let t = total_some (home_times p) s.homes (omega arith) in let on : times_on p (home_list s.homes t.0) ≡ home_times p t.1 = ap (λ h. times_on p (home_of h)) t.2 in
      let w = some_want p (home_list s.homes t.0) (omega arith) in let inside = at_inside s.homes t.0 t.1 t.2 in let slots = b.slots in (t.0, w.0, omega arith, omega arith))

  -- and queued for it
  pub queued_for : (id p : ℕ) (v : View) → get_elem? s.views id ≡ maybe.some v → v.own ≡ Some p → 1 ≤ on_lists p s.homes seats → (l : ℕ) × (want : Want) × (queued_at v.place ≡ entry_of l want) × (1 ≤ on_list l want p)
  queued_for id p v at own some =
      let on = somewhere p some in let l : ℕ = on.0 in let want : Want = on.1 in let times_on = on.3 in let round = b.listed.for_round l on.2 want p in
      let t = total_some (may_be_listed l want p) seats (omega arith) in let is = counted (entry_is l want t.1.queued) (is_own p t.1.own) t.3 in let there = at_seen stance_of s.views id v (stance_of v) at refl in
      let mine : t.1 ≡ stance_of v = dite (ℕ_discrete t.0 id) (λ here. found_here seats id (stance_of v) there t.0 t.1 t.2 here)
      (λ ne. absurd (two_numbers seats b.alone id t.0 p (stance_of v) t.1 there t.2 ne own (owned p t.1.own is.1))) in
      (l, want, sym (ap (λ (u : Stance). u.queued) mine) ∙ entry_there l want t.1.queued is.0, times_on)

  -- so the list of the lock for which it queued, at home or in hand, isn't empty
  pub listed_there : (l id p : ℕ) (v : View) → get_elem? s.views id ≡ maybe.some v → v.own ≡ Some p → lock_in (queued_at v.place) ≡ Some l → 1 ≤ on_lists p s.homes seats → 1 ≤ length (home_list s.homes l) + total (waits_for l) seats
  listed_there l id p v at own queued some =
      let t = queued_for id p v at own some in let on = t.3 in let is : t.0 ≡ l = ap number_of (sym (ap lock_in t.2) ∙ queued) in
      let at_home = with_most p t.1 (home_list s.homes t.0) in let in_hand = total_le (λ (u : Stance). hand_with t.0 p t.1 u.hand) (waits_for t.0) seats (λ i u e. hand_most t.0 p t.1 u.hand u.flagged) in
      subst (λ (k : ℕ). 1 ≤ length (home_list s.homes k) + total (waits_for k) seats) is (omega arith)
    where
      with_most : (p : ℕ) (want : Want) (ws : List Waiter) → times_with p want ws ≤ length ws
      with_most p want ws = let a = times_with_le p want ws in let b = times_length p ws in omega arith

      hand_most : (k p : ℕ) (want : Want) (o : Option Hand) (f : Option ℕ) → hand_with k p want o ≤ hand_length k o + is_flag k f
      hand_most k p want None f = omega arith
      hand_most k p want (Some h) f = by_lock (eqb h.lock k)
        where
          by_lock : (b : Bool) → cond b (times_with p want h.list) 0 ≤ cond b (length h.list) 0 + is_flag k f
          by_lock true = let a = with_most p want h.list in omega arith
          by_lock false = omega arith

  -- where nobody who waits until l is free is on its list at home, and no list of l is in hand, nobody who queued so is listed
  pub none_there : (l id p : ℕ) (v : View) → l < z.locks → get_elem? s.views id ≡ maybe.some v → v.own ≡ Some p → queued_at v.place ≡ entry_of l UntilFree → times_with p UntilFree (home_list s.homes l) ≡ 0
      → has_flag locked (get_or s.words (state_at l) 0) ≡ 0 → 1 ≤ on_lists p s.homes seats → ⊥
  none_there l id p v below at own queued none clear some =
      let t = queued_for id p v at own some in let one = (b.lists l below).one in
      let same : on_list t.0 t.1 p ≡ on_list l UntilFree p = ap on_entry (sym t.2 ∙ queued) in let on = t.3 in
      let in_hand = total_none (λ (u : Stance). hand_with l p UntilFree u.hand) seats (λ i u e. out_of_hand u.hand (let least = total_at (has_list l) seats i u e in omega arith)) in omega arith
    where
      on_entry : Option Entry → ℕ
      on_entry None = 0
      on_entry (Some e) = on_list e.lock e.want p

      out_of_hand : (o : Option Hand) → has_hand l o ≡ 0 → hand_with l p UntilFree o ≡ 0
      out_of_hand None e = refl
      out_of_hand (Some h) e = by_lock (eqb h.lock l) e
        where
          by_lock : (b : Bool) → cond {A = ℕ} b 1 0 ≡ 0 → cond b (times_with p UntilFree h.list) 0 ≡ 0
          by_lock true none = absurd (omega arith)
          by_lock false none = refl
