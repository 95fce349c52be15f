-- How often a backend is listed, once a list or the stance of a seat has changed.
use Rattle.std.proofs.Common.{◌≡◌, ℕ, ◌+◌, List, [], ◌∷◌, ◌++◌, map, set, Option, None, refl, ap, ◌∙◌, arith}
use mathlib.Core.Option as maybe
use lib.ListN.{get_elem?}
use Rattle.seat_roster.proofs.Totals.{total_set, total_snoc}
use Rattle.seat_roster.proofs.Stretches.{seen, seen_more, at_seen}
use Rattle.lw_core.specs.declared.view.View.{View}
use Rattle.lw_core.specs.declared.view.Waiter.{Waiter}
use Rattle.lw_core.specs.Words.{Waiters}
use Rattle.lw_core.specs.WaitLists.{times_on}
use Rattle.lw_core.specs.Machine.{Place, fresh}
use Rattle.lw_core.specs.Stances.{Stance, Hand, hand_of, hand_list, hand_at, home_times, hand_times, on_lists, stance_of}
use Rattle.lw_core.proofs.Turns.{Homes, idle}

pub times_in_hand : (p : ℕ) (v : Stance) (hand : Option Hand) → v.hand ≡ hand → hand_times p v ≡ times_on p (hand_list hand)
times_in_hand p v hand e = ap (λ (o : Option Hand). times_on p (hand_list o)) e

module _ (homes : Homes) (seats : List Stance) (id : ℕ) (v w : Stance) (at : get_elem? seats id ≡ maybe.some v) (p : ℕ) where
  -- no list moves
  pub listed_same : hand_times p w ≡ hand_times p v → on_lists p homes (set seats id w) ≡ on_lists p homes seats
  listed_same same = let sum = total_set (hand_times p) seats id v w at in omega arith

  -- the list in hand goes home, as another
  pub listed_sent : (l : ℕ) (found : List Waiter) (list : Waiters) → get_elem? homes l ≡ maybe.some maybe.none → v.hand ≡ hand_of l found → w.hand ≡ None
      → on_lists p (set homes l (maybe.some list)) (set seats id w) + times_on p found ≡ on_lists p homes seats + times_on p list.items
  listed_sent l found list out hand none = let sum = total_set (hand_times p) seats id v w at in let moved = total_set (home_times p) homes l maybe.none (maybe.some list) out in
      let had = times_in_hand p v (hand_of l found) hand in let has = times_in_hand p w None none in omega arith

  -- a list leaves its slot, and is in hand
  pub listed_out : (l : ℕ) (list : Waiters) → get_elem? homes l ≡ maybe.some (maybe.some list) → v.hand ≡ None → w.hand ≡ hand_of l list.items → on_lists p (set homes l maybe.none) (set seats id w) ≡ on_lists p homes seats
  listed_out l list home none hand = let sum = total_set (hand_times p) seats id v w at in let moved = total_set (home_times p) homes l (maybe.some list) maybe.none home in
      let had = times_in_hand p v None none in let has = times_in_hand p w (hand_of l list.items) hand in omega arith

-- a seat comes that has nothing in hand
pub listed_more : (p : ℕ) (homes : Homes) (seats : List Stance) (own : Option ℕ) → on_lists p homes (seats ++ idle own [] [] ∷ []) ≡ on_lists p homes seats
listed_more p homes seats own = let sum = total_snoc (hand_times p) seats (idle own [] []) in omega arith

-- a seat stands where it stood; and one comes, of the views
pub listed_stands : (homes : Homes) (views : List View) (id : ℕ) (v w : View) → get_elem? views id ≡ maybe.some v → w.place ≡ v.place → (p : ℕ) → on_lists p homes (map stance_of (set views id w)) ≡ on_lists p homes (map stance_of views)
listed_stands homes views id v w at place p = ap (on_lists p homes) (seen stance_of views id w (stance_of w) refl)
    ∙ listed_same homes (map stance_of views) id (stance_of v) (stance_of w) (at_seen stance_of views id v (stance_of v) at refl) p (ap (λ (q : Place). times_on p (hand_list (hand_at q))) place)

pub listed_comes : (homes : Homes) (views : List View) (own : Option ℕ) (p : ℕ) → on_lists p homes (map stance_of (views ++ fresh own ∷ [])) ≡ on_lists p homes (map stance_of views)
listed_comes homes views own p = ap (on_lists p homes) (seen_more stance_of views (fresh own)) ∙ listed_more p homes (map stance_of views) own
