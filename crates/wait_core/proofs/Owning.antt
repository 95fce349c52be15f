-- Seats counted by their numbers, and by the list that they have in hand.
use Rattle.std.proofs.Common.{◌≡◌, ◌≢◌, ℕ, ◌+◌, ◌≤◌, eqb, Bool, true, false, cond, List, [], map, set, Option, None, Some, sym, refl, ap, ◌∙◌, arith, eq-eqb, ne_eqb}
use mathlib.Core.Logic.{dite}
use mathlib.Core.Option as maybe
use native.Mathlib.Decide.{ℕ_discrete}
use lib.ListN.{get_elem?}
use Rattle.atomic_table.proofs.Lists.{set_here, set_else}
use Rattle.seat_roster.specs.Totals.{total}
use Rattle.seat_roster.specs.Roster.{Roster, times_in, stands}
use Rattle.seat_roster.proofs.Totals.{total_set, total_le, total_map, total_only, at_inside}
use Rattle.seat_roster.proofs.Numbers.{most_one}
use Rattle.wait_core.specs.declared.view.Kept.{Kept}
use Rattle.wait_core.specs.declared.view.WaitView.{WaitView}
use Rattle.wait_core.specs.Machine.{home_of}
use Rattle.wait_core.specs.Seating.{numbers_of}
use Rattle.wait_core.specs.Stances.{Hand, Stance, Homes, stance_of, is_just, has_slot, has_list, hand_amount, amount_by, home_amount, amount_on, both_are}
use Rattle.wait_core.proofs.Turns.{in_hand}

-- 1 where the seat has the number p
abbrev pub is_own : ℕ → Stance → ℕ
is_own p v = is_just p v.own

pub just_here : (x : ℕ) (o : Option ℕ) → o ≡ Some x → is_just x o ≡ 1
just_here x o is = ap (is_just x) is ∙ ap (λ (b : Bool). cond {A = ℕ} b 1 0) (eq-eqb x x refl)

pub just_else : (x y : ℕ) (o : Option ℕ) → o ≡ Some y → y ≢ x → is_just x o ≡ 0
just_else x y o is ne = ap (is_just x) is ∙ ap (λ (b : Bool). cond {A = ℕ} b 1 0) (ne_eqb y x ne)

pub just_most : (x : ℕ) (o : Option ℕ) → is_just x o ≤ 1
just_most x None = omega arith
just_most x (Some y) = by_test (eqb y x)
  where
    by_test : (b : Bool) → cond {A = ℕ} b 1 0 ≤ 1
    by_test true = omega arith
    by_test false = omega arith

pub both_here : (p x : ℕ) (own o : Option ℕ) → own ≡ Some p → both_are p x own o ≡ is_just x o
both_here p x own o is = ap (λ (n : Option ℕ). both_are p x n o) is ∙ ap (λ (b : Bool). cond {A = ℕ} b (is_just x o) 0) (eq-eqb p p refl)

pub both_else : (p q x : ℕ) (own o : Option ℕ) → own ≡ Some q → q ≢ p → both_are p x own o ≡ 0
both_else p q x own o is ne = ap (λ (n : Option ℕ). both_are p x n o) is ∙ ap (λ (b : Bool). cond {A = ℕ} b (is_just x o) 0) (ne_eqb q p ne)

pub both_none : (p x : ℕ) (own : Option ℕ) → both_are p x own None ≡ 0
both_none p x None = refl
both_none p x (Some q) = by_test (eqb q p)
  where
    by_test : (b : Bool) → cond {A = ℕ} b 0 0 ≡ 0
    by_test true = refl
    by_test false = refl

both_most : (p x : ℕ) (own o : Option ℕ) → both_are p x own o ≤ is_just p own
both_most p x None o = omega arith
both_most p x (Some q) o = by_test (eqb q p) (just_most x o)
  where
    by_test : (b : Bool) → is_just x o ≤ 1 → cond {A = ℕ} b (is_just x o) 0 ≤ cond {A = ℕ} b 1 0
    by_test true most = most
    by_test false most = omega arith

pub slot_here : (c : ℕ) (hand : Option Hand) (list : List ℕ) → hand ≡ in_hand c list → has_slot c hand ≡ 1
slot_here c hand list is = ap (has_slot c) is ∙ ap (λ (b : Bool). cond {A = ℕ} b 1 0) (eq-eqb c c refl)

pub slot_else : (x c : ℕ) (hand : Option Hand) (list : List ℕ) → hand ≡ in_hand c list → x ≢ c → has_slot x hand ≡ 0
slot_else x c hand list is ne = ap (has_slot x) is ∙ ap (λ (b : Bool). cond {A = ℕ} b 1 0) (ne_eqb c x (λ e. ne (sym e)))

hand_here : (f : List ℕ → ℕ) (c : ℕ) (hand : Option Hand) (list : List ℕ) → hand ≡ in_hand c list → hand_amount f c hand ≡ f list
hand_here f c hand list is = ap (hand_amount f c) is ∙ ap (λ (b : Bool). cond {A = ℕ} b (f list) 0) (eq-eqb c c refl)

hand_else : (f : List ℕ → ℕ) (x c : ℕ) (hand : Option Hand) (list : List ℕ) → hand ≡ in_hand c list → x ≢ c → hand_amount f x hand ≡ 0
hand_else f x c hand list is ne = ap (hand_amount f x) is ∙ ap (λ (b : Bool). cond {A = ℕ} b (f list) 0) (ne_eqb c x (λ e. ne (sym e)))

hand_empty : (f : List ℕ → ℕ) (x : ℕ) (hand : Option Hand) → has_slot x hand ≡ 0 → hand_amount f x hand ≡ 0
hand_empty f x None none = refl
hand_empty f x (Some h) none = by_test (eqb h.slot x) none
  where
    by_test : (b : Bool) → cond {A = ℕ} b 1 0 ≡ 0 → cond {A = ℕ} b (f h.list) 0 ≡ 0
    by_test true e = absurd (omega arith)
    by_test false e = refl

-- LISTS. What f counts of a list, once a seat or a home has changed
module _ (homes : Homes) (seats : List Stance) (id : ℕ) (v w : Stance) (at : get_elem? seats id ≡ maybe.some v) (f : List ℕ → ℕ) (none : f [] ≡ 0) (x : ℕ) where
  pub amount_same : w.hand ≡ v.hand → amount_on f x homes (set seats id w) ≡ amount_on f x homes seats
  amount_same same = let sum = total_set (amount_by f x) seats id v w at in let hand = ap (hand_amount f x) same in omega arith

  -- the list leaves its slot, and is in hand
  pub amount_out : (c : ℕ) (k : Kept) → get_elem? homes c ≡ maybe.some (maybe.some k) → v.hand ≡ None → w.hand ≡ in_hand c k.list.items → amount_on f x (set homes c maybe.none) (set seats id w) ≡ amount_on f x homes seats
  amount_out c k home free has = let sum = total_set (amount_by f x) seats id v w at in let had : hand_amount f x v.hand ≡ 0 = ap (hand_amount f x) free in dite (ℕ_discrete x c)
      (λ is. let was : home_amount f x homes ≡ f k.list.items = ap (λ (j : ℕ). home_amount f j homes) is ∙ ap (λ o. f (home_of o).list.items) home in
      let now : home_amount f x (set homes c maybe.none) ≡ 0 = ap (λ (j : ℕ). home_amount f j (set homes c maybe.none)) is ∙ ap (λ o. f (home_of o).list.items) (set_here homes c maybe.none (at_inside homes c (maybe.some k) home)) ∙ none in
      let mine : hand_amount f x w.hand ≡ f k.list.items = ap (λ (j : ℕ). hand_amount f j w.hand) is ∙ hand_here f c w.hand k.list.items has in omega arith)
      (λ ne. let mine = hand_else f x c w.hand k.list.items has ne in let now : home_amount f x (set homes c maybe.none) ≡ home_amount f x homes = ap (λ o. f (home_of o).list.items) (set_else homes c x maybe.none ne) in omega arith)

  -- the list in hand goes home, as another
  pub amount_sent : (c : ℕ) (found : List ℕ) (k : Kept) → get_elem? homes c ≡ maybe.some maybe.none → v.hand ≡ in_hand c found → w.hand ≡ None → x ≡ c
      → amount_on f x (set homes c (maybe.some k)) (set seats id w) + f found ≡ amount_on f x homes seats + f k.list.items
  amount_sent c found k out has free is = let sum = total_set (amount_by f x) seats id v w at in let mine : hand_amount f x w.hand ≡ 0 = ap (hand_amount f x) free in
      let was : home_amount f x homes ≡ 0 = ap (λ (j : ℕ). home_amount f j homes) is ∙ ap (λ o. f (home_of o).list.items) out ∙ none in
      let now : home_amount f x (set homes c (maybe.some k)) ≡ f k.list.items = ap (λ (j : ℕ). home_amount f j (set homes c (maybe.some k))) is ∙ ap (λ o. f (home_of o).list.items) (set_here homes c (maybe.some k) (at_inside homes c maybe.none out)) in
      let had : hand_amount f x v.hand ≡ f found = ap (λ (j : ℕ). hand_amount f j v.hand) is ∙ hand_here f c v.hand found has in omega arith

  pub amount_apart : (c : ℕ) (found : List ℕ) (o : maybe.Option Kept) → v.hand ≡ in_hand c found → w.hand ≡ None → x ≢ c → amount_on f x (set homes c o) (set seats id w) ≡ amount_on f x homes seats
  amount_apart c found o has free ne = let sum = total_set (amount_by f x) seats id v w at in let had = hand_else f x c v.hand found has ne in let mine : hand_amount f x w.hand ≡ 0 = ap (hand_amount f x) free in
      let now : home_amount f x (set homes c o) ≡ home_amount f x homes = ap (λ h. f (home_of h).list.items) (set_else homes c x o ne) in omega arith

-- where one seat alone has the list in hand, it is the one that counts
pub amount_held : (f : List ℕ → ℕ) → f [] ≡ 0 → (homes : Homes) (seats : List Stance) (id c : ℕ) (v : Stance) (found : List ℕ) → get_elem? seats id ≡ maybe.some v → total (has_list c) seats ≤ 1 → get_elem? homes c ≡ maybe.some maybe.none → v.hand ≡ in_hand c found
    → amount_on f c homes seats ≡ f found
amount_held f none homes seats id c v found at one out has =
    let home : home_amount f c homes ≡ 0 = ap (λ o. f (home_of o).list.items) out ∙ none in
    let only = total_only (amount_by f c) (has_list c) seats id v at one (slot_here c v.hand found has) (λ j u e no. hand_empty f c u.hand no) in
    let mine = hand_here f c v.hand found has in omega arith

-- NUMBERS. No two seats have one
abbrev pub Alone : List Stance → Type 0
Alone seats = (p : ℕ) → total (is_own p) seats ≤ 1

pub alone_stances : {C : Type 0} (procs next : ℕ) (views : List (WaitView C)) → Roster procs next (map numbers_of views) → Alone (map stance_of views)
alone_stances {C} procs next views r p =
    let a = total_map (is_own p) stance_of views in let b = total_map (stands p) numbers_of views in let most = most_one procs next (map numbers_of views) r p in
    let le = total_le (λ (v : WaitView C). is_own p (stance_of v)) (λ (v : WaitView C). stands p (numbers_of v)) views (λ i v e. by_own v.own _ _) in omega arith
  where
    by_own : (own : Option ℕ) (a b : ℕ) → is_just p own ≤ times_in p own + a + b
    by_own None a b = omega arith
    by_own (Some q) a b = omega arith

module _ (seats : List Stance) (alone : Alone seats) (id o : ℕ) (v w : Stance) (at : get_elem? seats id ≡ maybe.some v) (own : v.own ≡ Some o) (still : w.own ≡ v.own) (f : Stance → Option ℕ) (x : ℕ) where
  abbrev counts : ℕ → Stance → ℕ
  counts p u = both_are p x u.own (f u)

  -- of the seat's own number its own mark alone counts
  pub own_counts : total (counts o) seats ≡ is_just x (f v)
  own_counts = total_only (counts o) (is_own o) seats id v at (alone o) (just_here o v.own own) (λ j u e none. let most = both_most o x u.own (f u) in omega arith) ∙ both_here o x v.own (f v) own

  pub own_after : total (counts o) (set seats id w) ≡ is_just x (f w)
  own_after = let sum = total_set (counts o) seats id v w at in let was = own_counts in let mine = both_here o x v.own (f v) own in let now = both_here o x w.own (f w) (still ∙ own) in omega arith

  pub else_after : (p : ℕ) → o ≢ p → total (counts p) (set seats id w) ≡ total (counts p) seats
  else_after p ne = let sum = total_set (counts p) seats id v w at in let was = both_else p o x v.own (f v) own ne in let now = both_else p o x w.own (f w) (still ∙ own) ne in omega arith

-- of one number one seat counts
pub counts_most : (seats : List Stance) (p x : ℕ) (f : Stance → Option ℕ) → Alone seats → total (λ (u : Stance). both_are p x u.own (f u)) seats ≤ 1
counts_most seats p x f alone = let le = total_le (λ (u : Stance). both_are p x u.own (f u)) (is_own p) seats (λ i u e. both_most p x u.own (f u)) in let one = alone p in omega arith
