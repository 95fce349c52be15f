-- What is taken in hand was at home, and its list holds backends of the table, each once.
use Rattle.std.proofs.Common.{◌≡◌, ◌≢◌, ℕ, ◌<◌, ◌≤◌, eqb, Bool, true, false, cond, List, map, get_or, Option, None, Some, refl, sym, ap, ◌∙◌, subst, arith, eqb-true}
use mathlib.Core.Logic.{dite}
use mathlib.Core.Option as maybe
use native.Mathlib.Decide.{ℕ_discrete}
use lib.ListN.{get_elem?}
use Rattle.atomic_table.specs.Table.{Valid, keeps, takes}
use Rattle.atomic_table.proofs.Lists.{at_map}
use Rattle.seat_roster.specs.Totals.{total}
use Rattle.seat_roster.specs.Roster.{Roster, times}
use Rattle.seat_roster.proofs.Totals.{total_none}
use Rattle.seat_roster.proofs.Numbers.{own_inside}
use Rattle.seat_roster.proofs.Stretches.{from_seen}
use Rattle.wait_core.specs.declared.step.WaitStep.{WaitStep}
use Rattle.wait_core.specs.declared.step.WaitStep.TheVariants.{Take, Free}
use Rattle.wait_core.specs.declared.view.Kept.{Kept}
use Rattle.wait_core.specs.declared.view.Size.{Size}
use Rattle.wait_core.specs.declared.view.WaitView.{WaitView}
use Rattle.wait_core.specs.Words.{most_conditions, slot_of, spin_at, slots_in}
use Rattle.wait_core.specs.Lists.{is_listed}
use Rattle.wait_core.specs.Machine.{Place, home_of, home_in, slot_number, word_of, act_of, Permits}
use Rattle.wait_core.specs.Seating.{numbers_of}
use Rattle.wait_core.specs.Stances.{Stance, Homes, stance_of, both_are, is_just, belongs_to}
use Rattle.wait_core.specs.ListsStand.{ListsStand}
use Rattle.wait_core.specs.Told.{TellsList, Tells}
use Rattle.wait_core.proofs.Effects.{spot_inside}
use Rattle.wait_core.proofs.Lists.{listed_there, not_listed, fits_below, room_below, all_below}
use Rattle.wait_core.proofs.Owning.{both_else, counts_most, own_counts, just_else, alone_stances}

module _ {C : Type 0} (z : Size) (most : z.cvs ≤ most_conditions) (next : ℕ) (words : List ℕ) (homes : Homes) (views : List (WaitView C)) (few : next ≤ z.procs) (roster : Roster z.procs next (map numbers_of views)) (stand : ListsStand z words homes (map stance_of views)) where
  abbrev seats : List Stance
  seats = map stance_of views

  -- no seat has such a number
  strange : (q x : ℕ) → z.procs ≤ q → total (belongs_to q x) seats ≡ 0
  strange q x more = total_none (belongs_to q x) seats (λ i v at. let u = from_seen stance_of views i v at in subst (λ (y : Stance). belongs_to q x y ≡ 0) u.2 (by_own i u.0 u.1 u.0.own refl))
    where
      by_own : (i : ℕ) (u : WaitView C) → get_elem? views i ≡ maybe.some u → (own : Option ℕ) → u.own ≡ own → belongs_to q x (stance_of u) ≡ 0
      by_own i u at None is = ap (λ (o : Option ℕ). both_are q x o (stance_of u).belongs) is
      by_own i u at (Some p) is = let below = own_inside z.procs next (map numbers_of views) roster i p (numbers_of u) (at_map numbers_of views i u at) is in both_else q p x u.own (stance_of u).belongs is (λ e. omega arith)

  module _ (x : ℕ) (inside : x < slots_in z) (k : Kept) (home : get_elem? homes x ≡ maybe.some (maybe.some k)) where
    on_list : (q : ℕ) → times q k.list.items ≤ total (belongs_to q x) seats
    on_list q = let all = stand.listed q x inside in let here = ap (λ (h : maybe.Option (maybe.Option Kept)). times q (home_of h).list.items) home in omega arith

    once : (q : ℕ) → times q k.list.items ≤ 1
    once q = let on = on_list q in let one = counts_most seats q x (λ v. v.belongs) (alone_stances z.procs next views roster) in omega arith

    -- the backend of this seat
    belongs_here : (id : ℕ) (v : Stance) → get_elem? seats id ≡ maybe.some v → (own : ℕ) → v.own ≡ Some own → is_listed own k.list.items ≡ true → v.belongs ≡ Some x
    belongs_here id v at own mine on =
        let there = listed_there own k.list.items on in let h = on_list own in let one = own_counts seats (alone_stances z.procs next views roster) id own v v at mine refl (λ u. u.belongs) x in
        by_belongs v.belongs (omega arith)
      where
        by_belongs : (b : Option ℕ) → 1 ≤ is_just x b → b ≡ Some x
        by_belongs None h = absurd (omega arith)
        by_belongs (Some y) h = dite (ℕ_discrete y x) (λ (e : y ≡ x). ap (λ (n : ℕ). Some n) e) (λ (ne : y ≢ x). let none = just_else x y (Some y) refl ne in absurd (omega arith))

    pub tells_list : (id : ℕ) (v : Stance) → get_elem? seats id ≡ maybe.some v → (own : ℕ) → v.own ≡ Some own → own < z.procs → TellsList z own v.belongs x k.list.items
    tells_list id v at own mine below =
        let all = all_below z.procs k.list.items (λ q more. let on = on_list q in let none = strange q x more in omega arith) in
        record { all = all; few = fits_below z.procs k.list.items all once; once = once own; mine = belongs_here id v at own mine; room = λ off. room_below z.procs k.list.items all once own below (not_listed own k.list.items off) }

  -- a spin word is found clear
  module _ (o : ℕ) (own t : Option ℕ) (p : Place) where
    taken_home : (x : ℕ) → x < slots_in z → get_or words (spin_at z x) 0 ≡ 0 → get_elem? homes x ≡ maybe.some (maybe.some (home_in homes x))
    taken_home x inside clear = let there = (stand.hands x inside).at_home clear in there.1 ∙ ap (λ (k : Kept). maybe.some (maybe.some k)) (sym (ap home_of there.1))

    take_valid : (x : ℕ) (c : List (ℕ × Kept)) → x < slots_in z → Valid homes c (cond (eqb (get_or words (spin_at z x) 0) 0) (takes x (home_in homes x)) keeps)
    take_valid x c inside = by_word (eqb (get_or words (spin_at z x) 0) 0) refl
      where
        by_word : (clear : Bool) → eqb (get_or words (spin_at z x) 0) 0 ≡ clear → Valid homes c (cond clear (takes x (home_in homes x)) keeps)
        by_word true e = taken_home x inside (eqb-true _ 0 e)
        by_word false e = tt

    pub act_valid : (k : WaitStep) → Permits z k own t p → (c : List (ℕ × Kept)) → Valid homes c (act_of k (get_or words (word_of z o k) 0) (home_in homes (slot_number k)))
    act_valid (Take x (Some b)) ok c = take_valid (slot_of x) c (spot_inside z x most ok.0)
    act_valid (Take x None) ok c = take_valid (slot_of x) c (spot_inside z x most ok.0)
    act_valid (Free x after) ok c = tt
    act_valid k ok c = tt

    pub step_tells : (k : WaitStep) → Permits z k own t p → (id : ℕ) (v : Stance) → get_elem? seats id ≡ maybe.some v → v.own ≡ Some o → o < z.procs → Tells z k o v.belongs (get_or words (word_of z o k) 0) (home_in homes (slot_number k)).list.items
    step_tells (Take x (Some b)) ok id v at mine below = λ clear. tells_list (slot_of x) (spot_inside z x most ok.0) (home_in homes (slot_of x)) (taken_home (slot_of x) (spot_inside z x most ok.0) clear) id v at o mine below
    step_tells (Take x None) ok id v at mine below = λ clear. tells_list (slot_of x) (spot_inside z x most ok.0) (home_in homes (slot_of x)) (taken_home (slot_of x) (spot_inside z x most ok.0) clear) id v at o mine below
    step_tells k ok id v at mine below = tt
