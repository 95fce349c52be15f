-- Each step leaves lists at home that the steps of the seats account for.
use Rattle.std.proofs.Common.{◌≡◌, ℕ, zero, suc, ◌<◌, eqb, Bool, true, false, cond, List, [], ◌∷◌, ◌++◌, length, map, get_or, set, Option, None, Some, refl, sym, ap, ◌∙◌, subst, arith, eq-eqb}
use Rattle.std.proofs.lemmas.Bool.{eqb-true}
use Rattle.std.proofs.lemmas.List.{length-map}
use mathlib.Core.Option as maybe
use lib.ListN.{get_elem?}
use lib.Seq.{map-set}
use Rattle.atomic_table.specs.Table.{keeps, takes, gives, homes_after}
use Rattle.atomic_table.proofs.Lists.{at_map}
use Rattle.seat_roster.specs.WordsAreMade.{signed, AreMade}
use Rattle.seat_roster.proofs.Totals.{at_inside}
use Rattle.seat_roster.proofs.WordsAreMade.{one_more, both_taken}
use Rattle.seat_roster.proofs.WordsAreMade as roster
use Rattle.seat_roster.proofs.Stretches.{seen, seen_more, unseen, for_same}
use Rattle.lw_core.specs.declared.step.LwStep.{LwStep}
use Rattle.lw_core.specs.declared.step.LwStep.TheVariants as kind
use Rattle.lw_core.specs.declared.view.Made.{Made}
use Rattle.lw_core.specs.declared.view.Size.{Size}
use Rattle.lw_core.specs.declared.view.View.{View}
use Rattle.lw_core.specs.declared.view.Waiter.{Waiter}
use Rattle.lw_core.specs.Words.{Waiters}
use Rattle.lw_core.specs.WaitLists.{waiter, same_want, AllEmpty, home_of, home_list}
use Rattle.lw_core.specs.Machine.{LwState, number_of, lock_number, word_of, next, left_at, sends_home, takes_list, list_of, made_with, as_waiters, act_of, carried, IsInRange, Allowed, after, fresh}
use Rattle.lw_core.specs.Stances.{Hand, hand_of, hand_at, stance_of}
use Rattle.lw_core.specs.WordsAreMade.{all_steps}
use Rattle.lw_core.specs.ListsAreMade.{is_same, is_home, moves, at_homes, ListsAreMade, StepsDecideLists}
use Rattle.lw_core.specs.Told.{lock_in_hand}
use Rattle.lw_core.specs.Rule.{EachListIsMade, Rule}
use Rattle.lw_core.specs.Runs.{drew_one, stays, comes, both, spent, drawn, split, joined}
use Rattle.lw_core.proofs.Lists.{same_want_is, same_want_self}
use Rattle.lw_core.proofs.Turns.{Homes}
use Rattle.lw_core.proofs.Turning.{sending_at, detaching_at}
use Rattle.lw_core.proofs.Seats.{out, seat_at}
use Rattle.lw_core.proofs.WordsAreMade.{steps_after}

-- what a slot says of this list
home_bit : (list : List Waiter) (homes : Homes) (l : ℕ) (h : maybe.Option Waiters) → get_elem? homes l ≡ maybe.some h → is_home list h ≡ get_or (map (is_home list) homes) l 0
home_bit list [] l h at = absurd (maybe.some-ne-none h (sym at))
home_bit list (k ∷ homes) zero h at = ap (is_home list) (sym (maybe.some-injective _ _ at))
home_bit list (k ∷ homes) (suc l) h at = home_bit list homes l h at

-- where the slot l gets h, what the slots say of a list changes there
slot_set : (list : List Waiter) (homes : Homes) (l : ℕ) (h : maybe.Option Waiters) → set (at_homes list homes) (suc l) (is_home list h) ≡ at_homes list (set homes l h)
slot_set list homes l h = ap (λ (x : List ℕ). 0 ∷ x) (sym (map-set (is_home list) homes l h))

module _ (lawful : ℕ → List ℕ → Type 0) (z : Size) (s : LwState) (r : Rule lawful z s) (id : ℕ) (v : View) (at : get_elem? s.views id ≡ maybe.some v) where
  abbrev own : ℕ
  own = number_of v.own

  -- with one step more
  abbrev more : Made → List (ℕ × Made)
  more m = signed own (v.steps ++ m ∷ []) ++ v.inherited

  abbrev Accounts : List Waiter → Homes → List (List (ℕ × Made)) → Type 0
  Accounts list homes seats = AreMade (moves list) (λ i. is_same list []) (suc z.locks) (at_homes list homes) seats

  -- the list of a lock that the seat has in hand isn't at home
  out_of : (l : ℕ) → l < z.locks → lock_in_hand (hand_at v.place) ≡ Some l → get_elem? s.homes l ≡ maybe.some maybe.none
  out_of l below held = by_hand (hand_at v.place) refl held
    where
      by_hand : (o : Option Hand) → hand_at v.place ≡ o → lock_in_hand o ≡ Some l → get_elem? s.homes l ≡ maybe.some maybe.none
      by_hand None e is = absurd (cc)
      by_hand (Some h) e is = out lawful z s r id l (stance_of v) h.list (seat_at lawful z s r id v at) below (e ∙ ap (λ (j : ℕ). hand_of j h.list) (ap number_of is))

  -- a step that makes of the slots what its effect says
  counted : (list : List Waiter) (m : Made) (slots : Homes)
      → (moves list).word own m < suc (length s.homes)
      → (moves list).found m ≡ get_or (at_homes list s.homes) ((moves list).word own m) 0
      → set (at_homes list s.homes) ((moves list).word own m) ((moves list).left m) ≡ at_homes list slots
      → Accounts list slots (set (map all_steps s.views) id (more m))
  counted list m slots inside finds is = subst (λ (x : List ℕ). AreMade (moves list) (λ i. is_same list []) (suc z.locks) x (set (map all_steps s.views) id (more m))) is
      (roster.made_step (moves list) (λ i. is_same list []) (suc z.locks) (at_homes list s.homes) (map all_steps s.views) (r.lists_made list) id (all_steps v) (more m) (own, m) (at_map all_steps s.views id v at)
      (one_more own own v.steps v.inherited m refl) (let long = length-map s.homes (is_home list) in omega arith) finds)

  -- a step that takes the list of its lock, which was at home with `found`; one that sends it home; and one that does neither
  moved_by : (k : LwStep) (n : ℕ) (found list : List Waiter) (taken sent : Bool) → takes_list k n ≡ taken → sends_home k n ≡ sent → (taken ≡ true → (get_elem? s.homes (lock_number k) ≡ maybe.some (maybe.some (as_waiters found))) × (sent ≡ false))
      → (sent ≡ true → get_elem? s.homes (lock_number k) ≡ maybe.some maybe.none)
      → Accounts list (homes_after s.homes (carried k v) (cond taken (takes (lock_number k) (as_waiters found)) (cond sent gives keeps))) (set (map all_steps s.views) id (more (made_with k n (list_of k n found own v.place))))
  moved_by k n found list true true is goes home away = absurd (let no = (home refl).1 in cc)
  moved_by k n found list true false is goes home away = let l : ℕ = lock_number k in let m : Made = made_with k n (list_of k n found own v.place) in let there = (home refl).0 in
      let word : (moves list).word own m ≡ suc l = (λ i. cond (is i) (suc l) (cond (goes i) (suc l) 0)) in
      counted list m (set s.homes l maybe.none) (let inside = at_inside s.homes l (maybe.some (as_waiters found)) there in omega arith)
      ((λ i. cond (is i) (is_same list (cond (is i) found (cond (goes i) (left_at v.place own) []))) 0) ∙ (home_bit list s.homes l (maybe.some (as_waiters found)) there ∙ ap (λ (i : ℕ). get_or (at_homes list s.homes) i 0) (sym word)))
      ((λ i. set (at_homes list s.homes) (word i) (cond (goes i) (is_same list m.list) 0)) ∙ slot_set list s.homes l maybe.none)
  moved_by k n found list false true is goes home away = let l : ℕ = lock_number k in let m : Made = made_with k n (list_of k n found own v.place) in let there = away refl in
      let word : (moves list).word own m ≡ suc l = (λ i. cond (is i) (suc l) (cond (goes i) (suc l) 0)) in
      counted list m (set s.homes l (maybe.some (as_waiters (left_at v.place own)))) (let inside = at_inside s.homes l maybe.none there in omega arith)
      ((λ i. cond (is i) (is_same list m.list) 0) ∙ (home_bit list s.homes l maybe.none there ∙ ap (λ (i : ℕ). get_or (at_homes list s.homes) i 0) (sym word)))
      ((λ i. set (at_homes list s.homes) (word i) (cond (goes i) (is_same list (cond (is i) found (cond (goes i) (left_at v.place own) []))) 0)) ∙ slot_set list s.homes l (maybe.some (as_waiters (left_at v.place own))))
  moved_by k n found list false false is goes home away = let l : ℕ = lock_number k in let m : Made = made_with k n (list_of k n found own v.place) in
      let word : (moves list).word own m ≡ 0 = (λ i. cond (is i) (suc l) (cond (goes i) (suc l) 0)) in
      counted list m s.homes (omega arith)
      ((λ i. cond (is i) (is_same list m.list) 0) ∙ ap (λ (i : ℕ). get_or (at_homes list s.homes) i 0) (sym word))
      (λ i. set (at_homes list s.homes) (word i) (cond (goes i) (is_same list m.list) 0))

  -- a list that is taken was at home, and the same step sends none
  taken_home : (k : LwStep) → IsInRange z k → takes_list k (get_or s.words (word_of z own k) 0) ≡ true
      → (get_elem? s.homes (lock_number k) ≡ maybe.some (maybe.some (as_waiters (home_list s.homes (lock_number k))))) × (sends_home k (get_or s.words (word_of z own k) 0) ≡ false)
  taken_home (kind.Lock l b) inside taken = let home = (r.lists l inside.0).at_home (eqb-true _ _ taken) in
      (home.1 ∙ ap (λ (o : maybe.Option (maybe.Option Waiters)). maybe.some (maybe.some (as_waiters (home_of o)))) (sym home.1), refl)
  taken_home k inside taken = absurd (cc)

  -- one that goes home was out
  sent_out : (k : LwStep) (n : ℕ) → IsInRange z k → Allowed lawful k v → sends_home k n ≡ true → get_elem? s.homes (lock_number k) ≡ maybe.some maybe.none
  sent_out (kind.Unlock l clears) n inside ok sent = out_of l inside.0 (sending_at l l own clears v.place refl ok)
  sent_out (kind.Wake l w to) n inside ok sent = out_of l inside.0 (detaching_at l l w to v.place refl ok)
  sent_out k n inside ok sent = absurd (cc)

  pub lists_made_step : (k : LwStep) → IsInRange z k → Allowed lawful k v → EachListIsMade z (after z s id v k)
  lists_made_step k inside ok list = let n : ℕ = get_or s.words (word_of z own k) 0 in let found : List Waiter = home_list s.homes (lock_number k) in
      for_same _ _ (seen all_steps s.views id (next k v n found) (more (made_with k n (list_of k n found own v.place))) (steps_after k v n found)) (Accounts list (homes_after s.homes (carried k v) (act_of k n found)))
      (moved_by k n found list (takes_list k n) (sends_home k n) refl refl (taken_home k inside) (sent_out k n inside ok))

  pub lists_made_draw : EachListIsMade z (drawn s id v)
  lists_made_draw = for_same _ _ (unseen all_steps s.views id v (drew_one v) at refl) (ListsAreMade z s.homes) r.lists_made

  pub lists_made_split : EachListIsMade z (split s id v)
  lists_made_split list = for_same _ _ (seen_more all_steps (set s.views id (stays v)) (comes v) ∙ ap (λ (l : List (List (ℕ × Made))). l ++ [] ∷ []) (unseen all_steps s.views id v (stays v) at refl)) (Accounts list s.homes)
      (roster.made_snoc (moves list) (λ i. is_same list []) (suc z.locks) (at_homes list s.homes) (map all_steps s.views) (r.lists_made list))

  pub lists_made_join : (other : ℕ) (w : View) → (other ≡ id → ⊥) → get_elem? s.views other ≡ maybe.some w → EachListIsMade z (joined s id v other w)
  lists_made_join other w apart there list = for_same _ _
      (seen all_steps (set s.views id (both v w)) other spent [] refl ∙ ap (λ (l : List (List (ℕ × Made))). set l other []) (seen all_steps s.views id (both v w) (all_steps (both v w)) refl)) (Accounts list s.homes)
      (roster.made_joined (moves list) (λ i. is_same list []) (suc z.locks) (at_homes list s.homes) (map all_steps s.views) (r.lists_made list) id other (all_steps v) (all_steps w) (all_steps (both v w)) apart (at_map all_steps s.views id v at) (at_map all_steps s.views other w there)
      (both_taken (signed own v.steps) v.inherited (all_steps w)))

-- a new table: nobody is on a list
opened_bit : (lists : List Waiters) (list : List Waiter) (i : ℕ) → i < length lists → AllEmpty lists → get_or (map (is_home list) (map maybe.some lists)) i 0 ≡ is_same list []
opened_bit [] list i below all = absurd (omega arith)
opened_bit (x ∷ lists) list zero below all = ap (is_same list) all.0
opened_bit (x ∷ lists) list (suc i) below all = opened_bit lists list i (omega arith) all.1

pub lists_made_opens : (z : Size) (lists : List Waiters) (own : Option ℕ) → length lists ≡ z.locks → AllEmpty lists → ListsAreMade z (map maybe.some lists) (all_steps (fresh own) ∷ [])
lists_made_opens z lists own long all list zero above below = absurd (omega arith)
lists_made_opens z lists own long all list (suc i) above below = let a = opened_bit lists list i (omega arith) all in omega arith

-- THE STEPS DECIDE. A list is the same as itself, and as no other
same_self : (ws : List Waiter) → is_same ws ws ≡ 1
same_self [] = refl
same_self (w ∷ ws) = (λ i. cond (eq-eqb w.proc w.proc refl i) (cond (same_want_self w.want i) (is_same ws ws) 0) 0) ∙ same_self ws

same_is : (us ws : List Waiter) → is_same us ws ≡ 1 → us ≡ ws
same_is [] [] is = refl
same_is [] (w ∷ ws) is = absurd (omega arith)
same_is (u ∷ us) [] is = absurd (omega arith)
same_is (u ∷ us) (w ∷ ws) is = by_tests (eqb u.proc w.proc) (same_want u.want w.want) refl refl is (same_is us ws)
  where
    by_tests : (a b : Bool) → eqb u.proc w.proc ≡ a → same_want u.want w.want ≡ b → cond {A = ℕ} a (cond {A = ℕ} b (is_same us ws) 0) 0 ≡ 1 → (is_same us ws ≡ 1 → us ≡ ws) → u ∷ us ≡ w ∷ ws
    by_tests true true proc want is rest = λ i. waiter (eqb-true u.proc w.proc proc i) (same_want_is u.want w.want want i) ∷ rest is i
    by_tests true false proc want is rest = absurd (omega arith)
    by_tests false b proc want is rest = absurd (omega arith)

pub steps_decide : (z : Size) → StepsDecideLists z
steps_decide z homes others seats l list other below made made_too at at_too =
    let here = home_bit list.items homes l (maybe.some list) at in let there = home_bit list.items others l (maybe.some other) at_too in
    let one = made list.items (suc l) (omega arith) (omega arith) in let two = made_too list.items (suc l) (omega arith) (omega arith) in let same = same_self list.items in
    same_is list.items other.items (omega arith)
