-- A backend stays on at most one list, once, and in a round for it. What follows for who isn't in a round, and for the room on a list.
use Rattle.std.proofs.Common.{◌≡◌, ◌≢◌, ◌⊎◌, ℕ, zero, suc, ◌+◌, ◌<◌, ◌≤◌, eqb, Bool, true, false, cond, List, [], ◌∷◌, ◌++◌, length, get_or, set, Option, None, Some, sym, refl, ap, ◌∙◌, subst, ⊎_elim, inl, inr, arith, ne_eqb}
use Rattle.std.proofs.lemmas.Bool.{eqb-true, eqb-false, cond-false}
use mathlib.Core.Logic.{dite}
use mathlib.Core.Option as maybe
use native.Mathlib.Decide.{ℕ_discrete, dec_lt}
use lib.ListN.{get_elem?}
use Rattle.atomic_table.proofs.Lists.{set_here, set_else}
use Rattle.seat_roster.specs.Totals.{total}
use Rattle.seat_roster.proofs.Totals.{total_set, total_snoc, total_at, total_le, total_gap, total_none, total_only, at_inside}
use Rattle.seat_roster.proofs.Stretches.{for_same, each_set, each_more}
use Rattle.lw_core.specs.declared.view.Size.{Size}
use Rattle.lw_core.specs.declared.view.Waiter.{Waiter}
use Rattle.lw_core.specs.declared.view.Want.{Want}
use Rattle.lw_core.specs.declared.view.Want.TheVariants.{Shared, Exclusive, UntilFree}
use Rattle.lw_core.specs.Words.{Waiters, waiting_at}
use Rattle.lw_core.specs.WaitLists.{waiter, same_want, times_on, times_with, AllBelow, IsUntilFreeFirst, joined_by, without, taken_from, kept_from, until_free_from, lockers_from, home_of, home_list}
use Rattle.lw_core.specs.Stances.{Hand, Entry, Stance, hand_of, entry_of, due_of, is_own, count_if, has_hand, has_list, hand_list, hand_times, hand_with, home_times, on_lists, in_round, entry_is, may_be_listed, unlisted_times}
use Rattle.lw_core.specs.ListedOnce.{OncePerRound, ListedForRound, LeavesRightly, ListedOnce}
use Rattle.lw_core.specs.ListInOneHand.{HandsInside}
use Rattle.lw_core.specs.WaitingTellsPlace.{adds_to, WaitingTellsPlace}
use Rattle.lw_core.proofs.Lists.{times_joined, times_with_joined, times_left, times_with_without, times_parted, times_with_parted, times_headed, times_with_headed, times_with_le, times_by_want, joined_first, without_first, kept_first, lockers_ordered}
use Rattle.lw_core.proofs.Turns.{Homes, Turn, stays, takes, flags, announces, queues, checks, leaves, was_taken, withdraws, marks, detaches, summons, returns, unmarks, posts, sees, sleeps_down, calls_down, wakes, oversleeps, gives_back, answers, allows, pokes, idle, takes_over, IsSound}
use Rattle.lw_core.proofs.Owning.{count_most, count_none, own_here, own_else, hand_here, hand_else, announces_for, marked_times, adds_parts, in_one_round, own_counts, not_listed}
use Rattle.lw_core.proofs.Listing.{times_in_hand, listed_same, listed_sent, listed_out, listed_more}

-- ROOM ON A LIST. f 0 + .. + f (n - 1)
abbrev pub sum_to : ℕ → (ℕ → ℕ) → ℕ
sum_to zero f = 0
sum_to (suc n) f = f n + sum_to n f

sum_add : (n : ℕ) (f g : ℕ → ℕ) → sum_to n (λ q. f q + g q) ≡ sum_to n f + sum_to n g
sum_add zero f g = refl
sum_add (suc n) f g = let r = sum_add n f g in omega arith

sum_none : (n : ℕ) (f : ℕ → ℕ) → ((q : ℕ) → q < n → f q ≡ 0) → sum_to n f ≡ 0
sum_none zero f h = refl
sum_none (suc n) f h = let a = h n (omega arith) in let r = sum_none n f (λ q below. h q (omega arith)) in omega arith

sum_own : (n x : ℕ) → x < n → sum_to n (λ q. is_own q (Some x)) ≡ 1
sum_own zero x below = absurd (omega arith)
sum_own (suc n) x below = dite (ℕ_discrete x n)
    (λ is. let a : is_own n (Some x) ≡ 1 = own_here n x (Some x) refl (sym is) in let b = sum_none n (λ q. is_own q (Some x)) (λ q less. own_else q x (Some x) refl (λ e. omega arith)) in omega arith)
    (λ ne. let a : is_own n (Some x) ≡ 0 = own_else n x (Some x) refl (λ e. ne (sym e)) in let r = sum_own n x (omega arith) in omega arith)

-- where f is 1 at most, and where it is 0 at one number
pub sum_most : (n : ℕ) (f : ℕ → ℕ) → ((q : ℕ) → f q ≤ 1) → sum_to n f ≤ n
sum_most zero f h = omega arith
sum_most (suc n) f h = let a = h n in let r = sum_most n f h in omega arith

pub sum_less : (n : ℕ) (f : ℕ → ℕ) → ((q : ℕ) → f q ≤ 1) → (p : ℕ) → p < n → f p ≡ 0 → sum_to n f < n
sum_less zero f h p below none = absurd (omega arith)
sum_less (suc n) f h p below none = let a = h n in dite (ℕ_discrete p n)
    (λ is. let b : f n ≡ 0 = ap f (sym is) ∙ none in let r = sum_most n f h in omega arith)
    (λ ne. let r = sum_less n f h p (omega arith) none in omega arith)

-- a list of the table's backends is as long as they are often on it
pub length_counts : (procs : ℕ) (ws : List Waiter) → AllBelow procs ws → length ws ≡ sum_to procs (λ q. times_on q ws)
length_counts procs [] h = sym (sum_none procs (λ q. 0) (λ q below. refl))
length_counts procs (w ∷ ws) h = let a = sum_add procs (λ q. is_own q (Some w.proc)) (λ q. times_on q ws) in let b = sum_own procs w.proc h.0 in let r = length_counts procs ws h.1 in omega arith

pub all_below : (procs : ℕ) (ws : List Waiter) → ((q : ℕ) → procs ≤ q → times_on q ws ≡ 0) → AllBelow procs ws
all_below procs [] h = tt
all_below procs (w ∷ ws) h = (
  dite (dec_lt w.proc procs) (λ less. less) (λ more. let a = h w.proc (omega arith) in let b : is_own w.proc (Some w.proc) ≡ 1 = own_here w.proc w.proc (Some w.proc) refl refl in absurd (omega arith)),
  all_below procs ws (λ q more. let a = h q more in omega arith),
)

module _ (procs : ℕ) (homes : Homes) (seats : List Stance) (alone : (p : ℕ) → total (λ (u : Stance). is_own p u.own) seats ≤ 1) (once : OncePerRound homes seats)
    (below : (j q : ℕ) (u : Stance) → get_elem? seats j ≡ maybe.some u → u.own ≡ Some q → q < procs) (l : ℕ) (list : Waiters) (home : get_elem? homes l ≡ maybe.some (maybe.some list)) where
  times_listed : (q : ℕ) → times_on q list.items ≤ on_lists q homes seats
  times_listed q = let a = total_at (home_times q) homes l (maybe.some list) home in omega arith

  times_most : (q : ℕ) → times_on q list.items ≤ 1
  times_most q = let a = times_listed q in let b = once q in let c = in_one_round seats alone q in omega arith

  -- no seat has the number q
  times_strange : (q : ℕ) → procs ≤ q → times_on q list.items ≡ 0
  times_strange q more = let a = times_listed q in let b = once q in let c = total_none (in_round q) seats (λ j u e. count_none u.round (is_own q u.own) (not_own j u e u.own refl)) in omega arith
    where
      not_own : (j : ℕ) (u : Stance) → get_elem? seats j ≡ maybe.some u → (own : Option ℕ) → u.own ≡ own → is_own q own ≡ 0
      not_own j u e None is = refl
      not_own j u e (Some k) is = let less = below j k u e is in own_else q k (Some k) refl (λ h. omega arith)

  pub home_below : AllBelow procs list.items
  home_below = all_below procs list.items times_strange

  pub home_fits : length list.items ≤ procs
  home_fits = let a = length_counts procs list.items home_below in let b = sum_most procs (λ q. times_on q list.items) times_most in omega arith

  pub room_on_list : (p id : ℕ) (v : Stance) → get_elem? seats id ≡ maybe.some v → v.own ≡ Some p → AllBelow procs list.items × (length list.items ≤ procs) × (v.round ≡ false → length list.items < procs)
  room_on_list p id v at own = (
    home_below,
    home_fits,
    λ none. let a = length_counts procs list.items home_below in let b = times_listed p in let c = not_listed seats alone p id v at own homes once none in let d = c.0 in
        let r = sum_less procs (λ q. times_on q list.items) times_most p (below id p v at own) (omega arith) in omega arith,
  )

-- LISTS WITH THEIR WANTS. How often p is on the list of l with this want
abbrev pub listed_with : ℕ → Want → ℕ → Homes → List Stance → ℕ
listed_with l want p homes seats = times_with p want (home_list homes l) + total (λ (u : Stance). hand_with l p want u.hand) seats

no_want : (p : ℕ) (ws : List Waiter) → ((want : Want) → times_with p want ws ≡ 0) → times_on p ws ≡ 0
no_want p ws none = let a = times_by_want p ws in let b = none Shared in let c = none Exclusive in let d = none UntilFree in omega arith

-- who may be on the list of l isn't one who may be on that of k
entry_else : (l k : ℕ) (want w : Want) → l ≢ k → entry_is k w (entry_of l want) ≡ false
entry_else l k want w ne = cond-false (eqb l k) (same_want want w) false (ne_eqb l k ne)

hand_most : (l p : ℕ) (want : Want) (hand : Option Hand) → hand_with l p want hand ≤ times_on p (hand_list hand)
hand_most l p want None = omega arith
hand_most l p want (Some h) = by (eqb h.lock l) _ _ (times_with_le p want h.list)
  where
    by : (b : Bool) (m n : ℕ) → m ≤ n → cond b m 0 ≤ n
    by true m n e = e
    by false m n e = omega arith

hand_le : (l k p : ℕ) (want : Want) (ws us : List Waiter) → times_with p want ws ≤ times_with p want us → hand_with k p want (hand_of l ws) ≤ hand_with k p want (hand_of l us)
hand_le l k p want ws us le = by (eqb l k) _ _ le
  where
    by : (b : Bool) (m n : ℕ) → m ≤ n → cond b m 0 ≤ cond b n 0
    by true m n e = e
    by false m n e = omega arith

hand_joined : (l k p q : ℕ) (want w : Want) (ws : List Waiter) → hand_with k q w (hand_of l (joined_by (waiter p want) ws)) ≡ hand_with k q w (hand_of l ws) + count_if (entry_is k w (entry_of l want)) (is_own q (Some p))
hand_joined l k p q want w ws = by (eqb l k) (eqb p q) (same_want want w) _ _ (times_with_joined q w (waiter p want) ws)
  where
    by : (b c d : Bool) (m n : ℕ) → n ≡ m + cond c (cond d 1 0) 0 → cond b n 0 ≡ cond b m 0 + count_if (cond b d false) (cond c 1 0)
    by true true true m n e = e
    by true true false m n e = e
    by true false true m n e = e
    by true false false m n e = e
    by false c d m n e = omega arith

home_most : (p : ℕ) (homes : Homes) (l : ℕ) → times_on p (home_list homes l) ≤ total (home_times p) homes
home_most p [] l = omega arith
home_most p (o ∷ os) zero = omega arith
home_most p (o ∷ os) (suc l) = let r = home_most p os l in omega arith

pub listed_with_most : (homes : Homes) (seats : List Stance) (l : ℕ) (want : Want) (p : ℕ) → listed_with l want p homes seats ≤ on_lists p homes seats
listed_with_most homes seats l want p =
    let a = times_with_le p want (home_list homes l) in let b = home_most p homes l in
    let c = total_le (λ (u : Stance). hand_with l p want u.hand) (hand_times p) seats (λ i u e. hand_most l p want u.hand) in omega arith

-- the slot of l becomes y
module _ (homes : Homes) (l : ℕ) (x y : maybe.Option Waiters) (there : get_elem? homes l ≡ maybe.some x) where
  home_here : (k : ℕ) → k ≡ l → home_list (set homes l y) k ≡ home_of (maybe.some y)
  home_here k is = ap (home_list (set homes l y)) is ∙ ap home_of (set_here homes l y (at_inside homes l x there))

  home_else : (k : ℕ) → k ≢ l → home_list (set homes l y) k ≡ home_list homes k
  home_else k ne = ap home_of (set_else homes l k y ne)

  home_first : ((k : ℕ) → IsUntilFreeFirst (home_list homes k)) → IsUntilFreeFirst (home_of (maybe.some y)) → (k : ℕ) → IsUntilFreeFirst (home_list (set homes l y) k)
  home_first others mine k = dite (ℕ_discrete k l) (λ is. subst IsUntilFreeFirst (sym (home_here k is)) mine) (λ ne. subst IsUntilFreeFirst (sym (home_else k ne)) (others k))

  pub with_moved : (seats : List Stance) (id : ℕ) (v w : Stance) → get_elem? seats id ≡ maybe.some v → (k : ℕ) (want : Want) (p : ℕ)
      → listed_with k want p (set homes l y) (set seats id w) + (hand_with k p want (hand_of l (home_of (maybe.some x))) + hand_with k p want v.hand)
      ≡ listed_with k want p homes seats + (hand_with k p want (hand_of l (home_of (maybe.some y))) + hand_with k p want w.hand)
  with_moved seats id v w at k want p = let sum = total_set (λ (u : Stance). hand_with k p want u.hand) seats id v w at in dite (ℕ_discrete k l)
      (λ is. let a : times_with p want (home_list (set homes l y) k) ≡ times_with p want (home_of (maybe.some y)) = ap (times_with p want) (home_here k is) in
      let b : times_with p want (home_list homes k) ≡ times_with p want (home_of (maybe.some x)) = ap (λ (o : maybe.Option (maybe.Option Waiters)). times_with p want (home_of o)) (ap (get_elem? homes) is ∙ there) in
      let c = hand_here (times_with p want) k l (hand_of l (home_of (maybe.some x))) (home_of (maybe.some x)) refl is in let d = hand_here (times_with p want) k l (hand_of l (home_of (maybe.some y))) (home_of (maybe.some y)) refl is in omega arith)
      (λ ne. let a : times_with p want (home_list (set homes l y) k) ≡ times_with p want (home_list homes k) = ap (times_with p want) (home_else k ne) in
      let c = hand_else (times_with p want) k l (hand_of l (home_of (maybe.some x))) (home_of (maybe.some x)) refl ne in let d = hand_else (times_with p want) k l (hand_of l (home_of (maybe.some y))) (home_of (maybe.some y)) refl ne in omega arith)

-- WHAT A CHANGE OF ONE SEAT KEEPS
-- what this part sees of a seat
abbrev Sight : Type 0
Sight = Option ℕ × Option Hand × Bool × Option Entry × Option Bool × List Waiter

abbrev sight : Stance → Sight
sight u = (u.own, u.hand, u.round, u.queued, u.leaving, u.unlisted)

abbrev IsOrdered : Stance → Type 0
IsOrdered u = IsUntilFreeFirst (hand_list u.hand)

module _ (locks : ℕ) (homes : Homes) (seats : List Stance) (was : ListedOnce locks homes seats) (id : ℕ) (v : Stance) (at : get_elem? seats id ≡ maybe.some v) where
  changed : (after : Homes) (w : Stance) → OncePerRound after (set seats id w) → ((l : ℕ) → l < locks → ListedForRound l after (set seats id w)) → LeavesRightly w
      → ((l : ℕ) → IsUntilFreeFirst (home_list after l)) → IsOrdered w → ListedOnce locks after (set seats id w)
  changed after w once for_round right home hand = record {
    once = once;
    for_round = for_round;
    leaves = each_set LeavesRightly seats id w was.leaves right;
    ordered_home = home;
    ordered_hand = each_set IsOrdered seats id w was.ordered_hand hand;
  }

  -- no list moves
  unmoved : (w : Stance) → w.hand ≡ v.hand → ((p : ℕ) → unlisted_times p w + in_round p v ≤ unlisted_times p v + in_round p w)
      → ((l : ℕ) (want : Want) (p : ℕ) → may_be_listed l want p v ≤ may_be_listed l want p w) → LeavesRightly w → ListedOnce locks homes (set seats id w)
  unmoved w hand rounds may right = changed homes w
      (λ p. let a = listed_same homes seats id v w at p (ap (λ (o : Option Hand). times_on p (hand_list o)) hand) in let b = total_set (unlisted_times p) seats id v w at in let c = total_set (in_round p) seats id v w at in
      let d = rounds p in let old = was.once p in omega arith)
      (λ l below want p. let a = total_set (λ (u : Stance). hand_with l p want u.hand) seats id v w at in let b : hand_with l p want w.hand ≡ hand_with l p want v.hand = ap (hand_with l p want) hand in
      let c = total_set (may_be_listed l want p) seats id v w at in let d = may l want p in let old = was.for_round l below want p in omega arith)
      right was.ordered_home (subst (λ (o : Option Hand). IsUntilFreeFirst (hand_list o)) (sym hand) (was.ordered_hand id v at))

  -- nor changes anything else that this part sees
  unseen : (w : Stance) → sight w ≡ sight v → ListedOnce locks homes (set seats id w)
  unseen w same = unmoved w (ap (λ (s : Sight). s.1) same)
      (λ p. let a : unlisted_times p w ≡ unlisted_times p v = ap (λ (s : Sight). times_on p s.5) same in let b : in_round p w ≡ in_round p v = ap (λ (s : Sight). count_if s.2 (is_own p s.0)) same in omega arith)
      (λ l want p. let a : may_be_listed l want p w ≡ may_be_listed l want p v = ap (λ (s : Sight). count_if (entry_is l want s.3) (is_own p s.0)) same in omega arith)
      (subst (λ (s : Sight). (here : Bool) (p : ℕ) → s.4 ≡ Some here → s.0 ≡ Some p → (here ≡ true → times_on p (hand_list s.1) ≡ 1) × (here ≡ false → times_on p (hand_list s.1) ≡ 0)) (sym same) (was.leaves id v at))

-- MOVES. A seat comes
pub listed_added : (homes : Homes) (seats : List Stance) (own : Option ℕ) (locks : ℕ) → ListedOnce locks homes seats → ListedOnce locks homes (seats ++ idle own [] [] ∷ [])
listed_added homes seats own locks was = let u : Stance = idle own [] [] in record {
  once = λ p. let a = listed_more p homes seats own in let b = total_snoc (unlisted_times p) seats u in let c = total_snoc (in_round p) seats u in let old = was.once p in omega arith;
  for_round = λ l below want p. let a = total_snoc (λ (s : Stance). hand_with l p want s.hand) seats u in let b = total_snoc (may_be_listed l want p) seats u in let old = was.for_round l below want p in omega arith;
  leaves = each_more LeavesRightly seats u was.leaves (λ here p free mine. absurd (cc));
  ordered_home = was.ordered_home;
  ordered_hand = each_more IsOrdered seats u was.ordered_hand tt;
}

-- a seat takes over what another remembers
pub listed_joined : (homes : Homes) (seats : List Stance) (locks id other : ℕ) (v : Stance) (own : Option ℕ) (poked downed : List ℕ) → get_elem? seats id ≡ maybe.some v
    → get_elem? (set seats id (takes_over v poked downed)) other ≡ maybe.some (idle own poked downed) → ListedOnce locks homes seats → ListedOnce locks homes (set (set seats id (takes_over v poked downed)) other (idle None [] []))
listed_joined homes seats locks id other v own poked downed at there was =
    unmoved locks homes (set seats id (takes_over v poked downed)) (unseen locks homes seats was id v at (takes_over v poked downed) refl) other (idle own poked downed) there (idle None [] []) refl
    (λ p. omega arith) (λ l want p. omega arith) (λ here p free mine. absurd (cc))

-- A STEP
module _ (z : Size) (words : List ℕ) (homes : Homes) (seats : List Stance) (slots : length homes ≡ z.locks) (alone : (p : ℕ) → total (λ (u : Stance). is_own p u.own) seats ≤ 1)
    (sound : (j : ℕ) (u : Stance) → get_elem? seats j ≡ maybe.some u → IsSound u) (was : ListedOnce z.locks homes seats) (waiting : WaitingTellsPlace z words homes seats)
    (out : (j l : ℕ) (u : Stance) (found : List Waiter) → get_elem? seats j ≡ maybe.some u → l < z.locks → u.hand ≡ hand_of l found → get_elem? homes l ≡ maybe.some maybe.none)
    (inside : HandsInside z.locks seats) (single : (l : ℕ) → l < z.locks → total (has_list l) seats ≤ 1) where
  module _ (id : ℕ) (v : Stance) (at : get_elem? seats id ≡ maybe.some v) where
    first_in : (l : ℕ) (found : List Waiter) → v.hand ≡ hand_of l found → IsUntilFreeFirst found
    first_in l found hand = subst (λ (o : Option Hand). IsUntilFreeFirst (hand_list o)) hand (was.ordered_hand id v at)

    -- where the seat has the number p it counts nothing for q
    round_else : (p q : ℕ) → v.own ≡ Some p → q ≢ p → in_round q v ≡ 0
    round_else p q own ne = count_none v.round (is_own q v.own) (own_else q p v.own own ne)

    may_else : (k : ℕ) (want : Want) (p q : ℕ) → v.own ≡ Some p → q ≢ p → may_be_listed k want q v ≡ 0
    may_else k want p q own ne = count_none (entry_is k want v.queued) (is_own q v.own) (own_else q p v.own own ne)

    -- of a seat that has the list in hand on which it may be: it is on no other list
    module _ (l p : ℕ) (want : Want) (found : List Waiter) (own : v.own ≡ Some p) (hand : v.hand ≡ hand_of l found) (queued : v.queued ≡ entry_of l want) where
      elsewhere : (k : ℕ) → k < z.locks → l ≢ k → (w : Want) → listed_with k w p homes seats ≡ 0
      elsewhere k below ne w = let a = was.for_round k below w p in let b : total (may_be_listed k w p) seats ≡ 0 = own_counts seats alone p id v at own (λ (u : Stance). entry_is k w u.queued)
          ∙ (ap (λ (o : Option Entry). count_if (entry_is k w o) (is_own p v.own)) queued ∙ ap (λ (b : Bool). count_if b (is_own p v.own)) (entry_else l k want w ne)) in omega arith

      at_no_home : total (home_times p) homes ≡ 0
      at_no_home = total_none (home_times p) homes (λ k o e. dite (ℕ_discrete l k)
          (λ is. ap (home_times p) (maybe.some-injective o maybe.none (sym e ∙ (ap (get_elem? homes) (sym is) ∙ out id l v found at (inside id v record { lock = l; list = found } at hand) hand))))
          (λ ne. no_want p (home_of (maybe.some o)) (λ w. let a = elsewhere k (let b = at_inside homes k o e in omega arith) ne w in
          let c : times_with p w (home_list homes k) ≡ times_with p w (home_of (maybe.some o)) = ap (λ (y : maybe.Option (maybe.Option Waiters)). times_with p w (home_of y)) e in omega arith)))

      in_one_hand : total (hand_times p) seats ≡ times_on p found
      in_one_hand = let mine : has_list l v ≡ 1 = hand_here (λ _. 1) l l v.hand found hand refl in
          total_only (hand_times p) (has_list l) seats id v at (single l (inside id v record { lock = l; list = found } at hand)) mine (λ j u e. other j u e u.hand refl) ∙ times_in_hand p v (hand_of l found) hand
        where
          other : (j : ℕ) (u : Stance) → get_elem? seats j ≡ maybe.some u → (o : Option Hand) → u.hand ≡ o → has_hand l o ≡ 0 → times_on p (hand_list o) ≡ 0
          other j u e None is none = refl
          other j u e (Some h) is none = no_want p h.list (λ w.
              let a = elsewhere h.lock (inside j u h e is) (λ same. let b : has_hand l (Some h) ≡ 1 = hand_here (λ _. 1) l h.lock (Some h) h.list refl same in omega arith) w in
              let b = total_at (λ (s : Stance). hand_with h.lock p w s.hand) seats j u e in let c : hand_with h.lock p w u.hand ≡ hand_with h.lock p w (Some h) = ap (hand_with h.lock p w) is in
              let d = hand_here (times_with p w) h.lock h.lock (Some h) h.list refl refl in omega arith)

      pub own_listed : on_lists p homes seats ≡ times_on p found
      own_listed = let a = at_no_home in let b = in_one_hand in omega arith

      -- and its waiting field is 1 exactly where it is on that one
      pub own_field : p < z.procs → v.announced ≡ false → (here : Bool) → eqb (get_or words (waiting_at z p) 0) 1 ≡ here → (here ≡ true → times_on p found ≡ 1) × (here ≡ false → times_on p found ≡ 0)
      own_field below quiet here is =
          let n : ℕ = get_or words (waiting_at z p) 0 in let reads : n ≡ on_lists p homes seats + total (adds_to p) seats = waiting p below in let parts = adds_parts p seats in let all = own_listed in let hands = in_one_hand in
          let none : total (announces_for p) seats ≡ 0 = own_counts seats alone p id v at own (λ (u : Stance). u.announced) ∙ ap (λ (b : Bool). count_if b (is_own p v.own)) quiet in
          let gap = total_gap (marked_times p) (hand_times p) seats id v (λ j u e. (sound j u e).marked p) at in let unmarked : times_on p v.marked ≡ 0 = ap (times_on p) ((sound id v at).unmarked _ queued) in
          let mine = times_in_hand p v (hand_of l found) hand in let once = was.once p in let one = in_one_round seats alone p in (
            λ yes. let e = eqb-true n 1 (is ∙ yes) in omega arith,
            λ no. dite (ℕ_discrete n 1) (λ e. absurd (eqb-false n 1 (is ∙ no) e)) (λ ne. omega arith),
          )

    -- the list of l goes home
    module _ (l : ℕ) (found : List Waiter) (list : Waiters) (below : l < z.locks) (hand : v.hand ≡ hand_of l found) (w : Stance) (none : w.hand ≡ None) where
      sent_listed : (q : ℕ) → on_lists q (set homes l (maybe.some list)) (set seats id w) + times_on q found ≡ on_lists q homes seats + times_on q list.items
      sent_listed q = listed_sent homes seats id v w at q l found list (out id l v found at below hand) hand none

      sent : IsUntilFreeFirst list.items → ((q : ℕ) → times_on q list.items + (unlisted_times q w + in_round q v) ≤ times_on q found + (unlisted_times q v + in_round q w))
          → ((k : ℕ) (want : Want) (q : ℕ) → (on_lists q (set homes l (maybe.some list)) (set seats id w) ≡ 0)
          ⊎ (hand_with k q want (hand_of l list.items) + may_be_listed k want q v ≤ hand_with k q want (hand_of l found) + may_be_listed k want q w))
          → LeavesRightly w → ListedOnce z.locks (set homes l (maybe.some list)) (set seats id w)
      sent first rounds may right = changed z.locks homes seats was id v at (set homes l (maybe.some list)) w
          (λ q. let a = sent_listed q in let b = total_set (unlisted_times q) seats id v w at in let c = total_set (in_round q) seats id v w at in let d = rounds q in let old = was.once q in omega arith)
          (λ k inner want q. ⊎_elim
          (λ gone. let a = listed_with_most (set homes l (maybe.some list)) (set seats id w) k want q in omega arith)
          (λ less. let a = with_moved homes l maybe.none (maybe.some list) away seats id v w at k want q in let b : hand_with k q want v.hand ≡ hand_with k q want (hand_of l found) = ap (hand_with k q want) hand in
          let c : hand_with k q want w.hand ≡ 0 = ap (hand_with k q want) none in let d = total_set (may_be_listed k want q) seats id v w at in let old = was.for_round k inner want q in omega arith)
          (may k want q))
          right (home_first homes l maybe.none (maybe.some list) away was.ordered_home first) (subst (λ (o : Option Hand). IsUntilFreeFirst (hand_list o)) (sym none) tt)
        where
          away : get_elem? homes l ≡ maybe.some maybe.none
          away = out id l v found at below hand

    turned : (after a : Homes) (w u : Stance) → after ≡ a → w ≡ u → ListedOnce z.locks a (set seats id u) → ListedOnce z.locks after (set seats id w)
    turned after a w u home is h = for_same _ _ home (λ (y : Homes). ListedOnce z.locks y (set seats id w)) (for_same _ _ is (λ (y : Stance). ListedOnce z.locks a (set seats id y)) h)

    still : (after : Homes) (w : Stance) → after ≡ homes → sight w ≡ sight v → ListedOnce z.locks after (set seats id w)
    still after w home same = turned after homes w w home refl (unseen z.locks homes seats was id v at w same)

    pub listed_turn : (after : Homes) (i x : ℕ) (w : Stance) → Turn z words homes after i x v w → ListedOnce z.locks after (set seats id w)
    listed_turn after i x w (stays kept home is) = still after w home (ap sight is)
    listed_turn after i x w (takes l list below place unset word there home none is) = let u : Stance = record v { hand = hand_of l list.items } in
        turned after (set homes l maybe.none) w u home is (changed z.locks homes seats was id v at (set homes l maybe.none) u
        (λ q. let a = listed_out homes seats id v u at q l list there none refl in let c = total_set (unlisted_times q) seats id v u at in let d = total_set (in_round q) seats id v u at in let old = was.once q in omega arith)
        (λ k inner want q. let a = with_moved homes l (maybe.some list) maybe.none there seats id v u at k want q in let b : hand_with k q want v.hand ≡ 0 = ap (hand_with k q want) none in let c = hand_most k q want (hand_of l []) in
        let d = total_set (may_be_listed k want q) seats id v u at in let old = was.for_round k inner want q in omega arith)
        (λ here q answer mine. let free = (sound id v at).leaving none in absurd (cc))
        (home_first homes l (maybe.some list) maybe.none there was.ordered_home tt) (subst (λ (o : maybe.Option (maybe.Option Waiters)). IsUntilFreeFirst (home_of o)) there (was.ordered_home l)))
    listed_turn after i x w (flags l found below place word home hand free is) = still after w home (ap sight is)
    listed_turn after i x w (announces p below own place word home none quiet is) = still after w home (ap sight is)
    listed_turn after i x w (queues l p want found list below fits own place word joins home hand flagged told none free is) =
        let u : Stance = record v { hand = None; flagged = None; announced = false; round = true; queued = entry_of l want; due = due_of (entry_of l want) } in
        turned after (set homes l (maybe.some list)) w u home is (sent l found list below hand u refl (subst IsUntilFreeFirst (sym joins) (joined_first (waiter p want) found (first_in l found hand)))
        (λ q. let a : times_on q list.items ≡ times_on q found + is_own q (Some p) = ap (times_on q) joins ∙ times_joined q (waiter p want) found in
        let b : in_round q v ≡ 0 = ap (λ (b : Bool). count_if b (is_own q v.own)) none in let c : in_round q u ≡ is_own q (Some p) = ap (is_own q) own in omega arith)
        (λ k wish q. inr (let a : hand_with k q wish (hand_of l list.items) ≡ hand_with k q wish (hand_of l (joined_by (waiter p want) found)) = ap (λ (ws : List Waiter). hand_with k q wish (hand_of l ws)) joins in
        let d = hand_joined l k p q want wish found in let b : may_be_listed k wish q v ≡ 0 = ap (λ (o : Option Entry). count_if (entry_is k wish o) (is_own q v.own)) free in
        let c : may_be_listed k wish q u ≡ count_if (entry_is k wish (entry_of l want)) (is_own q (Some p)) = ap (λ (o : Option ℕ). count_if (entry_is k wish (entry_of l want)) (is_own q o)) own in omega arith))
        (λ here q answer mine. (
          (λ yes. let a = (was.leaves id v at here q answer mine).0 yes in let b = not_listed seats alone q id v at mine homes was.once none in let c = b.0 in let d = total_at (hand_times q) seats id v at in absurd (omega arith)),
          λ no. refl,
        )))
    listed_turn after i x w (checks l p want found below own place word home hand queued round quiet is) = let u : Stance = record v { leaving = Some (eqb (get_or words i 0) 1) } in
        turned after homes w u home is (unmoved z.locks homes seats was id v at u refl (λ q. omega arith) (λ k wish q. omega arith)
        (λ here q answer mine. let same : p ≡ q = cc in let said : eqb (get_or words i 0) 1 ≡ here = cc in
        let field = own_field l p want found own hand queued below quiet here (ap (λ (j : ℕ). eqb (get_or words j 0) 1) (sym place) ∙ said) in
        let list : times_on q (hand_list v.hand) ≡ times_on p found = times_in_hand q v (hand_of l found) hand ∙ ap (λ (j : ℕ). times_on j found) (sym same) in (λ yes. list ∙ field.0 yes, λ no. list ∙ field.1 no)))
    listed_turn after i x w (leaves l p want found list below fits own place word left home hand flagged queued round on quiet is) =
        let u : Stance = record v { hand = None; leaving = None; round = false; queued = None; due = None; announced = true } in
        turned after (set homes l (maybe.some list)) w u home is (sent l found list below hand u refl (subst IsUntilFreeFirst (sym left) (without_first p found (first_in l found hand)))
        (λ q. let a = gone q in let b : is_own q v.own ≡ is_own q (Some p) = ap (is_own q) own in let c = count_most v.round (is_own q v.own) in omega arith)
        (λ k wish q. dite (ℕ_discrete q p)
        (λ me. inl (let a = gone q in let b = own_here q p (Some p) refl me in let c = sent_listed l found list below hand u refl q in let d = was.once q in let e = in_one_round seats alone q in omega arith))
        (λ ne. inr (let a : times_with q wish list.items ≡ times_with q wish (without p found) = ap (times_with q wish) left in let b = times_with_without q p wish found in
        let c = hand_le l k q wish list.items found (omega arith) in let d = may_else k wish p q own ne in omega arith)))
        (λ here q answer mine. absurd (cc)))
      where
        gone : (q : ℕ) → times_on q list.items + is_own q (Some p) ≡ times_on q found
        gone q = ap (λ (ws : List Waiter). times_on q ws + is_own q (Some p)) left ∙ times_left p found (sym (times_in_hand p v (hand_of l found) hand) ∙ (was.leaves id v at true p on own).0 refl) q
    listed_turn after i x w (was_taken l p want found list below fits own place word left home hand flagged queued round off is) = let u : Stance = record v { hand = None; leaving = None; queued = None } in
        turned after (set homes l (maybe.some list)) w u home is (sent l found list below hand u refl (subst IsUntilFreeFirst (sym left) (first_in l found hand))
        (λ q. let a = same q in omega arith)
        (λ k wish q. dite (ℕ_discrete q p)
        (λ me. inl (let a = same q in let b : times_on q found ≡ 0 = ap (λ (j : ℕ). times_on j found) me ∙ (sym (times_in_hand p v (hand_of l found) hand) ∙ (was.leaves id v at false p off own).1 refl) in
        let c = sent_listed l found list below hand u refl q in let d = own_listed l q want found (own ∙ ap Some (sym me)) hand queued in omega arith))
        (λ ne. inr (let a : hand_with k q wish (hand_of l list.items) ≡ hand_with k q wish (hand_of l found) = ap (λ (ws : List Waiter). hand_with k q wish (hand_of l ws)) left in let b = may_else k wish p q own ne in omega arith)))
        (λ here q answer mine. absurd (cc)))
      where
        same : (q : ℕ) → times_on q list.items ≡ times_on q found
        same q = ap (times_on q) left
    listed_turn after i x w (withdraws p below own place word home none told is) = still after w home (ap sight is)
    listed_turn after i x w (marks l u found done rest below place word home hand marked within none is) = still after w home (ap sight is)
    listed_turn after i x w (detaches l found list below place word left home hand flagged marked none owed free is) = let u : Stance = record v { hand = None; marked = []; unlisted = taken_from found; owed = taken_from found } in
        turned after (set homes l (maybe.some list)) w u home is (sent l found list below hand u refl (subst IsUntilFreeFirst (sym left) (kept_first found (first_in l found hand)))
        (λ q. let a : times_on q list.items ≡ times_on q (kept_from found) = ap (times_on q) left in let b = times_parted q found in omega arith)
        (λ k wish q. inr (let a : times_with q wish list.items ≡ times_with q wish (kept_from found) = ap (times_with q wish) left in let b = times_with_parted q wish found in
        let c = hand_le l k q wish list.items found (omega arith) in omega arith))
        (λ here q answer mine. absurd (cc)))
    listed_turn after i x w (summons l found list below place word left home hand flagged marked none owed free is) = let u : Stance = record v { hand = None; marked = []; unlisted = until_free_from found; owed = until_free_from found } in
        turned after (set homes l (maybe.some list)) w u home is (sent l found list below hand u refl (subst IsUntilFreeFirst (sym left) (lockers_ordered found (first_in l found hand)))
        (λ q. let a : times_on q list.items ≡ times_on q (lockers_from found) = ap (times_on q) left in let b = times_headed q found in omega arith)
        (λ k wish q. inr (let a : times_with q wish list.items ≡ times_with q wish (lockers_from found) = ap (times_with q wish) left in let b = times_with_headed q wish found in
        let c = hand_le l k q wish list.items found (omega arith) in omega arith))
        (λ here q answer mine. absurd (cc)))
    listed_turn after i x w (returns l found list below place word left home hand flagged marked free is) = let u : Stance = record v { hand = None } in
        turned after (set homes l (maybe.some list)) w u home is (sent l found list below hand u refl (subst IsUntilFreeFirst (sym left) (first_in l found hand))
        (λ q. let a : times_on q list.items ≡ times_on q found = ap (times_on q) left in omega arith)
        (λ k wish q. inr (let a : hand_with k q wish (hand_of l list.items) ≡ hand_with k q wish (hand_of l found) = ap (λ (ws : List Waiter). hand_with k q wish (hand_of l ws)) left in omega arith))
        (λ here q answer mine. absurd (cc)))
    listed_turn after i x w (unmarks t ts below place word home marked is) = let u : Stance = record v { unlisted = ts } in
        turned after homes w u home is (unmoved z.locks homes seats was id v at u refl (λ q. let a : unlisted_times q v ≡ times_on q (t ∷ ts) = ap (times_on q) marked in omega arith) (λ k wish q. omega arith) (was.leaves id v at))
    listed_turn after i x w (posts u us below place word home owed cleared is) = still after w home (ap sight is)
    listed_turn after i x w (sees p below own place word some home free is) = still after w home (ap sight is)
    listed_turn after i x w (sleeps_down p below own place word home down free is) = still after w home (ap sight is)
    listed_turn after i x w (calls_down p below own place word home down apart is) = still after w home (ap sight is)
    listed_turn after i x w (wakes p below own place word clear home none free round between is) = let u : Stance = record v { between = false; round = false; queued = None } in
        turned after homes w u home is (changed z.locks homes seats was id v at homes u
        (λ q. let a = listed_same homes seats id v u at q refl in let b = total_set (unlisted_times q) seats id v u at in let c = total_set (in_round q) seats id v u at in let old = was.once q in dite (ℕ_discrete q p)
        (λ me. let d = nowhere q me in let e = d.0 in let f = d.1 in omega arith)
        (λ ne. let d = round_else p q own ne in omega arith))
        (λ k inner wish q. dite (ℕ_discrete q p)
        (λ me. let a = listed_with_most homes (set seats id u) k wish q in let b = listed_same homes seats id v u at q refl in let d = nowhere q me in let e = d.0 in omega arith)
        (λ ne. let a = total_set (λ (s : Stance). hand_with k q wish s.hand) seats id v u at in let b = total_set (may_be_listed k wish q) seats id v u at in
        let c = may_else k wish p q own ne in let old = was.for_round k inner wish q in omega arith))
        (λ here q answer mine. absurd (cc)) was.ordered_home (was.ordered_hand id v at))
      where
        -- the field that is 0 tells it
        nowhere : (q : ℕ) → q ≡ p → (on_lists q homes seats ≡ 0) × (total (unlisted_times q) seats ≡ 0)
        nowhere q me = let field : get_or words (waiting_at z q) 0 ≡ 0 = ap (λ (j : ℕ). get_or words (waiting_at z j) 0) me ∙ (ap (λ (j : ℕ). get_or words j 0) (sym place) ∙ clear) in
            let reads = waiting q (omega arith) in let parts = adds_parts q seats in (omega arith, omega arith)
    listed_turn after i x w (oversleeps p below own place word some home between is) = still after w home (ap sight is)
    listed_turn after i x w (gives_back p below own place word home some is) = still after w home (ap sight is)
    listed_turn after i x w (answers l below place word home free due is) = still after w home (ap sight is)
    listed_turn after i x w (allows l below place word home queued is) = still after w home (ap sight is)
    listed_turn after i x w (pokes q below place word home is) = still after w home (ap sight is)
