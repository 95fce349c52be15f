-- Seats counted by their numbers and rounds, and by the list in hand.
use Rattle.std.proofs.Common.{◌≡◌, ◌≢◌, ℕ, ◌+◌, ◌-◌, ◌*◌, ◌<◌, ◌≤◌, eqb, Bool, true, false, cond, List, [], ◌∷◌, Option, None, Some, sym, refl, ap, ◌∙◌, arith, eq-eqb, ne_eqb}
use Rattle.std.proofs.lemmas.Bool.{eqb-true, cond-true, cond-false, cond_both}
use mathlib.Core.Option as maybe
use lib.ListN.{get_elem?}
use Rattle.seat_roster.specs.Totals.{total}
use Rattle.seat_roster.proofs.Totals.{total_le, total_sum_le, total_only}
use Rattle.lw_core.specs.declared.view.Want.{Want}
use Rattle.lw_core.specs.declared.view.Waiter.{Waiter}
use Rattle.lw_core.specs.WaitLists.{times_on}
use Rattle.lw_core.specs.Stances.{Stance, Hand, Entry, hand_of, hand_times, entry_of, entry_is, is_own, own_amount, count_if, on_lists, in_round, unlisted_times}
use Rattle.lw_core.specs.ListedOnce.{OncePerRound}
use Rattle.lw_core.specs.WaitingTellsPlace.{adds_to}
use Rattle.lw_core.proofs.Lists.{same_want_is}
use Rattle.lw_core.proofs.Turns.{Homes, IsSound}

-- what is counted where a test holds
pub count_most : (b : Bool) (n : ℕ) → count_if b n ≤ n
count_most true n = omega arith
count_most false n = omega arith

pub count_none : (b : Bool) (n : ℕ) → n ≡ 0 → count_if b n ≡ 0
count_none b n e = let most = count_most b n in omega arith

pub counted : (b : Bool) (n : ℕ) → 1 ≤ count_if b n → (b ≡ true) × (1 ≤ n)
counted true n some = (refl, some)
counted false n some = absurd (omega arith)

-- of two tests that don't both hold one counts at most
counts_one : (a b : Bool) (n : ℕ) → (a ≡ true → b ≡ false) → count_if a n + count_if b n ≤ n
counts_one true true n one = absurd (let no = one refl in cc)
counts_one true false n one = omega arith
counts_one false b n one = let most = count_most b n in omega arith

-- whether q is the number of a seat that has the number p
pub own_here : (q p : ℕ) (own : Option ℕ) → own ≡ Some p → q ≡ p → is_own q own ≡ 1
own_here q p own e is = ap (is_own q) e ∙ cond-true (eqb p q) 1 0 (eq-eqb p q (sym is))

pub own_else : (q p : ℕ) (own : Option ℕ) → own ≡ Some p → q ≢ p → is_own q own ≡ 0
own_else q p own e ne = ap (is_own q) e ∙ cond-false (eqb p q) 1 0 (ne_eqb p q (λ is. ne (sym is)))

pub owned : (p : ℕ) (own : Option ℕ) → 1 ≤ is_own p own → own ≡ Some p
owned p None some = absurd (omega arith)
owned p (Some q) some = cond_both (eqb q p) 1 0 (λ (n : ℕ). 1 ≤ n → Some q ≡ Some p) (λ is _. ap Some (eqb-true q p is)) (λ _ none. absurd (omega arith)) some

-- an amount that counts for the number of a seat
pub own_all : (p n : ℕ) (own : Option ℕ) → own ≡ Some p → own_amount p own n ≡ n
own_all p n own e = ap (λ (o : Option ℕ). own_amount p o n) e ∙ cond-true (eqb p p) n 0 (eq-eqb p p refl)

pub own_nothing : (p : ℕ) (own : Option ℕ) → own_amount p own 0 ≡ 0
own_nothing p None = refl
own_nothing p (Some q) = cond_both (eqb q p) 0 0 (λ (n : ℕ). n ≡ 0) (λ _. refl) (λ _. refl)

pub own_more : (p n : ℕ) (own : Option ℕ) → own_amount p own (n + 1) ≡ own_amount p own n + is_own p own
own_more p n None = omega arith
own_more p n (Some q) = by_test (eqb q p)
  where
    by_test : (b : Bool) → cond b (n + 1) 0 ≡ cond b n 0 + cond b 1 0
    by_test true = omega arith
    by_test false = omega arith

pub own_less : (p n : ℕ) (own : Option ℕ) → 0 < n → own_amount p own (n - 1) + is_own p own ≡ own_amount p own n
own_less p n own some = let k : n - 1 + 1 ≡ n = omega arith in sym (own_more p (n - 1) own) ∙ ap (own_amount p own) k

-- what f counts of the list in hand, where it is that of l
abbrev pub hand_amount : (List Waiter → ℕ) → ℕ → Option Hand → ℕ
hand_amount f l None = 0
hand_amount f l (Some h) = cond (eqb h.lock l) (f h.list) 0

pub hand_here : (f : List Waiter → ℕ) (l k : ℕ) (hand : Option Hand) (found : List Waiter) → hand ≡ hand_of k found → l ≡ k → hand_amount f l hand ≡ f found
hand_here f l k hand found e is = ap (hand_amount f l) e ∙ cond-true (eqb k l) (f found) 0 (eq-eqb k l (sym is))

pub hand_else : (f : List Waiter → ℕ) (l k : ℕ) (hand : Option Hand) (found : List Waiter) → hand ≡ hand_of k found → l ≢ k → hand_amount f l hand ≡ 0
hand_else f l k hand found e ne = ap (hand_amount f l) e ∙ cond-false (eqb k l) (f found) 0 (ne_eqb k l (λ is. ne (sym is)))

-- an entry that counts for a lock and a want is theirs
pub entry_there : (l : ℕ) (want : Want) (queued : Option Entry) → entry_is l want queued ≡ true → queued ≡ entry_of l want
entry_there l want None e = absurd (cc)
entry_there l want (Some t) e = let both = both_true _ _ e in let lock : t.lock ≡ l = eqb-true t.lock l both.0 in let wants = same_want_is t.want want both.1 in λ k. entry_of (lock k) (wants k)
  where
    both_true : (a b : Bool) → cond a b false ≡ true → (a ≡ true) × (b ≡ true)
    both_true true b e = (refl, e)
    both_true false b e = absurd (cc)

-- 1 where the seat is p and announced that it waits, and how often it marked p on the list in hand
abbrev pub announces_for : ℕ → Stance → ℕ
announces_for p v = count_if v.announced (is_own p v.own)

abbrev pub marked_times : ℕ → Stance → ℕ
marked_times p v = times_on p v.marked

-- the parts of a waiting field: who announced, who is marked on a list, and who is marked off it
pub adds_parts : (p : ℕ) (seats : List Stance) → total (adds_to p) seats ≡ total (announces_for p) seats + (total (marked_times p) seats + 2 * total (unlisted_times p) seats)
adds_parts p [] = refl
adds_parts p (u ∷ us) = let r = adds_parts p us in omega arith

-- where no two seats have one number
module _ (seats : List Stance) (alone : (p : ℕ) → total (λ (u : Stance). is_own p u.own) seats ≤ 1) where
  pub in_one_round : (p : ℕ) → total (in_round p) seats ≤ 1
  in_one_round p = let le = total_le (in_round p) (λ (u : Stance). is_own p u.own) seats (λ i u e. count_most u.round (is_own p u.own)) in let one = alone p in omega arith

  -- who is in a round announced nothing
  pub round_quiet : ((j : ℕ) (u : Stance) → get_elem? seats j ≡ maybe.some u → IsSound u) → (p : ℕ) → 1 ≤ total (in_round p) seats → total (announces_for p) seats ≡ 0
  round_quiet sound p some =
      let both = total_sum_le (announces_for p) (in_round p) (λ (u : Stance). is_own p u.own) seats (λ i u e. counts_one u.announced u.round (is_own p u.own) (sound i u e).announced) in
      let one = alone p in omega arith

  module _ (p id : ℕ) (v : Stance) (at : get_elem? seats id ≡ maybe.some v) (own : v.own ≡ Some p) where
    -- of the seats of number p that have some mark: it is the seat of that number, or there is none
    pub own_counts : (mark : Stance → Bool) → total (λ (u : Stance). count_if (mark u) (is_own p u.own)) seats ≡ count_if (mark v) (is_own p v.own)
    own_counts mark = total_only (λ (u : Stance). count_if (mark u) (is_own p u.own)) (λ (u : Stance). is_own p u.own) seats id v at (alone p) (own_here p p v.own own refl)
        (λ j u e none. count_none (mark u) (is_own p u.own) none)

    pub out_of_round : v.round ≡ false → total (in_round p) seats ≡ 0
    out_of_round not = own_counts (λ (u : Stance). u.round) ∙ ap (λ (b : Bool). count_if b (is_own p v.own)) not

    -- who isn't in a round is on no list, and isn't marked off one
    pub not_listed : (homes : Homes) → OncePerRound homes seats → v.round ≡ false → (on_lists p homes seats ≡ 0) × (total (unlisted_times p) seats ≡ 0)
    not_listed homes once not = let none = out_of_round not in let all = once p in (omega arith, omega arith)

-- those who are marked are on lists in hand
pub marked_most : (seats : List Stance) → ((j : ℕ) (u : Stance) → get_elem? seats j ≡ maybe.some u → IsSound u) → (p : ℕ) → total (marked_times p) seats ≤ total (hand_times p) seats
marked_most seats sound p = total_le (marked_times p) (hand_times p) seats (λ i u e. (sound i u e).marked p)
