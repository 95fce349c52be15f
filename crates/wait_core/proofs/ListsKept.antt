-- What the table keeps of conditions: each step keeps it, and the moves of seats do.
use Rattle.std.proofs.Common.{◌≡◌, ℕ, zero, suc, ◌<◌, ◌≤◌, Bool, List, [], ◌∷◌, ◌++◌, length, map, get_or, set, Option, None, Some, sym, refl, ap, ◌∙◌, subst, arith}
use mathlib.Core.List.{map-append}
use mathlib.Core.Option as maybe
use lib.ListN.{get_elem?}
use lib.Seq.{map-set}
use Rattle.atomic_table.specs.Table.{homes_after}
use Rattle.atomic_table.proofs.Lists.{at_map}
use Rattle.wait_core.specs.declared.step.Spot.{Spot}
use Rattle.wait_core.specs.declared.step.WaitStep.{WaitStep}
use Rattle.wait_core.specs.declared.step.WaitStep.TheVariants.{Take, Free}
use Rattle.wait_core.specs.declared.view.Frame.TheVariants.{Holding}
use Rattle.wait_core.specs.declared.view.Kept.{Kept}
use Rattle.wait_core.specs.declared.view.Size.{Size}
use Rattle.wait_core.specs.declared.view.WaitView.{WaitView}
use Rattle.seat_roster.specs.Roster.{Roster}
use Rattle.seat_roster.proofs.Stretches.{unseen}
use Rattle.wait_core.specs.Words.{most_conditions, slot_of, spin_at, client_base, slots_in}
use Rattle.wait_core.specs.Jobs.{spot_of}
use Rattle.wait_core.specs.Machine.{Place, top, home_of, home_in, slot_number, word_of, becomes, act_of, carried, MayFree, Permits, next_with}
use Rattle.wait_core.specs.Seating.{numbers_of}
use Rattle.wait_core.specs.Fits.{Fits}
use Rattle.wait_core.specs.Slots.{AllAsOpened, OpeningSlots}
use Rattle.wait_core.specs.Stances.{Stance, Homes, hand_at, stance_of, home_amount}
use Rattle.wait_core.specs.ListsStand.{ListsStand}
use Rattle.wait_core.specs.Rule.{Flags}
use Rattle.seat_roster.specs.Roster.{times}
use Rattle.wait_core.proofs.Effects.{spot_inside}
use Rattle.wait_core.proofs.Turns.{IsStill, Turn, stays, idle}
use Rattle.wait_core.proofs.Turning.{stance, no_heeds, view_turns}
use Rattle.wait_core.proofs.Owning.{Alone, alone_stances, both_none}
use Rattle.wait_core.proofs.ListsAreMade.{Finds}
use Rattle.wait_core.proofs.SpinInOneHand.{SpinsAreFlags, home_out, hands_turn, hands_more, hands_idle}
use Rattle.wait_core.proofs.TargetsAreListed.{listed_turn, listed_more, listed_idle}
use Rattle.wait_core.proofs.SignalIsKept.{signals_turn, signals_more, signals_idle}

module _ (z : Size) (words : List ℕ) (homes : Homes) (seats : List Stance) (stand : ListsStand z words homes seats) where
  turned : client_base z ≤ length words → SpinsAreFlags z words → Alone seats → (id : ℕ) (v : Stance) → get_elem? seats id ≡ maybe.some v → (after : Homes) (i x : ℕ) (w : Stance) → Turn z words homes after i x v w → ListsStand z (set words i x) after (set seats id w)
  turned wide flags alone id v at after i x w turn = record {
    hands = hands_turn z words homes seats wide flags stand.hands id v at after i x w turn;
    listed = listed_turn z words homes seats wide flags stand.hands alone stand.listed id v at after i x w turn;
    signals = signals_turn z words homes seats wide flags stand.hands alone stand.signals id v at after i x w turn;
  }

  more : (own : Option ℕ) → ListsStand z words homes (seats ++ idle own ∷ [])
  more own = record {
    hands = hands_more z words homes seats own stand.hands;
    listed = listed_more (slots_in z) homes seats own stand.listed;
    signals = signals_more z.procs (slots_in z) words homes seats own stand.signals;
  }

  -- a seat in no call and without a target is spent
  spent : (id : ℕ) (own : Option ℕ) → get_elem? seats id ≡ maybe.some (idle own) → ListsStand z words homes (set seats id (idle None))
  spent id own at = record {
    hands = hands_idle z words homes seats id own None at stand.hands;
    listed = listed_idle (slots_in z) homes seats id own None at stand.listed;
    signals = signals_idle z.procs (slots_in z) words homes seats id own None at stand.signals;
  }

-- the stance of a seat in no call and without a target
idle_stance : {C : Type 0} (v : WaitView C) → v.place ≡ [] → v.target ≡ None → stance_of v ≡ idle v.own
idle_stance v still free = by_place v.own v.heeds v.place v.target still free
  where
    by_place : (own : Option ℕ) (h : Bool) (p : Place) (t : Option ℕ) → p ≡ [] → t ≡ None
        → stance own t h p ≡ idle own
    by_place own h p t still free = (λ i. stance own (free i) h (still i)) ∙ (λ i. record (idle own) { heeds = no_heeds h i })

module _ {C : Type 0} (z : Size) (most : z.cvs ≤ most_conditions) (next : ℕ) (words : List ℕ) (homes : Homes) (views : List (WaitView C)) (wide : client_base z ≤ length words) (flags : Flags z words) (roster : Roster z.procs next (map numbers_of views)) (stand : ListsStand z words homes (map stance_of views)) where
  spins : SpinsAreFlags z words
  spins x below = flags (spin_at z x) (omega arith) (omega arith)

  module _ (id : ℕ) (v : WaitView C) (at : get_elem? views id ≡ maybe.some v) where
    there : get_elem? (map stance_of views) id ≡ maybe.some (stance_of v)
    there = at_map stance_of views id v at

    taken : (x : ℕ) → x < slots_in z → get_or words (spin_at z x) 0 ≡ 0 → get_elem? homes x ≡ maybe.some (maybe.some (home_in homes x))
    taken x inside clear = let home = (stand.hands x inside).at_home clear in home.1 ∙ ap (λ (k : Kept). maybe.some (maybe.some k)) (sym (ap home_of home.1))

    freed : (x : Spot) (after : Option ℕ) (p : Place) → v.place ≡ p → slot_of x < slots_in z → MayFree x after v.target (top p) → get_elem? homes (slot_of x) ≡ maybe.some maybe.none
    freed x after (Holding j list found ∷ p) is inside ok = subst (λ (y : Spot). slot_of y < slots_in z → get_elem? homes (slot_of y) ≡ maybe.some maybe.none) ok.0
        (λ low. home_out z words homes (map stance_of views) wide spins stand.hands id (slot_of (spot_of j)) (stance_of v) list there low (ap hand_at is)) inside
    freed x after p is inside ok = absurd ok

    -- a list that is taken was at home, one that goes home was out
    pub lists_found : (o : ℕ) (k : WaitStep) → Permits z k (Some o) v.target v.place → Finds z k (get_or words (word_of z o k) 0) (home_in homes (slot_number k)) homes
    lists_found o (Take x (Some b)) ok = taken (slot_of x) (spot_inside z x most ok.0)
    lists_found o (Take x None) ok = taken (slot_of x) (spot_inside z x most ok.0)
    lists_found o (Free x after) ok = freed x after v.place refl (spot_inside z x most ok.0) ok.1
    lists_found o k ok = tt

    -- a step of the machine
    pub lists_step : (o : ℕ) → v.own ≡ Some o → o < z.procs → (k : WaitStep) → Permits z k (Some o) v.target v.place → Fits z.cvs v.target v.place → get_or words (word_of z o k) 0 ≤ 1
        → let n = get_or words (word_of z o k) 0 in let found = home_in homes (slot_number k) in
        ListsStand z (set words (word_of z o k) (becomes k n)) (homes_after homes (carried k o v.place) (act_of k n found)) (map stance_of (set views id (next_with z k v n found)))
    lists_step o own below k ok fits few =
        let n : ℕ = get_or words (word_of z o k) 0 in let found : Kept = home_in homes (slot_number k) in let w : WaitView C = next_with z k v n found in
        let after : Homes = homes_after homes (carried k o v.place) (act_of k n found) in
        subst (ListsStand z (set words (word_of z o k) (becomes k n)) after) (sym (map-set stance_of views id w))
        (turned z words homes (map stance_of views) stand wide spins (alone_stances z.procs next views roster) id (stance_of v) there after (word_of z o k) (becomes k n) (stance_of w)
        (view_turns z most words homes o below v k (λ x inside none. (stand.hands x inside).at_home none) own ok fits few))

    -- the word of a client, or the next number, changes
    pub lists_apart : (i x : ℕ) (w : WaitView C) → IsStill z words i x → stance_of w ≡ stance_of v → ListsStand z (set words i x) homes (map stance_of (set views id w))
    lists_apart i x w still same = subst (ListsStand z (set words i x) homes) (sym (map-set stance_of views id w))
        (turned z words homes (map stance_of views) stand wide spins (alone_stances z.procs next views roster) id (stance_of v) there homes i x (stance_of w) (stays still refl same))

    -- a seat comes
    pub lists_more : (stay w : WaitView C) (own : Option ℕ) → stance_of stay ≡ stance_of v → stance_of w ≡ idle own → ListsStand z words homes (map stance_of (set views id stay ++ w ∷ []))
    lists_more stay w own same new = subst (ListsStand z words homes)
        (sym (map-append stance_of (set views id stay) (w ∷ []) ∙ ((λ i. unseen stance_of views id v stay at same i ++ stance_of w ∷ []) ∙ (λ i. map stance_of views ++ new i ∷ []))))
        (more z words homes (map stance_of views) stand own)

    -- a seat takes in another
    pub lists_joined : (other : ℕ) (w both left : WaitView C) → (other ≡ id → ⊥) → get_elem? views other ≡ maybe.some w → w.place ≡ [] → w.target ≡ None → stance_of both ≡ stance_of v → stance_of left ≡ idle None
        → ListsStand z words homes (map stance_of (set (set views id both) other left))
    lists_joined other w both left apart at_other still free same none = subst (ListsStand z words homes)
        (sym (map-set stance_of (set views id both) other left ∙ (λ i. set (unseen stance_of views id v both at same i) other (none i))))
        (spent z words homes (map stance_of views) stand other w.own (at_map stance_of views other w at_other ∙ ap maybe.some (idle_stance w still free)))

-- THE OPENING. Nobody is on a list
no_one : (phase p : ℕ) (slots : List Kept) (x : ℕ) → AllAsOpened phase slots → home_amount (times p) x (map maybe.some slots) ≡ 0
no_one phase p [] x all = refl
no_one phase p (k ∷ slots) zero all = ap (times p) all.0.nobody
no_one phase p (k ∷ slots) (suc x) all = no_one phase p slots x all.1

at_home : (slots : List Kept) (x : ℕ) → x < length slots → (k : Kept) × (get_elem? (map maybe.some slots) x ≡ maybe.some (maybe.some k))
at_home [] x below = absurd (omega arith)
at_home (k ∷ slots) zero below = (k, refl)
at_home (k ∷ slots) (suc x) below = at_home slots x (omega arith)

pub lists_open : (z : Size) (phase : ℕ) (words : List ℕ) (slots : List Kept) → ((i : ℕ) → 0 < i → i < client_base z → get_or words i 0 ≡ 0) → OpeningSlots z phase slots → ListsStand z words (map maybe.some slots) (idle (Some 0) ∷ [])
lists_open z phase words slots none new = record {
  hands = λ x below. let word = none (spin_at z x) (omega arith) (omega arith) in let count = new.count in record {
    one = omega arith;
    out = λ e. absurd (omega arith);
    at_home = λ e. at_home slots x (omega arith);
  };
  listed = λ p x below. let nobody = no_one phase p slots x new.each in omega arith;
  signals = λ p x few below heeds off. absurd (let no = both_none p x (Some 0) in omega arith);
}
