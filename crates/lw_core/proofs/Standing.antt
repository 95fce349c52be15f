-- What the stances of all seats have in common, where their places fit and their numbers stand.
use Rattle.std.proofs.Common.{◌≡◌, ℕ, ◌+◌, ◌*◌, ◌<◌, ◌≤◌, true, false, List, [], ◌∷◌, length, map, Option, None, Some, refl, ap, arith}
use mathlib.Core.Option as maybe
use lib.ListN.{get_elem?}
use Rattle.seat_roster.specs.Totals.{total}
use Rattle.seat_roster.specs.Roster.{Roster, count, one_if, stands, times_in}
use Rattle.seat_roster.proofs.Totals.{total_map, total_le}
use Rattle.seat_roster.proofs.Numbers.{most_one, own_inside}
use Rattle.seat_roster.proofs.Stretches.{at_seen}
use Rattle.lw_core.specs.declared.view.Frame.TheVariants.{Attempting, Trying, Queued, TakingList, Spinning, Appending, Dequeueing, Checking, Removing, Withdrawing, Looking, Asleep, Downing, Sleeping, Marking, Detaching, Peeking, Comparing, Reading, Returning, Allowing, VarQueued, Calling}
use Rattle.lw_core.specs.declared.view.Hold.{Hold}
use Rattle.lw_core.specs.declared.view.View.{View}
use Rattle.lw_core.specs.WaitLists.{times_on}
use Rattle.lw_core.specs.Machine.{Place}
use Rattle.lw_core.specs.SeatFits.{PlaceFits, SeatFits}
use Rattle.lw_core.specs.Stances.{Stance, Entry, hand_list, hand_at, announced_at, round_at, queued_at, sleep_entry, sleeps, due_at, due_of, leaving_at, marked_at, is_own, stance_of}
use Rattle.lw_core.specs.Rule.{numbers_of, seating_of}
use Rattle.lw_core.proofs.Lists.{times_append, times_parted, times_headed}
use Rattle.lw_core.proofs.Turns.{IsSound}

marked_in_hand : (holds : List Hold) (s p : ℕ) (place : Place) → PlaceFits holds s place → times_on p (marked_at place) ≤ times_on p (hand_list (hand_at place))
marked_in_hand holds s p (Marking l updated found marked rest ∷ q) fits = let a = times_append p marked rest in let b = ap (times_on p) fits.0 in let c = times_parted p found in omega arith
marked_in_hand holds s p (Calling l found marked rest ∷ q) fits = let a = times_append p marked rest in let b = ap (times_on p) fits.0 in let c = times_headed p found in omega arith
marked_in_hand holds s p (Detaching l updated found w ∷ q) fits = let c = times_parted p found in omega arith
marked_in_hand holds s p place fits = omega arith

announced_out : (place : Place) → announced_at place ≡ true → (round_at place ≡ false) × (due_at place ≡ None)
announced_out (Appending l w found ∷ q) e = (refl, refl)
announced_out (Withdrawing ∷ q) e = (refl, refl)
announced_out [] e = absurd (cc)
announced_out place e = absurd (cc)

asleep_in : (q : Place) (e : Entry) → sleep_entry q ≡ Some e → sleeps q ≡ true
asleep_in (Sleeping l w false ∷ q) e is = refl
asleep_in (Sleeping l w true ∷ q) e is = absurd (cc)
asleep_in [] e is = absurd (cc)
asleep_in q e is = absurd (cc)

queued_in : (place : Place) (e : Entry) → queued_at place ≡ Some e → (round_at place ≡ true) × (due_at place ≡ due_of (Some e))
queued_in (Attempting l m ∷ Queued k n u ∷ q) e is = (refl, ap due_of is)
queued_in (Trying l m w ∷ Queued k n u ∷ q) e is = (refl, ap due_of is)
queued_in (TakingList l ∷ Dequeueing k w ∷ q) e is = (refl, ap due_of is)
queued_in (Spinning l ∷ Dequeueing k w ∷ q) e is = (refl, ap due_of is)
queued_in (Checking l w found ∷ q) e is = (refl, ap due_of is)
queued_in (Removing l w found here ∷ q) e is = (refl, ap due_of is)
queued_in (Looking ∷ q) e is = (asleep_in q e is, ap due_of is)
queued_in (Asleep ∷ q) e is = (asleep_in q e is, ap due_of is)
queued_in (Downing ∷ q) e is = (asleep_in q e is, ap due_of is)
queued_in (Sleeping l w answered ∷ q) e is = (refl, ap due_of is)
queued_in (Allowing l ∷ q) e is = (refl, ap due_of is)
queued_in (Peeking l old ∷ VarQueued k older ∷ q) e is = (refl, ap due_of is)
queued_in (TakingList l ∷ Comparing k old ∷ VarQueued j older ∷ q) e is = (refl, ap due_of is)
queued_in (Spinning l ∷ Comparing k old ∷ VarQueued j older ∷ q) e is = (refl, ap due_of is)
queued_in (Reading l old found ∷ VarQueued k older ∷ q) e is = (refl, ap due_of is)
queued_in (Returning l old found n ∷ VarQueued k older ∷ q) e is = (refl, ap due_of is)
queued_in [] e is = absurd (cc)
queued_in place e is = absurd (cc)

leaving_in : (place : Place) → hand_at place ≡ None → leaving_at place ≡ None
leaving_in (Removing l w found here ∷ q) e = absurd (cc)
leaving_in [] e = refl
leaving_in place e = refl

queued_unmarked : (place : Place) (e : Entry) → queued_at place ≡ Some e → marked_at place ≡ []
queued_unmarked (Marking l updated found marked rest ∷ q) e is = absurd (cc)
queued_unmarked (Detaching l updated found w ∷ q) e is = absurd (cc)
queued_unmarked (Calling l found marked rest ∷ q) e is = absurd (cc)
queued_unmarked [] e is = refl
queued_unmarked place e is = refl

pub sound_stance : (v : View) → SeatFits (seating_of v) → IsSound (stance_of v)
sound_stance v fits = record {
  marked = λ p. marked_in_hand v.holds v.surplus p v.place fits.place;
  announced = λ e. (announced_out v.place e).0;
  undue = λ e. (announced_out v.place e).1;
  leaving = λ e. leaving_in v.place e;
  unmarked = λ e is. queued_unmarked v.place e is;
  queued = λ e is. queued_in v.place e is;
}

-- no two seats have one number, and each is below the next
owns_le : (p : ℕ) (own : Option ℕ) (a b : ℕ) → is_own p own ≤ times_in p own + a + b
owns_le p None a b = omega arith
owns_le p (Some q) a b = omega arith

pub alone_seats : (procs next : ℕ) (views : List View) → Roster procs next (map numbers_of views) → (p : ℕ) → total (λ (u : Stance). is_own p u.own) (map stance_of views) ≤ 1
alone_seats procs next views r p =
    let a = total_map (λ (u : Stance). is_own p u.own) stance_of views in let b = total_map (stands p) numbers_of views in let most = most_one procs next (map numbers_of views) r p in
    let le = total_le (λ (v : View). is_own p v.own) (λ (v : View). stands p (numbers_of v)) views (λ i v e. owns_le p v.own _ _) in omega arith

pub number_below : (procs next : ℕ) (views : List View) → Roster procs next (map numbers_of views) → (id p : ℕ) (v : View) → get_elem? views id ≡ maybe.some v → v.own ≡ Some p → p < procs
number_below procs next views r id p v at own = let a = own_inside procs next (map numbers_of views) r id p (numbers_of v) (at_seen numbers_of views id v (numbers_of v) at refl) own in let b = r.few in omega arith

-- few pokes were made: 1,048,576 by each backend at most
poked_most : (v : View) → SeatFits (seating_of v) → length v.poked ≤ 1048576 * count (numbers_of v)
poked_most v fits = by_own v.own refl
  where
    by_own : (o : Option ℕ) → v.own ≡ o → length v.poked ≤ 1048576 * count (numbers_of v)
    by_own None none = let a = fits.poked in let b = (fits.idle none).1 in omega arith
    by_own (Some n) is = let a = fits.poked in let b = fits.pokes in let c : one_if v.own ≡ 1 = ap one_if is in omega arith

total_times : {A : Type 0} (f : A → ℕ) (l : List A) → total (λ (x : A). 1048576 * f x) l ≡ 1048576 * total f l
total_times f [] = refl
total_times f (x ∷ xs) = let r = total_times f xs in omega arith

pub pokes_few : (procs next : ℕ) (views : List View) → Roster procs next (map numbers_of views) → procs ≤ 64 → ((id : ℕ) (v : View) → get_elem? views id ≡ maybe.some v → SeatFits (seating_of v))
    → total (λ (u : Stance). length u.poked) (map stance_of views) ≤ 67108864
pokes_few procs next views r few fits =
    let a = total_map (λ (u : Stance). length u.poked) stance_of views in let b = total_map count numbers_of views in let c = total_times (λ (v : View). count (numbers_of v)) views in
    let le = total_le (λ (v : View). length v.poked) (λ (v : View). 1048576 * count (numbers_of v)) views (λ i v e. poked_most v (fits i v e)) in let d = r.counted in let e = r.few in omega arith
