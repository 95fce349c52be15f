-- The whole rule holds at the opening, and after each step and each move.
use Rattle.std.proofs.Common.{◌≡◌, ℕ, zero, suc, ◌+◌, ◌-◌, ◌^◌, ◌<◌, ◌≤◌, eqb, Bool, true, false, cond, List, [], ◌∷◌, ◌++◌, length, map, get_or, set, None, Some, sym, refl, ap, ◌∙◌, subst, arith, length-set, eq-eqb}
use mathlib.Core.Option as maybe
use lib.ListN.{get_elem?}
use Rattle.atomic_table.specs.Table.{keeps, takes, gives, homes_after, opening}
use Rattle.proc_table.specs.declared.Mode.{Mode}
use Rattle.lw_core.specs.declared.step.LwStep.{LwStep}
use Rattle.lw_core.specs.declared.step.LwStep.TheVariants as kind
use Rattle.lw_core.specs.declared.view.Frame.TheVariants.{Trying, Downing}
use Rattle.lw_core.specs.declared.view.Hold.{Hold}
use Rattle.lw_core.specs.declared.view.View.{View}
use Rattle.lw_core.specs.declared.view.Size.{Size}
use Rattle.lw_core.specs.declared.view.Waiter.{Waiter}
use Rattle.seat_roster.specs.Totals.{total}
use Rattle.lw_core.specs.Words.{Waiters, state_at, guard_at, waiting_at, sem_at, grant_of, locked, has_flag, guarded, word_count, Opens}
use Rattle.lw_core.specs.WaitLists.{AllEmpty, IsUntilFreeFirst, times_on, times_with, home_of, home_list}
use Rattle.lw_core.specs.Machine.{LwState, top, outer, not_held, held, hold_in, moved, gripped, on_grant, let_go, fresh, IsInRange, number_of, lock_number, mode_in, word_of, becomes, next, carried, act_of, takes_list, sends_home, as_waiters, left_at, Allowed, after, HoldsNothing, releasing, guard_hold, guard_becomes, guard_writes}
use Rattle.lw_core.specs.Stances.{Stance, hand_list, home_times, own_amount, downing_at, stance_of}
use Rattle.lw_core.specs.SeatFits.{Seating, SeatFits}
use Rattle.lw_core.specs.Told.{Tells, TellsList}
use Rattle.lw_core.specs.ListInOneHand.{ListInOneHand, HandsInside}
use Rattle.lw_core.specs.ListedOnce.{ListedOnce}
use Rattle.lw_core.specs.WaitingTellsPlace.{WaitingTellsPlace}
use Rattle.lw_core.specs.FlagCoversList.{FlagCoversList}
use Rattle.lw_core.specs.ReleaseOkIsOwed.{ReleaseOkIsOwed}
use Rattle.lw_core.specs.WakesAreConserved.{WakesAreConserved}
use Rattle.lw_core.specs.MarkersPost.{MarkersPost}
use Rattle.lw_core.specs.Rule.{EachListInOneHand, EachFlagCovers, EachReleaseOkIsOwed, Rule, seating_of}
use Rattle.lw_core.specs.Runs.{drew_one, stays as stays_with, comes, both, spent, drawn, split, joined, Steps, Event, steps, draws, splits, joins, Turns, Run}
use Rattle.seat_roster.specs.Roster.{Roster, numbered}
use Rattle.seat_roster.proofs.Numbers.{roster_first}
use Rattle.seat_roster.proofs.Stretches.{seen, seen_more, at_seen, from_seen, unseen, for_same}
use Rattle.atomic_table.proofs.Lists.{set_again, set_else, some_there}
use Rattle.std.proofs.lemmas.List.{length-map}
use Rattle.lw_core.specs.CountsHolders.{is_shared, is_exclusive}
use Rattle.lw_core.specs.GuardedIsLawful.{Knows}
use Rattle.lw_core.proofs.Guarding.{knows_not_held}
use Rattle.lw_core.proofs.Touches.{hold_here, top_is, fresh_hold, guards_held}
use Rattle.lw_core.proofs.Roster.{roster_step, roster_draw, roster_split, roster_join}
use Rattle.lw_core.proofs.WordsAreMade.{made_step, made_draw, made_split, made_join, made_opens}
use Rattle.lw_core.proofs.ListsAreMade.{lists_made_step, lists_made_draw, lists_made_split, lists_made_join, lists_made_opens}
use Rattle.lw_core.specs.FramesStand.{AllStand}
use Rattle.lw_core.proofs.FramesStand.{frames_step, frames_draw, frames_split, frames_join}
use Rattle.lw_core.proofs.Places.{places_step, places_draw, places_split, places_join, fresh_fits}
use Rattle.lw_core.proofs.Places as places
use Rattle.lw_core.proofs.Counts.{counts_step, counts_draw, counts_split, counts_join, inside_holds}
use Rattle.lw_core.proofs.Guards.{guards_step, guards_draw, guards_split, guards_join, reads_step, writes_step}
use Rattle.lw_core.proofs.Turns.{Homes, first, stays, Turn, idle, takes_over}
use Rattle.lw_core.proofs.Fits.{idle_clear}
use Rattle.lw_core.proofs.Turning.{stance}
use Rattle.lw_core.proofs.Seats.{alone, seat_fits, sound, out, one_hand, few_poked, seat_at, own_inside, numbered_as, step_turn}
use Rattle.lw_core.proofs.Beside.{Beside}
use Rattle.lw_core.proofs.FreeLock.{free_step, free_draw, free_split, free_join, free_opens}
use Rattle.lw_core.proofs.Variable.{var_step, var_draw, var_split, var_join, var_opens}
use Rattle.lw_core.proofs.Standing.{alone_seats, number_below}
use Rattle.lw_core.proofs.Hands.{hands_turn, hands_more, hands_joined, inside_turn, inside_more, inside_joined}
use Rattle.lw_core.proofs.FlagCovers.{covers_turn, covers_more, covers_joined, flagged_seat}
use Rattle.lw_core.proofs.Listed.{listed_turn, listed_added, listed_joined, room_on_list}
use Rattle.lw_core.proofs.WaitingFields.{waiting_turn, waiting_added, waiting_joined}
use Rattle.lw_core.proofs.Answered.{owed_turn, owed_added, owed_joined}
use Rattle.lw_core.proofs.Balance.{wakes_turn, wakes_added, wakes_joined, down_there, sem_bound, surplus_bound}
use Rattle.lw_core.proofs.Markers.{markers_turn, markers_added, markers_joined}

-- the lists at home are as many as before
homes_long : (homes : Homes) (k : LwStep) (v : View) (n : ℕ) (found : List Waiter) → length (homes_after homes (carried k v) (act_of k n found)) ≡ length homes
homes_long homes k v n found = by_act (takes_list k n) (sends_home k n)
  where
    by_act : (a b : Bool) → length (homes_after homes (carried k v) (cond a (takes (lock_number k) (as_waiters found)) (cond b gives keeps))) ≡ length homes
    by_act true b = length-set homes (lock_number k) maybe.none
    by_act false true = length-set homes (lock_number k) (maybe.some (as_waiters (left_at v.place (number_of v.own))))
    by_act false false = refl

module _ (lawful : ℕ → List ℕ → Type 0) (z : Size) (s : LwState) (r : Rule lawful z s) where
  abbrev seats : List Stance
  seats = map stance_of s.views

  module _ (id : ℕ) (v : View) (at : get_elem? s.views id ≡ maybe.some v) where
    there : get_elem? seats id ≡ maybe.some (stance_of v)
    there = seat_at lawful z s r id v at

    tells_list : (l : ℕ) → l < z.locks → (v.own ≡ None → ⊥) → has_flag locked (get_or s.words (state_at l) 0) ≡ 0 → TellsList z v (home_list s.homes l)
    tells_list l below numbered clear = let own = numbered_as lawful z s r id v at numbered in let home = (r.lists l below).at_home clear in
        subst (TellsList z v) (sym (ap home_of home.1)) (room_on_list z.procs s.homes seats (alone lawful z s r) r.listed.once numbers l home.0 home.1 (number_of v.own) id (stance_of v) there own)
      where
        numbers : (j q : ℕ) (u : Stance) → get_elem? seats j ≡ maybe.some u → u.own ≡ Some q → q < z.procs
        numbers j q u e own = let seat = from_seen stance_of s.views j u e in number_below z.procs (get_or s.words 0 0) s.views r.roster j q seat.0 seat.1 (ap (λ (x : Stance). x.own) seat.2 ∙ own)

    -- THE RULE AFTER A STEP
    pub rule_step : (k : LwStep) → IsInRange z k → (v.own ≡ None → ⊥) → Allowed lawful k v → Rule lawful z (after z s id v k)
    rule_step k inside numbered ok =
        let i : ℕ = word_of z (number_of v.own) k in let n : ℕ = get_or s.words i 0 in let found : List Waiter = home_list s.homes (lock_number k) in let x : ℕ = becomes k n in
        let w : View = next k v n found in let homes : Homes = homes_after s.homes (carried k v) (act_of k n found) in let t = step_turn lawful z s r id v at k inside numbered ok in
        let looks = seen stance_of s.views id w (stance_of w) refl in let long = r.sized.long in let slots = r.sized.slots in
        let one = alone lawful z s r in let sounds = sound lawful z s r in let outside = out lawful z s r in
        let slots_after = homes_long s.homes k v n found ∙ slots in
        let roster_after = roster_step lawful z s r id v at k in
        let counts_after = counts_step lawful z s r id v at k inside numbered ok in
        let hands_after = for_same _ _ looks (HandsInside z.locks) (inside_turn z s.words s.homes seats r.hands id (stance_of v) there homes i x (stance_of w) t) in
        let listed_after = for_same _ _ looks (ListedOnce z.locks homes)
        (listed_turn z s.words s.homes seats slots one sounds r.listed r.waiting outside r.hands (one_hand lawful z s r) id (stance_of v) there homes i x (stance_of w) t) in
        let flags_after : EachFlagCovers z (after z s id v k) = λ l below. for_same _ _ looks (FlagCoversList l (get_or (set s.words i x) (state_at l) 0) (home_list homes l))
        (covers_turn z s.words s.homes seats long slots r.lists r.flags (flagged_seat s.views) id (stance_of v) there homes i x (stance_of w) t l below) in
        let answers_after : EachReleaseOkIsOwed z (after z s id v k) = λ l below. for_same _ _ looks (ReleaseOkIsOwed l (get_or (set s.words i x) (state_at l) 0) homes)
        (owed_turn z s.words s.homes seats long slots one sounds r.listed r.answers outside id (stance_of v) there homes i x (stance_of w) t l below) in
        let lists_after : EachListInOneHand z (after z s id v k) = λ l below. for_same _ _ looks (λ (xs : List Stance). ListInOneHand l (get_or (set s.words i x) (state_at l) 0) (get_elem? homes l) xs)
        (hands_turn z s.words s.homes seats long slots r.lists id (stance_of v) there homes i x (stance_of w) t l below) in
        let places_after = places_step lawful z s r id v at numbered k inside ok in
        let beside : Beside z (after z s id v k) = record {
          slots = slots_after;
          alone = alone_seats z.procs (get_or (set s.words i x) 0 0) (set s.views id w) roster_after;
          places = places_after;
          counts = counts_after;
          lists = lists_after;
          hands = hands_after;
          listed = listed_after;
          flags = flags_after;
          answers = answers_after;
        } in record {
          sized = record { locks = r.sized.locks; procs = r.sized.procs; long = length-set s.words i x ∙ long; slots = slots_after };
          roster = roster_after;
          made = made_step lawful z s r id v at k inside numbered ok;
          lists_made = lists_made_step lawful z s r id v at k inside ok;
          places = places_after;
          frames = frames_step lawful z s r id v at (λ l below clear. (tells_list l below numbered clear).0) k inside ok;
          counts = counts_after;
          guarded = guards_step lawful z s r id v at k inside numbered ok;
          lists = lists_after;
          hands = hands_after;
          listed = listed_after;
          waiting = for_same _ _ looks (WaitingTellsPlace z (set s.words i x) homes) (waiting_turn z s.words s.homes seats long slots one sounds r.listed r.waiting outside id (stance_of v) there homes i x (stance_of w) t);
          flags = flags_after;
          answers = answers_after;
          wakes = for_same _ _ looks (WakesAreConserved z (set s.words i x) homes) (wakes_turn z s.words s.homes seats long slots one r.listed r.wakes outside id (stance_of v) there homes i x (stance_of w) t);
          markers = for_same _ _ looks (MarkersPost z) (markers_turn z s.words s.homes seats one sounds r.waiting r.wakes r.markers id (stance_of v) there homes i x (stance_of w) t);
          free = free_step lawful z s r id v at k inside numbered ok beside;
          variables = var_step lawful z s r id v at k inside numbered ok beside;
        }

    -- WHAT A STEP TELLS
    granted : (l w n : ℕ) (m : Mode) (found : List Waiter) → l < z.locks → n ≡ w → hold_in l (next (kind.Grant l m w) v n found) ≡ held m
    granted l w n m found inside hit = let k : LwStep = kind.Grant l m w in
        subst (λ (b : Bool). hold_in l (cond b (gripped v k l n (on_grant v.surplus (outer v.place)) (held m) (v.grants + 1)) (moved v k n (Trying l m n ∷ outer v.place))) ≡ held m) (sym (eq-eqb n w hit))
        (hold_here v k l n (on_grant v.surplus (outer v.place)) (held m) (v.grants + 1) (inside_holds lawful z s r id v at l inside))

    pub sem_small : (p : ℕ) → p < z.procs → get_or s.words (sem_at z p) 0 < 2 ^ 32
    sem_small p below = let a = sem_bound z s.words s.homes seats r.wakes (alone lawful z s r) 67108864 (few_poked lawful z s r) p below in omega arith

    surplus_small : (v.own ≡ None → ⊥) → v.surplus < 2 ^ 32
    surplus_small numbered = let own = numbered_as lawful z s r id v at numbered in let a = surplus_bound z s.words s.homes seats r.wakes (alone lawful z s r) 67108864 (few_poked lawful z s r) id (number_of v.own) (stance_of v) there own (own_inside lawful z s r id v at (number_of v.own) own) in omega arith

    sem_there : (v.own ≡ None → ⊥) → top v.place ≡ Some Downing → 1 ≤ get_or s.words (sem_at z (number_of v.own)) 0
    sem_there numbered ok = let own = numbered_as lawful z s r id v at numbered in down_there z s.words s.homes seats r.wakes id (number_of v.own) (stance_of v) there own (own_inside lawful z s r id v at (number_of v.own) own)
        (ap downing_at (top_is v.place Downing ok))

    pub by_kind : (k : LwStep) → IsInRange z k → (v.own ≡ None → ⊥) → Allowed lawful k v → Tells lawful z k v (get_or s.words (word_of z (number_of v.own) k) 0) (home_list s.homes (lock_number k))
    by_kind (kind.Load l b) inside numbered ok = ((r.counts l inside.0).fits, places.nothing_back lawful z s r id v at)
    by_kind (kind.Grant l m w) inside numbered ok = ((r.counts l inside.0).fits, granted l w (get_or s.words (state_at l) 0) m (home_list s.homes l) inside.0)
    by_kind (kind.Refuse l m w) inside numbered ok = (r.counts l inside.0).fits
    by_kind (kind.Sub l m b) inside numbered ok = let n : ℕ = get_or s.words (state_at l) 0 in
        ((r.counts l inside.0).fits, hold_here v (kind.Sub l m b) l n (let_go b l (n - grant_of m) (releasing b v.place)) not_held v.grants (inside_holds lawful z s r id v at l inside.0))
    by_kind (kind.Peek l b) inside numbered ok = ((r.counts l inside.0).fits, places.nothing_back lawful z s r id v at)
    by_kind (kind.Guard l k o) inside numbered ok = let n : ℕ = get_or s.words (guard_at l k) 0 in
        (hold_here v (kind.Guard l k o) l n v.place (guard_hold o (hold_in l v) k n) v.grants (inside_holds lawful z s r id v at l inside.0), writes_step lawful z s r id v at l k (guard_becomes o n) inside.0 ok.0, reads_step lawful z s r id v at l k inside.0 (ok.0, ok.1, guards_held (guard_writes o) (mode_in l v) ok.2))
    by_kind (kind.VarLoad l) inside numbered ok = tt
    by_kind (kind.VarStore l x) inside numbered ok = tt
    by_kind (kind.Lock l b) inside numbered ok = ((r.counts l inside.0).fits, tells_list l inside.0 numbered, places.nothing_back lawful z s r id v at)
    by_kind (kind.Unlock l c) inside numbered ok = (r.counts l inside.0).fits
    by_kind (kind.Flag l) inside numbered ok = (r.counts l inside.0).fits
    by_kind (kind.WaitStore q x) inside numbered ok = tt
    by_kind kind.WaitLoad inside numbered ok = surplus_small numbered
    by_kind (kind.Wake l w to) inside numbered ok = (r.counts l inside.0).fits
    by_kind (kind.Post q b) inside numbered ok = tt
    by_kind (kind.Look b) inside numbered ok = tt
    by_kind kind.Down inside numbered ok = sem_there numbered ok
    by_kind (kind.SetReleaseOk l) inside numbered ok = (r.counts l inside.0).fits

    -- THE MOVES
    pub rule_draw : v.own ≡ Some 0 → v.pending ≡ None → v.drawn + 1 < z.procs → Rule lawful z (drawn s id v)
    rule_draw zero_is free more =
        let n : ℕ = get_or s.words 0 0 in let looks = unseen stance_of s.views id v (drew_one v) at refl in let long = r.sized.long in let slots = r.sized.slots in
        let t : Turn z s.words s.homes s.homes 0 (n + 1) (stance_of v) (stance_of v) = stays (first refl) refl refl in let again = set_again seats id (stance_of v) there in
        let same = looks ∙ sym again in record {
          sized = record { locks = r.sized.locks; procs = r.sized.procs; long = length-set s.words 0 (n + 1) ∙ long; slots = slots };
          roster = roster_draw lawful z s r id v at zero_is free more;
          made = made_draw lawful z s r id v at;
          lists_made = lists_made_draw lawful z s r id v at;
          places = places_draw lawful z s r id v at;
          frames = frames_draw lawful z s r id v at;
          counts = counts_draw lawful z s r id v at;
          guarded = guards_draw lawful z s r id v at;
          lists = λ l below. for_same _ _ same (λ (xs : List Stance). ListInOneHand l (get_or (set s.words 0 (n + 1)) (state_at l) 0) (get_elem? s.homes l) xs)
              (hands_turn z s.words s.homes seats long slots r.lists id (stance_of v) there s.homes 0 (n + 1) (stance_of v) t l below);
          hands = for_same _ _ looks (HandsInside z.locks) r.hands;
          listed = for_same _ _ looks (ListedOnce z.locks s.homes) r.listed;
          waiting = for_same _ _ same (WaitingTellsPlace z (set s.words 0 (n + 1)) s.homes) (waiting_turn z s.words s.homes seats long slots (alone lawful z s r) (sound lawful z s r) r.listed r.waiting (out lawful z s r) id (stance_of v) there s.homes 0 (n + 1) (stance_of v) t);
          flags = λ l below. for_same _ _ same (FlagCoversList l (get_or (set s.words 0 (n + 1)) (state_at l) 0) (home_list s.homes l))
              (covers_turn z s.words s.homes seats long slots r.lists r.flags (flagged_seat s.views) id (stance_of v) there s.homes 0 (n + 1) (stance_of v) t l below);
          answers = λ l below. for_same _ _ same (ReleaseOkIsOwed l (get_or (set s.words 0 (n + 1)) (state_at l) 0) s.homes)
              (owed_turn z s.words s.homes seats long slots (alone lawful z s r) (sound lawful z s r) r.listed r.answers (out lawful z s r) id (stance_of v) there s.homes 0 (n + 1) (stance_of v) t l below);
          wakes = for_same _ _ same (WakesAreConserved z (set s.words 0 (n + 1)) s.homes) (wakes_turn z s.words s.homes seats long slots (alone lawful z s r) r.listed r.wakes (out lawful z s r) id (stance_of v) there s.homes 0 (n + 1) (stance_of v) t);
          markers = for_same _ _ looks (MarkersPost z) r.markers;
          free = free_draw lawful z s r id v at;
          variables = var_draw lawful z s r id v at;
        }

    pub rule_split : Rule lawful z (split s id v)
    rule_split =
        let more = seen_more stance_of (set s.views id (stays_with v)) (comes v) in let looks = more ∙ ap (λ (xs : List Stance). xs ++ idle v.pending [] [] ∷ []) (unseen stance_of s.views id v (stays_with v) at refl) in record {
          sized = r.sized;
          roster = roster_split lawful z s r id v at;
          made = made_split lawful z s r id v at;
          lists_made = lists_made_split lawful z s r id v at;
          places = places_split lawful z s r id v at;
          frames = frames_split lawful z s r id v at;
          counts = counts_split lawful z s r id v at;
          guarded = guards_split lawful z s r id v at;
          lists = λ l below. for_same _ _ looks (ListInOneHand l (get_or s.words (state_at l) 0) (get_elem? s.homes l)) (hands_more l _ _ seats v.pending (r.lists l below));
          hands = for_same _ _ looks (HandsInside z.locks) (inside_more z.locks seats v.pending r.hands);
          listed = for_same _ _ looks (ListedOnce z.locks s.homes) (listed_added s.homes seats v.pending z.locks r.listed);
          waiting = for_same _ _ looks (WaitingTellsPlace z s.words s.homes) (waiting_added z s.words s.homes seats v.pending r.waiting);
          flags = λ l below. for_same _ _ looks (FlagCoversList l (get_or s.words (state_at l) 0) (home_list s.homes l)) (covers_more l _ _ seats v.pending (r.flags l below));
          answers = λ l below. for_same _ _ looks (ReleaseOkIsOwed l (get_or s.words (state_at l) 0) s.homes) (owed_added l _ s.homes seats v.pending (r.answers l below));
          wakes = for_same _ _ looks (WakesAreConserved z s.words s.homes) (wakes_added z s.words s.homes seats v.pending r.wakes);
          markers = for_same _ _ looks (MarkersPost z) (markers_added z seats v.pending r.markers);
          free = free_split lawful z s r id v at;
          variables = var_split lawful z s r id v at;
        }

    pub rule_join : (other : ℕ) (w : View) → (other ≡ id → ⊥) → get_elem? s.views other ≡ maybe.some w → w.pending ≡ None → w.place ≡ [] → HoldsNothing w → Rule lawful z (joined s id v other w)
    rule_join other w apart from settled idle_is empty =
        let behind = set_else s.views id other (both v w) apart ∙ from in
        let first_looks = seen stance_of s.views id (both v w) (takes_over (stance_of v) w.poked w.downed) refl in
        let looks = seen stance_of (set s.views id (both v w)) other spent (idle None [] []) refl ∙ ap (λ (xs : List Stance). set xs other (idle None [] [])) first_looks in
        let none = idle_clear w.holds w.surplus w.place idle_is (seat_fits lawful z s r other w from).place in
        let gone : stance_of w ≡ idle w.own w.poked w.downed = (λ i. stance w.own (idle_is i) (none i) w.poked w.downed) in
        let theirs = subst (λ (xs : List Stance). get_elem? xs other ≡ maybe.some (idle w.own w.poked w.downed)) first_looks (at_seen stance_of (set s.views id (both v w)) other w (idle w.own w.poked w.downed) behind gone) in
        record {
          sized = r.sized;
          roster = roster_join lawful z s r id v at other w behind settled;
          made = made_join lawful z s r id v at other w apart from;
          lists_made = lists_made_join lawful z s r id v at other w apart from;
          places = places_join lawful z s r id v at other w behind from;
          frames = frames_join lawful z s r id v at other w;
          counts = counts_join lawful z s r id v at other w behind empty;
          guarded = guards_join lawful z s r id v at other w behind empty;
          lists = λ l below. for_same _ _ looks (ListInOneHand l (get_or s.words (state_at l) 0) (get_elem? s.homes l)) (hands_joined l _ _ seats id other (stance_of v) w.own w.poked w.downed there theirs (r.lists l below));
          hands = for_same _ _ looks (HandsInside z.locks) (inside_joined z.locks seats id other (stance_of v) w.poked w.downed there r.hands);
          listed = for_same _ _ looks (ListedOnce z.locks s.homes) (listed_joined s.homes seats z.locks id other (stance_of v) w.own w.poked w.downed there theirs r.listed);
          waiting = for_same _ _ looks (WaitingTellsPlace z s.words s.homes) (waiting_joined z s.words s.homes seats id other (stance_of v) w.own w.poked w.downed there theirs r.waiting);
          flags = λ l below. for_same _ _ looks (FlagCoversList l (get_or s.words (state_at l) 0) (home_list s.homes l)) (covers_joined l _ _ seats id other (stance_of v) w.own w.poked w.downed there theirs (r.flags l below));
          answers = λ l below. for_same _ _ looks (ReleaseOkIsOwed l (get_or s.words (state_at l) 0) s.homes) (owed_joined l _ s.homes seats id other (stance_of v) w.own w.poked w.downed there theirs (r.answers l below));
          wakes = for_same _ _ looks (WakesAreConserved z s.words s.homes) (wakes_joined z s.words s.homes seats id other (stance_of v) w.own w.poked w.downed there theirs r.wakes);
          markers = for_same _ _ looks (MarkersPost z) (markers_joined z seats id other (stance_of v) w.own w.poked w.downed there theirs r.markers);
          free = free_join lawful z s r id v at other w apart from settled idle_is empty;
          variables = var_join lawful z s r id v at other w apart from settled idle_is empty;
        }

module _ (lawful : ℕ → List ℕ → Type 0) (z : Size) where
  pub step_keeps : (s t : LwState) (id : ℕ) (k : LwStep) → Rule lawful z s → Steps lawful z s id k t → Rule lawful z t
  step_keeps s t id k r e = subst (Rule lawful z) (sym e.is) (rule_step lawful z s r id e.view e.at k e.range e.numbered e.allowed)

  -- the rule after a step or a move
  pub turn_keeps : (s t : LwState) (e : Event) → Rule lawful z s → Turns lawful z s e t → Rule lawful z t
  turn_keeps s t (steps id k) r e = step_keeps s t id k r e
  turn_keeps s t (draws id) r e = subst (Rule lawful z) (sym e.is) (rule_draw lawful z s r id e.view e.at e.zero e.free e.more)
  turn_keeps s t (splits id) r e = subst (Rule lawful z) (sym e.is) (rule_split lawful z s r id e.view e.at)
  turn_keeps s t (joins id other) r e = subst (Rule lawful z) (sym e.is) (rule_join lawful z s r id e.view e.at other e.from e.apart e.there e.settled e.idle e.empty)

  pub run_keeps : (es : List Event) (s t : LwState) → Rule lawful z s → Run lawful z s es t → Rule lawful z t
  run_keeps [] s t r e = subst (Rule lawful z) (sym e) r
  run_keeps (x ∷ xs) s t r e = run_keeps xs e.0 t (turn_keeps s e.0 x r e.1) e.2

  -- A NEW TABLE
  module _ (words : List ℕ) (lists : List Waiters) (empty : AllEmpty lists) where
    abbrev start : Stance
    start = idle (Some 0) [] []

    none_at : (xs : List Waiters) (l : ℕ) → AllEmpty xs → home_list (map maybe.some xs) l ≡ []
    none_at [] l e = refl
    none_at (x ∷ xs) zero e = e.0
    none_at (x ∷ xs) (suc l) e = none_at xs l e.1

    none_listed : (xs : List Waiters) (p : ℕ) → AllEmpty xs → total (home_times p) (map maybe.some xs) ≡ 0
    none_listed [] p e = refl
    none_listed (x ∷ xs) p e = let a = none_listed xs p e.1 in let b : times_on p x.items ≡ 0 = ap (times_on p) e.0 in omega arith

    one_seat : (id : ℕ) (v : Stance) → get_elem? (start ∷ []) id ≡ maybe.some v → start ≡ v
    one_seat zero v e = maybe.some-injective start v e
    one_seat (suc id) v e = absurd (maybe.some-ne-none v (sym e))

    opens_listed : ListedOnce z.locks (map maybe.some lists) (start ∷ [])
    opens_listed = record {
      once = λ p. let a = none_listed lists p empty in omega arith;
      for_round = λ l below w p. let a : times_with p w (home_list (map maybe.some lists) l) ≡ 0 = ap (times_with p w) (none_at lists l empty) in omega arith;
      leaves = λ id v e here p is own. let none : None ≡ Some here = ap (λ (u : Stance). u.leaving) (one_seat id v e) ∙ is in absurd (cc);
      ordered_home = λ l. subst IsUntilFreeFirst (sym (none_at lists l empty)) tt;
      ordered_hand = λ id v e. subst (λ (u : Stance). IsUntilFreeFirst (hand_list u.hand)) (one_seat id v e) tt;
    }

    pub opens : ((l : ℕ) → lawful l (0 ∷ 0 ∷ 0 ∷ 0 ∷ [])) → z.locks ≤ 200 → 0 < z.procs → z.procs ≤ 64 → length words ≡ word_count z → Opens z.locks words → length lists ≡ z.locks
        → Rule lawful z (opening {S = Waiters} words lists (fresh (Some 0)))
    opens zeros locks some procs long h many = record {
      sized = record { locks = locks; procs = procs; long = long; slots = length-map lists maybe.some ∙ many };
      roster = subst (λ (n : ℕ). Roster z.procs n (numbered (Some 0) ∷ [])) (sym h.0) (roster_first z.procs some);
      made = made_opens z words (Some 0) h;
      lists_made = lists_made_opens z lists (Some 0) many empty;
      places = λ id u e. first_fits id u e;
      frames = λ id u e. first_stands id u e;
      counts = λ l below. let e = h.1 l below in let none : mode_in l (fresh (Some 0)) ≡ None = ap (λ (x : Hold). x.mode) (fresh_hold (Some 0) l) in
          let a : is_exclusive (mode_in l (fresh (Some 0))) ≡ 0 = ap is_exclusive none in let b : is_shared (mode_in l (fresh (Some 0))) ≡ 0 = ap is_shared none in
          record { fits = omega arith; counted = omega arith; alone = λ holds. omega arith };
      guarded = λ l below. record {
        unwritten = λ _. subst (lawful l) (λ i. sym (clear l 0 (omega arith)) i ∷ sym (clear l 1 (omega arith)) i ∷ sym (clear l 2 (omega arith)) i ∷ sym (clear l 3 (omega arith)) i ∷ []) (zeros l);
        knows = λ id u e. only l id u e;
      };
      lists = λ l below. let e = h.1 l below in let there = some_there lists l (omega arith) in record { one = omega arith; out = λ set_there. absurd (omega arith); at_home = λ _. there };
      hands = λ id v g e is. let none : None ≡ Some g = ap (λ (u : Stance). u.hand) (one_seat id v e) ∙ is in absurd (cc);
      listed = opens_listed;
      waiting = λ p below. let a = none_listed lists p empty in let e = field (waiting_at z p) (omega arith) (λ l inside is. omega arith) in omega arith;
      flags = λ l below _. let a : length (home_list (map maybe.some lists) l) ≡ 0 = ap length (none_at lists l empty) in omega arith;
      answers = λ l below clear. let e = h.1 l below in absurd (omega arith);
      wakes = record {
        balance = λ p below. let a = none_listed lists p empty in let e = field (sem_at z p) (omega arith) (λ l inside is. omega arith) in let b = no_amount p in omega arith;
        there = λ p below. omega arith;
      };
      markers = record {
        posts = λ id v e p. subst (λ (u : Stance). times_on p u.unlisted ≤ times_on p u.owed) (one_seat id v e) (omega arith);
        poked = λ p below. let b = no_amount p in omega arith;
      };
      free = free_opens z words lists (Some 0);
      variables = var_opens z words lists (Some 0);
    }
      where
        field : (i : ℕ) → 0 < i → ((l : ℕ) → l < z.locks → i ≡ state_at l → ⊥) → get_or words i 0 ≡ 0
        field i some none = h.2 i some none

        no_amount : (p : ℕ) → own_amount p (Some 0) 0 ≡ 0
        no_amount p = by_test (eqb 0 p)
          where
            by_test : (b : Bool) → cond {A = ℕ} b 0 0 ≡ 0
            by_test true = refl
            by_test false = refl

        first_fits : (id : ℕ) (u : Seating) → get_elem? (seating_of (fresh (Some 0)) ∷ []) id ≡ maybe.some u → SeatFits u
        first_fits zero u e = subst SeatFits (maybe.some-injective _ _ e) (fresh_fits (Some 0))
        first_fits (suc id) u e = absurd (maybe.some-ne-none u (sym e))

        first_stands : (id : ℕ) (u : View) → get_elem? (fresh (Some 0) ∷ []) id ≡ maybe.some u → AllStand lawful z u.holds u.place
        first_stands zero u e = subst (λ (x : View). AllStand lawful z x.holds x.place) (maybe.some-injective _ _ e) tt
        first_stands (suc id) u e = absurd (maybe.some-ne-none u (sym e))

        clear : (l k : ℕ) → k < 4 → get_or words (guard_at l k) 0 ≡ 0
        clear l k few = h.2 (guard_at l k) (omega arith) (λ j below e. omega arith)

        only : (l id : ℕ) (u : Hold) → get_elem? (hold_in l (fresh (Some 0)) ∷ []) id ≡ maybe.some u → Knows (guarded words l) u
        only l zero u e = subst (Knows (guarded words l)) (sym (fresh_hold (Some 0) l) ∙ maybe.some-injective _ _ e) (knows_not_held (guarded words l))
        only l (suc id) u e = absurd (maybe.some-ne-none u (sym e))
