-- What a seat keeps at run time, and its view.
use Rattle.std.proofs.Common.{◌≡◌, ℕ, zero, suc, ◌+◌, ◌<◌, ◌≤◌, eqb, Bool, true, false, cond, List, [], ◌∷◌, length, get_or, set, map, replicate, Option, None, Some, sym, refl, ap, ◌∙◌, subst, arith, length-set, eq-eqb}
use Rattle.std.proofs.lemmas.List.{get_or_past, length-map}
use mathlib.Core.Logic.{dite}
use native.Mathlib.Decide.{dec_lt}
use lib.Seq.{map-set}
use Rattle.atomic_table.specs.Table.{keeps, takes, gives, carried_after, rest}
use Rattle.atomic_table.specs.Seated.{TableId}
use Rattle.atomic_table.specs.declared.shared.Seat.{Seat}
use Rattle.proc_table.specs.declared.Mode.{Mode}
use Rattle.seat_roster.specs.Roster.{Numbers}
use Rattle.lw_core.specs.declared.step.Call.{Call}
use Rattle.lw_core.specs.declared.step.Call.TheVariants as call
use Rattle.lw_core.specs.declared.step.LwStep.{LwStep}
use Rattle.lw_core.specs.declared.step.LwStep.TheVariants as kind
use Rattle.lw_core.specs.declared.view.Frame.TheVariants.{Trying}
use Rattle.lw_core.specs.declared.view.Hold.{Hold}
use Rattle.lw_core.specs.declared.view.View.{View}
use Rattle.lw_core.specs.declared.view.Size.{Size}
use Rattle.lw_core.specs.declared.view.Waiter.{Waiter}
use Rattle.lw_core.specs.Words.{Waiters, locked, has_flag}
use Rattle.lw_core.specs.Machine.{Place, not_held, held, hold_in, number_of, outer, on_grant, moved, gripped, lock_of, lock_number, exchanges, takes_list, sends_home, as_waiters, act_of, next, Allowed, BeginsTaking, guard_hold}
use Rattle.lw_core.specs.Stances.{Hand, hand_at}
use Rattle.lw_core.specs.Ops.{about}
use Rattle.lw_core.specs.Seats.{SeatView, seat_view, mode_of_hold, Carries, IsSeated}
use Rattle.lw_core.specs.Sending.{IsTaking, IsSending, modes_then, pokes_by}
use Rattle.lw_core.specs.Told.{Sat, lock_in_hand, HandFollows, does}
use Rattle.lw_core.proofs.Turning.{takes_none, sending_at, detaching_at}
use Rattle.lw_core.proofs.Touches.{on_exchange, either_way, numbers_kept, poked_keeps}

-- the mode of a lock, among the modes
pub mode_at : (holds : List Hold) (l : ℕ) → get_or (map mode_of_hold holds) l None ≡ (get_or holds l not_held).mode
mode_at [] l = refl
mode_at (x ∷ xs) zero = refl
mode_at (x ∷ xs) (suc l) = mode_at xs l

modes_kept : (holds : List Hold) (l : ℕ) → map mode_of_hold holds ≡ set (map mode_of_hold holds) l (get_or holds l not_held).mode
modes_kept [] l = refl
modes_kept (x ∷ xs) zero = refl
modes_kept (x ∷ xs) (suc l) = λ i. x.mode ∷ modes_kept xs l i

-- the modes of the view after a step
modes_after : (k : LwStep) (v : View) (n : ℕ) (found : List Waiter) → map mode_of_hold (next k v n found).holds ≡ modes_then k n (map mode_of_hold v.holds)
modes_after (kind.Grant l m w) v n found = on_exchange n w
    (λ (b : Bool). map mode_of_hold (cond b (gripped v (kind.Grant l m w) l n (on_grant v.surplus (outer v.place)) (held m) (v.grants + 1)) (moved v (kind.Grant l m w) n (Trying l m n ∷ outer v.place))).holds
    ≡ cond b (set (map mode_of_hold v.holds) l (Some m)) (map mode_of_hold v.holds))
    (λ _. map-set mode_of_hold v.holds l (held m)) (λ _. refl)
modes_after (kind.Sub l m b) v n found = map-set mode_of_hold v.holds l not_held
modes_after (kind.Guard l k o) v n found = map-set mode_of_hold v.holds l (guard_hold o (hold_in l v) k n) ∙ sym (modes_kept v.holds l)
modes_after (kind.Post q b) v n found = poked_keeps (λ (u : View). map mode_of_hold u.holds) (λ _ _. refl) b _
modes_after k v n found = refl

-- the pokes of the view after a step
pokes_after : (lawful : ℕ → List ℕ → Type 0) (k : LwStep) (v : View) (n : ℕ) (found : List Waiter) → Allowed lawful k v → (next k v n found).pokes ≡ v.pokes + pokes_by k
pokes_after lawful (kind.Grant l m w) v n found ok = either_way (λ (u : View). u.pokes) (eqb n w) _ _ (v.pokes + 0) (omega arith) (omega arith)
pokes_after lawful (kind.Post q None) v n found ok = omega arith
pokes_after lawful (kind.Post q (Some (call.Poke r))) v n found ok = refl
pokes_after lawful (kind.Post q (Some c)) v n found ok = absurd ok
pokes_after lawful k v n found ok = omega arith

pub fresh_modes : (n : ℕ) → replicate n None ≡ map mode_of_hold (replicate n not_held)
fresh_modes zero = refl
fresh_modes (suc n) = λ i. None ∷ fresh_modes n i

pub held_nowhere : (modes : List (Option Mode)) (i : ℕ) → length modes ≤ i → ((k : ℕ) → k < i → get_or modes k None ≡ None) → (l : ℕ) → get_or modes l None ≡ None
held_nowhere modes i long none l = dite (dec_lt l i) (λ below. none l below) (λ past. get_or_past modes l None (omega arith))

-- the slot out with a seat, by the lock whose list is in hand
carries_none : (h : Option Hand) (c : List (ℕ × Waiters)) → lock_in_hand h ≡ None → c ≡ [] → Carries h c
carries_none None c is none = none
carries_none (Some h) c is none = absurd (cc)

carries_one : (h : Option Hand) (l : ℕ) (list : Waiters) (c : List (ℕ × Waiters)) → lock_in_hand h ≡ Some l → c ≡ (l, list) ∷ [] → Carries h c
carries_one None l list c is one = absurd (cc)
carries_one (Some h) l list c is one = let same : l ≡ h.lock = cc in (list, one ∙ ap (λ (i : ℕ). (i, list) ∷ []) same)

carries_as : (h g : Option Hand) (c : List (ℕ × Waiters)) → lock_in_hand g ≡ lock_in_hand h → Carries h c → Carries g c
carries_as None g c is carries = carries_none g c is carries
carries_as (Some h) g c is carries = carries_one g h.lock carries.0 c is carries.1

rest_none : (h : Option Hand) (c : List (ℕ × Waiters)) → Carries h c → rest c ≡ []
rest_none None c carries = ap rest carries
rest_none (Some h) c carries = ap rest carries.1

pub no_slot : (h : Option Hand) (c : List (ℕ × Waiters)) → Carries h c → lock_in_hand h ≡ None → c ≡ []
no_slot None c carries is = carries
no_slot (Some h) c carries is = absurd (cc)

-- a list is taken where there is none in hand, or goes home, or stays
carried_on : (h g : Option Hand) (o : Option ℕ) (l : ℕ) (list : Waiters) (c : List (ℕ × Waiters)) (taken sent : Bool) → (taken ≡ true → lock_in_hand h ≡ None) → (taken ≡ true → o ≡ Some l) → Carries h c
    → lock_in_hand g ≡ cond taken o (cond sent None (lock_in_hand h)) → Carries g (carried_after c (cond taken (takes l list) (cond sent gives keeps)))
carried_on h g o l list c true sent empty lock carries is = carries_one g l list _ (is ∙ lock refl) (ap (λ (x : List (ℕ × Waiters)). (l, list) ∷ x) (no_slot h c carries (empty refl)))
carried_on h g o l list c false true empty lock carries is = carries_none g (rest c) is (rest_none h c carries)
carried_on h g o l list c false false empty lock carries is = carries_as h g c is carries

-- a seat that has another list in the slot that it has out
seated_swapped : (s t : Seat Waiters View) (number : ℕ) (modes : List (Option Mode)) (pokes slot l : ℕ) (list : Waiters) → IsSeated s number modes pokes → lock_in_hand (hand_at s.me.0.place) ≡ Some l → slot ≡ l → t.table_id ≡ s.table_id
    → t.me ≡ (s.me.0, (slot, list) ∷ rest s.me.1) → IsSeated t number modes pokes
seated_swapped s t number modes pokes slot l list h is at table me = let slots = ap (λ (i : TableId). i.slots) table in let wide = ap (λ (i : TableId). i.words) table in let inside = h.inside in record {
  carries = subst (λ (m : Sat). Carries (hand_at m.0.place) m.1) (sym me)
      (carries_one (hand_at s.me.0.place) slot list ((slot, list) ∷ rest s.me.1) (is ∙ ap Some (sym at)) (ap (λ (x : List (ℕ × Waiters)). (slot, list) ∷ x) (rest_none (hand_at s.me.0.place) s.me.1 h.carries)));
  own = ap (λ (m : Sat). m.0.own) me ∙ h.own;
  settled = ap (λ (m : Sat). m.0.pending) me ∙ h.settled;
  modes_are = h.modes_are ∙ ap (λ (m : Sat). map mode_of_hold m.0.holds) (sym me);
  long = h.long;
  pokes_are = h.pokes_are ∙ ap (λ (m : Sat). m.0.pokes) (sym me);
  inside = omega arith;
}

module _ (lawful : ℕ → List ℕ → Type 0) where
  takes_empty : (k : LwStep) (v : View) (n : ℕ) → Allowed lawful k v → takes_list k n ≡ true → lock_in_hand (hand_at v.place) ≡ None
  takes_empty (kind.Lock l b) v n ok taken = begun b ok
    where
      begun : (b : Option Call) → BeginsTaking (lawful l) l b v → lock_in_hand (hand_at v.place) ≡ None
      begun (Some (call.UpdateVar k x)) e = ap (λ (p : Place). lock_in_hand (hand_at p)) e.1
      begun (Some (call.ReleaseClearVar k x)) e = ap (λ (p : Place). lock_in_hand (hand_at p)) e.1
      begun (Some c) e = absurd e
      begun None e = takes_none l v.place e
  takes_empty k v n ok taken = absurd (cc)

  takes_lock : (k : LwStep) (n : ℕ) → takes_list k n ≡ true → lock_of k ≡ Some (lock_number k)
  takes_lock (kind.Lock l b) n taken = refl
  takes_lock k n taken = absurd (cc)

  carries_after : (k : LwStep) (v : View) (n : ℕ) (found : List Waiter) (c : List (ℕ × Waiters)) → Allowed lawful k v → Carries (hand_at v.place) c → HandFollows k v n found
      → Carries (hand_at (next k v n found).place) (carried_after c (act_of k n found))
  carries_after k v n found c ok carries follows =
      carried_on (hand_at v.place) (hand_at (next k v n found).place) (lock_of k) (lock_number k) (as_waiters found) c (takes_list k n) (sends_home k n) (takes_empty k v n ok) (takes_lock k n) carries follows

  -- a seat after a step, with the modes and the pokes that it keeps at run time
  seated_step : (s t : Seat Waiters View) (number : ℕ) (modes others : List (Option Mode)) (pokes more : ℕ) (k : LwStep) (n : ℕ) (found : List Waiter) → IsSeated s number modes pokes → Allowed lawful k s.me.0 → t.table_id ≡ s.table_id
      → t.me.0 ≡ next k s.me.0 n found → t.me.1 ≡ carried_after s.me.1 (act_of k n found) → HandFollows k s.me.0 n found → others ≡ map mode_of_hold (next k s.me.0 n found).holds → length others ≡ 200 → more ≡ (next k s.me.0 n found).pokes
      → IsSeated t number others more
  seated_step s t number modes others pokes more k n found h ok table view carried follows mode long poked = let kept = numbers_kept k s.me.0 n found in let slots = ap (λ (i : TableId). i.slots) table in let wide = ap (λ (i : TableId). i.words) table in
      let inside = h.inside in record {
        carries = subst (λ (m : View × List (ℕ × Waiters)). Carries (hand_at m.0.place) m.1) (λ i. (sym view i, sym carried i)) (carries_after k s.me.0 n found s.me.1 ok h.carries follows);
        own = ap (λ (v : View). v.own) view ∙ (ap (λ (x : Numbers). x.own) kept ∙ h.own);
        settled = ap (λ (v : View). v.pending) view ∙ (ap (λ (x : Numbers). x.pending) kept ∙ h.settled);
        modes_are = mode ∙ ap (λ (v : View). map mode_of_hold v.holds) (sym view);
        long = long;
        pokes_are = poked ∙ ap (λ (v : View). v.pokes) (sym view);
        inside = omega arith;
      }

  -- a seat after a step, with what it keeps at run time
  pub seated_after : (z : Size) (s t : Seat Waiters View) (number : ℕ) (modes others : List (Option Mode)) (pokes added : ℕ) (k : LwStep) (n : ℕ) → IsSeated s number modes pokes → Allowed lawful k s.me.0 → t.table_id ≡ s.table_id
      → does lawful z k about s.me n t.me → others ≡ modes_then k n modes → added ≡ pokes_by k → IsSeated t number others (pokes + added)
  seated_after z s t number modes others pokes added k n h ok table told are more =
      seated_step s t number modes others pokes (pokes + added) k n told.0 h ok table told.1 told.2 told.4 (are ∙ (ap (modes_then k n) h.modes_are ∙ sym (modes_after k s.me.0 n told.0)))
      (ap length are ∙ (long_then k n modes ∙ h.long)) ((λ i. h.pokes_are i + more i) ∙ sym (pokes_after lawful k s.me.0 n told.0 ok))
    where
      long_then : (k : LwStep) (n : ℕ) (xs : List (Option Mode)) → length (modes_then k n xs) ≡ length xs
      long_then (kind.Grant l m w) n xs = on_exchange n w (λ (b : Bool). length (cond b (set xs l (Some m)) xs) ≡ length xs) (λ _. length-set xs l (Some m)) (λ _. refl)
      long_then (kind.Sub l m b) n xs = length-set xs l None
      long_then k n xs = refl

  -- a step that may send the list in hand home
  seated_sending : (s t : Seat Waiters View) (number : ℕ) (modes : List (Option Mode)) (pokes l : ℕ) (k : LwStep) (n : ℕ) (found : List Waiter) → IsSending l k → IsSeated s number modes pokes → Allowed lawful k s.me.0 → t.table_id ≡ s.table_id
      → t.me.0 ≡ next k s.me.0 n found → t.me.1 ≡ carried_after s.me.1 (act_of k n found) → HandFollows k s.me.0 n found → IsSeated t number modes pokes
  seated_sending s t number modes pokes l (kind.Unlock j clears) n found sends h ok table view carried follows = seated_step s t number modes modes pokes pokes (kind.Unlock j clears) n found h ok table view carried follows h.modes_are h.long h.pokes_are
  seated_sending s t number modes pokes l (kind.Wake j w to) n found sends h ok table view carried follows = seated_step s t number modes modes pokes pokes (kind.Wake j w to) n found h ok table view carried follows h.modes_are h.long h.pokes_are
  seated_sending s t number modes pokes l k n found sends h ok table view carried follows = absurd sends

  -- before such a step the list is in hand, and after one that failed it is still
  sending_hand : (l : ℕ) (k : LwStep) (v : View) → IsSending l k → Allowed lawful k v → lock_in_hand (hand_at v.place) ≡ Some l
  sending_hand l (kind.Unlock j clears) v sends ok = sending_at l j (number_of v.own) clears v.place sends ok
  sending_hand l (kind.Wake j w to) v sends ok = detaching_at l j w to v.place sends ok
  sending_hand l k v sends ok = absurd sends

  failed_hand : (l : ℕ) (k : LwStep) (v : View) (n : ℕ) (found : List Waiter) → IsSending l k → Allowed lawful k v → exchanges k n ≡ false → HandFollows k v n found → lock_in_hand (hand_at (next k v n found).place) ≡ Some l
  failed_hand l (kind.Unlock j clears) v n found sends ok failed follows = absurd (cc)
  failed_hand l (kind.Wake j w to) v n found sends ok failed follows = follows ∙ (ap (λ (b : Bool). cond b None (lock_in_hand (hand_at v.place))) failed ∙ sending_hand l (kind.Wake j w to) v sends ok)
  failed_hand l k v n found sends ok failed follows = absurd sends

  -- the list that goes home isn't read from the table
  next_sending : (l : ℕ) (k : LwStep) (v : View) (n : ℕ) (found other : List Waiter) → IsSending l k → next k v n found ≡ next k v n other
  next_sending l (kind.Unlock j clears) v n found other sends = refl
  next_sending l (kind.Wake j w to) v n found other sends = refl
  next_sending l k v n found other sends = absurd sends

  failed_keeps : (l : ℕ) (k : LwStep) (n : ℕ) (found : List Waiter) (c : List (ℕ × Waiters)) → IsSending l k → exchanges k n ≡ false → carried_after c (act_of k n found) ≡ c
  failed_keeps l (kind.Unlock j clears) n found c sends failed = absurd (cc)
  failed_keeps l (kind.Wake j w to) n found c sends failed = ap (λ (b : Bool). carried_after c (cond b gives keeps)) failed
  failed_keeps l k n found c sends failed = absurd sends

  -- the same, once the list was put into its slot; and after an exchange that failed the list is taken out of the slot again
  module _ (z : Size) (s u t : Seat Waiters View) (number : ℕ) (modes : List (Option Mode)) (pokes slot l : ℕ) (list : Waiters) (k : LwStep) (n : ℕ) (sends : IsSending l k) (h : IsSeated s number modes pokes) (ok : Allowed lawful k s.me.0) (at : slot ≡ l)
      (table : u.table_id ≡ s.table_id) (me : u.me ≡ (s.me.0, (slot, list) ∷ rest s.me.1)) (same : t.table_id ≡ u.table_id) (told : does lawful z k about u.me n t.me) where
    allowed_still : Allowed lawful k u.me.0
    allowed_still = subst (λ (m : Sat). Allowed lawful k m.0) (sym me) ok

    pub seated_sent : IsSeated t number modes pokes
    seated_sent = seated_sending u t number modes pokes l k n told.0 sends (seated_swapped s u number modes pokes slot l list h (sending_hand l k s.me.0 sends ok) at table me) allowed_still same told.1 told.2 told.4

    pub sent_view : (list_after : List Waiter) → t.me.0 ≡ next k s.me.0 n list_after
    sent_view list_after = let view : t.me.0 ≡ next k u.me.0 n told.0 = told.1 in view ∙ ((λ i. next k (me i).0 n told.0) ∙ next_sending l k s.me.0 n told.0 list_after sends)

    pub failed_slot : exchanges k n ≡ false → (x : Waiters) × (t.me.1 ≡ (slot, x) ∷ rest t.me.1)
    failed_slot failed = let carried : t.me.1 ≡ carried_after u.me.1 (act_of k n told.0) = told.2 in
        let now : t.me.1 ≡ (slot, list) ∷ rest s.me.1 = carried ∙ (failed_keeps l k n told.0 u.me.1 sends failed ∙ ap (λ (m : Sat). m.1) me) in (list, now ∙ (λ i. (slot, list) ∷ rest (sym now i)))

    pub seated_failed : (x : Seat Waiters View) (back : Waiters) → exchanges k n ≡ false → x.table_id ≡ t.table_id → x.me ≡ (t.me.0, (slot, back) ∷ rest t.me.1) → IsSeated x number modes pokes
    seated_failed x back failed again is = let view : t.me.0 ≡ next k u.me.0 n told.0 = told.1 in
        seated_swapped t x number modes pokes slot l back seated_sent (ap (λ (v : View). lock_in_hand (hand_at v.place)) view ∙ failed_hand l k u.me.0 n told.0 sends allowed_still failed told.4) at again is

  -- a step that may take the list of its lock in hand
  seated_taking : (s t : Seat Waiters View) (number : ℕ) (modes : List (Option Mode)) (pokes l : ℕ) (k : LwStep) (n : ℕ) (found : List Waiter) → IsTaking l k → IsSeated s number modes pokes → Allowed lawful k s.me.0 → t.table_id ≡ s.table_id
      → t.me.0 ≡ next k s.me.0 n found → t.me.1 ≡ carried_after s.me.1 (act_of k n found) → HandFollows k s.me.0 n found → IsSeated t number modes pokes
  seated_taking s t number modes pokes l (kind.Lock j b) n found taking h ok table view carried follows = seated_step s t number modes modes pokes pokes (kind.Lock j b) n found h ok table view carried follows h.modes_are h.long h.pokes_are
  seated_taking s t number modes pokes l k n found taking h ok table view carried follows = absurd taking

  -- where LOCKED wasn't set the list of l is in hand, and its slot is the one taken last
  taken_hand : (l : ℕ) (k : LwStep) (v : View) (n : ℕ) (found : List Waiter) → IsTaking l k → has_flag locked n ≡ 0 → HandFollows k v n found → lock_in_hand (hand_at (next k v n found).place) ≡ Some l
  taken_hand l (kind.Lock j b) v n found taking clear follows = follows ∙ (ap (λ (x : Bool). cond x (Some j) (lock_in_hand (hand_at v.place))) (eq-eqb (has_flag locked n) 0 clear) ∙ ap Some taking)
  taken_hand l k v n found taking clear follows = absurd taking

  taken_last : (l slot n : ℕ) (k : LwStep) (found : List Waiter) (c d : List (ℕ × Waiters)) → IsTaking l k → has_flag locked n ≡ 0 → slot ≡ l → d ≡ carried_after c (act_of k n found) → d ≡ (slot, as_waiters found) ∷ rest d
  taken_last l slot n (kind.Lock j b) found c d taking clear at is = let now : d ≡ (j, as_waiters found) ∷ c = is ∙ ap (λ (x : Bool). carried_after c (cond x (takes j (as_waiters found)) keeps)) (eq-eqb (has_flag locked n) 0 clear) in
      let same : j ≡ slot = cc in now ∙ (λ i. (same i, as_waiters found) ∷ rest (sym now i))
  taken_last l slot n k found c d taking clear at is = absurd taking

  -- a seat after such a step, before and after the list was taken out of its slot
  module _ (z : Size) (s t : Seat Waiters View) (number : ℕ) (modes : List (Option Mode)) (pokes slot l : ℕ) (k : LwStep) (n : ℕ) (taking : IsTaking l k) (h : IsSeated s number modes pokes) (ok : Allowed lawful k s.me.0) (at : slot ≡ l)
      (table : t.table_id ≡ s.table_id) (told : does lawful z k about s.me n t.me) where
    pub seated_taken : IsSeated t number modes pokes
    seated_taken = seated_taking s t number modes pokes l k n told.0 taking h ok table told.1 told.2 told.4

    pub taken_slot : has_flag locked n ≡ 0 → (x : Waiters) × (t.me.1 ≡ (slot, x) ∷ rest t.me.1)
    taken_slot clear = (as_waiters told.0, taken_last l slot n k told.0 s.me.1 t.me.1 taking clear at told.2)

    pub seated_emptied : (x : Seat Waiters View) (left : Waiters) → has_flag locked n ≡ 0 → x.table_id ≡ t.table_id → x.me ≡ (t.me.0, (slot, left) ∷ rest t.me.1) → IsSeated x number modes pokes
    seated_emptied x left clear again is = let view : t.me.0 ≡ next k s.me.0 n told.0 = told.1 in
        seated_swapped t x number modes pokes slot l left seated_taken (ap (λ (v : View). lock_in_hand (hand_at v.place)) view ∙ taken_hand l k s.me.0 n told.0 taking clear told.4) at again is

-- what a contract says of a seat's view holds of the view inside
pub allowed_in : (lawful : ℕ → List ℕ → Type 0) (k : LwStep) (s : Seat Waiters View) (list : List Waiter) (v : SeatView) → seat_view s list ≡ v → Allowed lawful k v.view → Allowed lawful k s.me.0
allowed_in lawful k s list v is ok = subst (Allowed lawful k) (ap (λ (x : SeatView). x.view) (sym is)) ok

pub holds_long : (s : Seat Waiters View) (number : ℕ) (modes : List (Option Mode)) (pokes : ℕ) → IsSeated s number modes pokes → length s.me.0.holds ≡ 200
holds_long s number modes pokes h = sym (length-map s.me.0.holds mode_of_hold) ∙ (ap length (sym h.modes_are) ∙ h.long)
