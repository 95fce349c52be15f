-- What a seat keeps at run time, and the slot that it has out.
use Rattle.std.proofs.Common.{◌≡◌, ℕ, eqb, Bool, true, false, cond, List, [], ◌∷◌, Option, None, Some, refl, sym, ap, ◌∙◌, subst, arith, eq-eqb}
use Rattle.atomic_table.specs.Seated.{TableId}
use Rattle.atomic_table.specs.Table.{Me, keeps, takes, carried_after, rest}
use Rattle.atomic_table.specs.declared.shared.Seat.{Seat}
use Rattle.wait_core.specs.declared.step.WaitStep.{WaitStep}
use Rattle.wait_core.specs.declared.step.WaitStep.TheVariants.{Take, Free}
use Rattle.wait_core.specs.declared.view.Kept.{Kept}
use Rattle.wait_core.specs.declared.view.Record.{Record}
use Rattle.wait_core.specs.declared.view.Size.{Size}
use Rattle.wait_core.specs.declared.view.WaitView.{WaitView}
use Rattle.wait_core.specs.Words.{slot_of}
use Rattle.wait_core.specs.Meanings.{Meanings}
use Rattle.wait_core.specs.Barriers.{StepSuits}
use Rattle.wait_core.specs.Machine.{as_kept, target_then, slot_number, act_of, next_with, Allowed}
use Rattle.wait_core.specs.Stances.{Hand, hand_at, slot_in}
use Rattle.wait_core.specs.Seats.{SeatView, Carries, IsSeated}
use Rattle.wait_core.specs.Sending.{SendsHome, HasSlot, IsTaking, IsFreeing, IsApart}
use Rattle.wait_core.specs.Told.{slot_then, does}
use Rattle.wait_core.proofs.Hands.{taking_free, freeing_hand}

carries_none : (h : Option Hand) (c : List (ℕ × Kept)) → slot_in h ≡ None → c ≡ [] → Carries h c
carries_none None c is none = none
carries_none (Some h) c is none = absurd (cc)

carries_one : (h : Option Hand) (x : ℕ) (k : Kept) (c : List (ℕ × Kept)) → slot_in h ≡ Some x → c ≡ (x, k) ∷ [] → Carries h c
carries_one None x k c is one = absurd (cc)
carries_one (Some h) x k c is one = let same : x ≡ h.slot = cc in (k, one ∙ ap (λ (i : ℕ). (i, k) ∷ []) same)

carries_as : (h g : Option Hand) (c : List (ℕ × Kept)) → slot_in g ≡ slot_in h → Carries h c → Carries g c
carries_as None g c is carries = carries_none g c is carries
carries_as (Some h) g c is carries = carries_one g h.slot carries.0 c is carries.1

rest_none : (h : Option Hand) (c : List (ℕ × Kept)) → Carries h c → rest c ≡ []
rest_none None c carries = ap rest carries
rest_none (Some h) c carries = ap rest carries.1

empty_slot : (h : Option Hand) (c : List (ℕ × Kept)) → Carries h c → slot_in h ≡ None → c ≡ []
empty_slot None c carries is = carries
empty_slot (Some h) c carries is = absurd (cc)

pub no_slot : (h : Option Hand) (c : List (ℕ × Kept)) → Carries h c → h ≡ None → c ≡ []
no_slot h c carries is = empty_slot h c carries (ap slot_in is)

-- the slot that is out with a seat that frees
pub out_slot : (h : Option Hand) (c : List (ℕ × Kept)) (x : ℕ) → Carries h c → slot_in h ≡ Some x → (k : Kept) × (c ≡ (x, k) ∷ [])
out_slot None c x carries is = absurd (cc)
out_slot (Some h) c x carries is = let same : h.slot ≡ x = cc in (carries.0, carries.1 ∙ ap (λ (i : ℕ). (i, carries.0) ∷ []) same)

-- the act on the slot leaves out with the seat what its place tells
carries_after : (z : Size) (k : WaitStep) (n : ℕ) (found : Kept) (h g : Option Hand) (c : List (ℕ × Kept)) → (IsTaking k → slot_in h ≡ None) → Carries h c → slot_in g ≡ slot_then k n (slot_in h) → Carries g (carried_after c (act_of k n found))
carries_after z (Take x b) n found h g c free carries is = by_word (eqb n 0) is
  where
    by_word : (clear : Bool) → slot_in g ≡ cond clear (Some (slot_of x)) (slot_in h) → Carries g (carried_after c (cond clear (takes (slot_of x) found) keeps))
    by_word true e = carries_one g (slot_of x) found _ e (ap (λ (l : List (ℕ × Kept)). (slot_of x, found) ∷ l) (empty_slot h c carries (free tt)))
    by_word false e = carries_as h g c e carries
carries_after z (Free x after) n found h g c free carries is = carries_none g (rest c) is (rest_none h c carries)
carries_after z k n found h g c free carries is = carries_as h g c is carries

module _ {C : Type 0} where
  pub apart_slot : (z : Size) (k : WaitStep) (v : WaitView C) (c : List (ℕ × Kept)) → IsApart k → Carries (hand_at v.place) c → HasSlot k v c
  apart_slot z (Take x b) v c apart carries = absurd apart
  apart_slot z (Free x after) v c apart carries = absurd apart
  apart_slot z k v c apart carries = carries

  -- only a step that takes a spin word begins a barrier's call
  pub apart_suits : (means : Meanings C) (k : WaitStep) (v : WaitView C) → IsApart k → StepSuits means k v
  apart_suits means (Take x b) v apart = absurd apart
  apart_suits means k v apart = tt

  pub freeing_suits : (means : Meanings C) (k : WaitStep) (v : WaitView C) → IsFreeing k → StepSuits means k v
  freeing_suits means (Free x after) v freeing = tt
  freeing_suits means k v freeing = absurd freeing

  pub taking_slot : (z : Size) (k : WaitStep) (v : WaitView C) (c : List (ℕ × Kept)) → IsTaking k → Carries (hand_at v.place) c → HasSlot k v c
  taking_slot z (Take x b) v c taking carries = carries
  taking_slot z k v c taking carries = absurd taking

  -- what goes home lies in the slot by now
  pub freeing_slot : (z : Size) (k : WaitStep) (s : SeatView C) (c : List (ℕ × Kept)) (x : ℕ) (kept : Kept) → IsFreeing k → Carries (hand_at s.view.place) c → x ≡ slot_number k → kept ≡ as_kept s.list s.record → SendsHome k s → HasSlot k s.view ((x, kept) ∷ rest c)
  freeing_slot z (Free y after) s c x kept freeing carries at is home = λ i. (at i, (is ∙ home) i) ∷ rest_none (hand_at s.view.place) c carries i
  freeing_slot z k s c x kept freeing carries at is home = absurd freeing

  takes_free : (z : Size) (k : WaitStep) (v : WaitView C) → Allowed z k v → IsTaking k → slot_in (hand_at v.place) ≡ None
  takes_free z (Take x b) v ok taking = taking_free z v.target x b v.own v.place ok
  takes_free z k v ok taking = absurd taking

  pub frees_hand : (z : Size) (k : WaitStep) (v : WaitView C) → Allowed z k v → IsFreeing k → slot_in (hand_at v.place) ≡ Some (slot_number k)
  frees_hand z (Free x after) v ok freeing = freeing_hand z v.target x after v.own v.place ok
  frees_hand z k v ok freeing = absurd freeing

  -- a seat after a step, with its target
  pub seated_after : (z : Size) (tells : ℕ → Record → Type 0) (s t : Seat Kept (WaitView C)) (number : ℕ) (target : Option ℕ) (k : WaitStep) (n : ℕ) → IsSeated s number target → Allowed z k s.me.0 → t.table_id ≡ s.table_id → does z tells k s.me n t.me → IsSeated t number (target_then k target)
  seated_after z tells s t number target k n h ok table told =
      let inside = h.inside in let wide = ap (λ (i : TableId). i.words) table in record {
        carries = subst (λ (m : Me Kept (WaitView C)). Carries (hand_at m.0.place) m.1) (λ i. (sym told.1 i, sym told.2 i)) (carries_after z k n told.0 (hand_at s.me.0.place) (hand_at (next_with z k s.me.0 n told.0).place) s.me.1 (takes_free z k s.me.0 ok) h.carries told.6);
        own = ap (λ (v : WaitView C). v.own) told.1 ∙ h.own;
        settled = ap (λ (v : WaitView C). v.pending) told.1 ∙ h.settled;
        inside = omega arith;
        target_is = ap (target_then k) h.target_is ∙ ap (λ (v : WaitView C). v.target) (sym told.1);
      }

  -- a seat with something else in the slot that it has out
  pub seated_swapped : (s t : Seat Kept (WaitView C)) (number x : ℕ) (target : Option ℕ) (k : Kept) → IsSeated s number target → slot_in (hand_at s.me.0.place) ≡ Some x → t.table_id ≡ s.table_id → t.me ≡ (s.me.0, (x, k) ∷ rest s.me.1) → IsSeated t number target
  seated_swapped s t number x target k h is table me =
      let inside = h.inside in let wide = ap (λ (i : TableId). i.words) table in record {
        carries = subst (λ (m : Me Kept (WaitView C)). Carries (hand_at m.0.place) m.1) (sym me) (carries_one (hand_at s.me.0.place) x k ((x, k) ∷ rest s.me.1) is (ap (λ (l : List (ℕ × Kept)). (x, k) ∷ l) (rest_none (hand_at s.me.0.place) s.me.1 h.carries)));
        own = ap (λ (m : Me Kept (WaitView C)). m.0.own) me ∙ h.own;
        settled = ap (λ (m : Me Kept (WaitView C)). m.0.pending) me ∙ h.settled;
        inside = omega arith;
        target_is = h.target_is ∙ ap (λ (m : Me Kept (WaitView C)). m.0.target) (sym me);
      }

-- a step that takes a spin word changes no target, and nor does one that neither takes nor frees one
taking_target : (k : WaitStep) (target : Option ℕ) → IsTaking k → target_then k target ≡ target
taking_target (Take x b) target taking = refl
taking_target k target taking = absurd taking

apart_target : (k : WaitStep) (target : Option ℕ) → IsApart k → target_then k target ≡ target
apart_target (Take x b) target apart = absurd apart
apart_target (Free x after) target apart = absurd apart
apart_target k target apart = refl

taking_out : (z : Size) (k : WaitStep) (n : ℕ) (out : Option ℕ) → IsTaking k → n ≡ 0 → slot_then k n out ≡ Some (slot_number k)
taking_out z (Take x b) n out taking zero_is = ap (λ (b : Bool). cond b (Some (slot_of x)) out) (eq-eqb n 0 zero_is)
taking_out z k n out taking zero_is = absurd taking

taking_act : (z : Size) (k : WaitStep) (n : ℕ) (found : Kept) → IsTaking k → n ≡ 0 → act_of k n found ≡ takes (slot_number k) found
taking_act z (Take x b) n found taking zero_is = ap (λ (b : Bool). cond b (takes (slot_of x) found) keeps) (eq-eqb n 0 zero_is)
taking_act z k n found taking zero_is = absurd taking

module _ {C : Type 0} (z : Size) (tells : ℕ → Record → Type 0) (s t : Seat Kept (WaitView C)) (number : ℕ) (target : Option ℕ) (k : WaitStep) (n slot : ℕ) (h : IsSeated s number target) (ok : Allowed z k s.me.0) (table : t.table_id ≡ s.table_id) (told : does z tells k s.me n t.me) where
  pub seated_apart : IsApart k → IsSeated t number target
  seated_apart apart = subst (IsSeated t number) (apart_target k target apart) (seated_after z tells s t number target k n h ok table told)

  -- AFTER A TAKE, and after what was taken was moved into the seat
  module _ (taking : IsTaking k) (at : slot ≡ slot_number k) where
    pub seated_taken : IsSeated t number target
    seated_taken = subst (IsSeated t number) (taking_target k target taking) (seated_after z tells s t number target k n h ok table told)

    pub taken_slot : n ≡ 0 → (x : Kept) × (t.me.1 ≡ (slot, x) ∷ rest t.me.1)
    taken_slot zero_is = let now : t.me.1 ≡ (slot_number k, told.0) ∷ s.me.1 = told.2 ∙ ap (carried_after s.me.1) (taking_act z k n told.0 taking zero_is) in
        (told.0, now ∙ (λ i. (sym at i, told.0) ∷ rest (sym now i)))

    pub seated_emptied : (x : Seat Kept (WaitView C)) (left : Kept) → n ≡ 0 → x.table_id ≡ t.table_id → x.me ≡ (t.me.0, (slot, left) ∷ rest t.me.1) → IsSeated x number target
    seated_emptied x left zero_is again is = seated_swapped t x number slot target left seated_taken (ap (λ (v : WaitView C). slot_in (hand_at v.place)) told.1 ∙ (told.6 ∙ (taking_out z k n (slot_in (hand_at s.me.0.place)) taking zero_is ∙ ap Some (sym at)))) again is

-- BEFORE A FREE: what is in hand is moved into the slot
module _ {C : Type 0} (z : Size) (s : Seat Kept (WaitView C)) (number : ℕ) (target : Option ℕ) (k : WaitStep) (slot : ℕ) (h : IsSeated s number target) (ok : Allowed z k s.me.0) (freeing : IsFreeing k) (at : slot ≡ slot_number k) where
  in_hand : slot_in (hand_at s.me.0.place) ≡ Some slot
  in_hand = frees_hand z k s.me.0 ok freeing ∙ ap Some (sym at)

  pub freed_slot : (x : Kept) × (s.me.1 ≡ (slot, x) ∷ rest s.me.1)
  freed_slot = let out = out_slot (hand_at s.me.0.place) s.me.1 slot h.carries in_hand in (out.0, out.1 ∙ (λ i. (slot, out.0) ∷ rest (sym out.1 i)))

  module _ (u : Seat Kept (WaitView C)) (kept : Kept) (again : u.table_id ≡ s.table_id) (is : u.me ≡ (s.me.0, (slot, kept) ∷ rest s.me.1)) where
    pub seated_filled : IsSeated u number target
    seated_filled = seated_swapped s u number slot target kept h in_hand again is

    pub filled_slot : (list : List ℕ) (found : Record) → kept ≡ as_kept list found → SendsHome k record { table_id = s.table_id; id = s.id; view = s.me.0; list = list; «record» = found } → HasSlot k u.me.0 u.me.1
    filled_slot list found same home = subst (λ (m : Me Kept (WaitView C)). HasSlot k m.0 m.1) (sym is)
        (freeing_slot z k record { table_id = s.table_id; id = s.id; view = s.me.0; list = list; «record» = found } s.me.1 slot kept freeing h.carries at same home)

    pub allowed_still : Allowed z k u.me.0
    allowed_still = subst (λ (m : Me Kept (WaitView C)). Allowed z k m.0) (sym is) ok
