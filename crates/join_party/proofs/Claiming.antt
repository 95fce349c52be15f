-- What a seat gets where it claims rows.
use Rattle.std.proofs.Common.{◌≡◌, ℕ, ◌+◌, ◌-◌, ◌<◌, ◌≤◌, min, cond, nat_le, Bool, true, false, ◌||◌, List, ◌++◌, get_or, refl, sym, ap, ◌∙◌, subst, arith, ⊎_elim}
use Rattle.std.proofs.lemmas.Bool.{cases_Bool, leb-true, true≢false}
use Rattle.seat_roster.specs.Roster.{times}
use Rattle.seat_roster.proofs.Totals.{total_at}
use Rattle.seat_roster.proofs.Numbers.{times_append}
use Rattle.wait_core.specs.declared.view.WaitView.{WaitView}
use Rattle.wait_core.specs.Ops.{op_at}
use Rattle.wait_core.specs.Parties.{IsStep}
use Rattle.wait_core.specs.Seating.{client_moved}
use Rattle.row_model.specs.declared.Side.{Side}
use Rattle.row_model.specs.declared.Side.TheVariants.{Inner, Outer}
use Rattle.join_law.specs.declared.view.HashView.{HashView}
use Rattle.join_law.specs.declared.step.HashStep.TheVariants.{Claim, Load}
use Rattle.join_law.specs.declared.step.Look.TheVariants.{Cursor}
use Rattle.join_law.specs.Layout.{Join, Inside}
use Rattle.join_law.specs.Machine.{cursor, step_op, after, looked, claimed_rows, claims_of}
use Rattle.join_law.specs.Views.{View, held, stretch, unclaimed}
use Rattle.join_law.specs.Stands.{Stands}
use Rattle.join_law.proofs.Learned.{word_found, inner_end_found, outer_end_found}
use Rattle.join_law.proofs.Rows.{times_stretch}
use Rattle.join_party.specs.Claims.{Claimed, MayStillEnd, first_of, count_of, drew_end, chunk_of}

below_end : (n m : ℕ) → n < m → nat_le m n ≡ false
below_end n m less = ⊎_elim (λ (e : nat_le m n ≡ true). let x = leb-true m n e in absurd (omega arith)) (λ (e : nat_le m n ≡ false). e) (cases_Bool (nat_le m n))

or_false : (a b : Bool) → b ≡ false → (a || b) ≡ a
or_false true b e = refl
or_false false b e = e

left_false : (a b : Bool) → (a || b) ≡ false → a ≡ false
left_false true b e = e
left_false false b e = refl

from_zero : (n : ℕ) → n ≡ 0 + n
from_zero n = omega arith

-- a load of the cursor below the end teaches nothing, and an add there gives rows
pub looked_on : (j : Join) (v : View) (side : Side) (n : ℕ) → n < count_of j side → looked j v (Cursor side) n ≡ v.client
looked_on j v Inner n less = ap (λ (b : Bool). record (v.client) { inner_ended = b }) (or_false v.client.inner_ended (nat_le j.inner n) (below_end n j.inner less))
looked_on j v Outer n less = ap (λ (b : Bool). record (v.client) { outer_ended = b }) (or_false v.client.outer_ended (nat_le j.outer n) (below_end n j.outer less))

pub drew_rows : (j : Join) (v : View) (side : Side) (n : ℕ) → n < count_of j side → after j v (Claim side) n ≡ claimed_rows v.client (first_of j side + n) (min 64 (count_of j side - n)) (chunk_of side)
drew_rows j v Inner n less = ap (λ (b : Bool). cond {A = HashView} b (drew_end v.client Inner) (claimed_rows v.client n (min 64 (j.inner - n)) 1)) (below_end n j.inner less)
    ∙ ap (λ (first : ℕ). claimed_rows v.client first (min 64 (j.inner - n)) 1) (from_zero n)
drew_rows j v Outer n less = ap (λ (b : Bool). cond {A = HashView} b (drew_end v.client Outer) (claimed_rows v.client (j.inner + n) (min 64 (j.outer - n)) 0)) (below_end n j.outer less)

-- after both a seat that didn't see a side's end may still find it by an add
pub still_after_look : (j : Join) (v : View) (side : Side) (n : ℕ) → ((s : Side) → MayStillEnd v.client s) → (s : Side) → MayStillEnd (looked j v (Cursor side) n) s
still_after_look j v Inner n may Inner e = may Inner (left_false v.client.inner_ended (nat_le j.inner n) e)
still_after_look j v Inner n may Outer e = may Outer e
still_after_look j v Outer n may Inner e = may Inner e
still_after_look j v Outer n may Outer e = may Outer (left_false v.client.outer_ended (nat_le j.outer n) e)

still_by_end : (client : HashView) (side : Side) (first count chunk : ℕ) → ((s : Side) → MayStillEnd client s) → (b : Bool) (s : Side) → MayStillEnd (cond {A = HashView} b (drew_end client side) (claimed_rows client first count chunk)) s
still_by_end client Inner first count chunk may true Inner e = absurd (true≢false e)
still_by_end client Inner first count chunk may true Outer e = may Outer e
still_by_end client Outer first count chunk may true Inner e = may Inner e
still_by_end client Outer first count chunk may true Outer e = absurd (true≢false e)
still_by_end client side first count chunk may false Inner e = may Inner e
still_by_end client side first count chunk may false Outer e = may Outer e

pub still_after_draw : (j : Join) (v : View) (side : Side) (n : ℕ) → ((s : Side) → MayStillEnd v.client s) → (s : Side) → MayStillEnd (after j v (Claim side) n) s
still_after_draw j v Inner n may = still_by_end v.client Inner n (min 64 (j.inner - n)) 1 may (nat_le j.inner n)
still_after_draw j v Outer n may = still_by_end v.client Outer (j.inner + n) (min 64 (j.outer - n)) 0 may (nat_le j.outer n)

pub cursor_is_inside : (j : Join) (side : Side) → Inside j (cursor side)
cursor_is_inside j Inner = omega arith
cursor_is_inside j Outer = omega arith

module _ (j : Join) (words : List ℕ) (views : List View) (phases : List ℕ) (h : Stands j words views phases) (id : ℕ) (v : View) (s : IsStep views phases id v) where
  -- rows that nobody claimed are in nobody's hand
  once_where : (first count r : ℕ) → first ≤ r → r < first + count → 1 ≤ unclaimed j h.memory.inner_cursor h.memory.outer_cursor r → times r (v.client.hand ++ stretch first count) ≡ 1
  once_where first count r low high free =
      let one = h.parts.place.once r in
      let mine = total_at (held r) views id v s.at in
      let both = times_append r v.client.hand (stretch first count) in
      let fresh = times_stretch r first count in
      omega arith

  pub once_in_hand : (side : Side) (n : ℕ) → get_or words (op_at (step_op j (Claim side))) 0 ≡ n → n < count_of j side → (r : ℕ) → first_of j side + n ≤ r → r < first_of j side + n + min 64 (count_of j side - n)
      → times r (v.client.hand ++ stretch (first_of j side + n) (min 64 (count_of j side - n))) ≡ 1
  once_in_hand Inner n found less r low high =
      let e : n ≡ h.memory.inner_cursor = word_found j words views phases h id v s (Claim Inner) n found (omega arith) in
      let free : 1 ≤ unclaimed j h.memory.inner_cursor h.memory.outer_cursor r = omega arith in
      once_where (0 + n) (min 64 (j.inner - n)) r low high free
  once_in_hand Outer n found less r low high =
      let e : n ≡ h.memory.outer_cursor = word_found j words views phases h id v s (Claim Outer) n found (omega arith) in
      let free : 1 ≤ unclaimed j h.memory.inner_cursor h.memory.outer_cursor r = omega arith in
      once_where (j.inner + n) (min 64 (j.outer - n)) r low high free

  -- a seat that found a cursor below its end may still find the end by an add
  pub may_draw : (side : Side) (n : ℕ) → get_or words (op_at (step_op j (Load (Cursor side)))) 0 ≡ n → n < count_of j side → MayStillEnd v.client side → 1 ≤ claims_of v side
  may_draw Inner n found less may = ⊎_elim (λ (e : v.client.inner_ended ≡ true). let past = inner_end_found j words views phases h id v s n found e in absurd (omega arith)) may (cases_Bool v.client.inner_ended)
  may_draw Outer n found less may = ⊎_elim (λ (e : v.client.outer_ended ≡ true). let past = outer_end_found j words views phases h id v s n found e in absurd (omega arith)) may (cases_Bool v.client.outer_ended)

pub claimed : (j : Join) (side : Side) (v w : WaitView HashView) (n first count : ℕ) → first ≡ first_of j side + n → count ≡ min 64 (count_of j side - n) → n < count_of j side
    → w ≡ client_moved v (claimed_rows v.client (first_of j side + n) (min 64 (count_of j side - n)) (chunk_of side))
    → ((r : ℕ) → first_of j side + n ≤ r → r < first_of j side + n + min 64 (count_of j side - n) → times r (v.client.hand ++ stretch (first_of j side + n) (min 64 (count_of j side - n))) ≡ 1)
    → Claimed j side v w first count
claimed j side v w n first count begins many less is once = subst {A = ℕ × ℕ} (λ x. Claimed j side v w x.0 x.1) (λ i. (sym begins i, sym many i)) (record {
  some = omega arith;
  few = omega arith;
  begins = omega arith;
  ends = omega arith;
  view = is;
  once = λ r low high. subst (λ (y : WaitView HashView). times r y.client.hand ≡ 1) (sym is) (once r low high);
})
