-- A bit that was posted stands until it is taken, and what stands isn't published.
use Rattle.std.proofs.Common.{◌≡◌, ◌≢◌, ◌⊎◌, ℕ, zero, suc, ◌+◌, ◌^◌, ◌<◌, ◌≤◌, eqb, nat_lt, bit_or, Bool, true, false, cond, List, [], ◌∷◌, ◌++◌, map, length, get_or, set, Option, None, Some, refl, sym, ap, ◌∙◌, subst, ⊎_elim, inl, inr, arith, eq-eqb, ne_eqb, get_or-set_same, get_or-set_other}
use Rattle.std.proofs.lemmas.Bool.Decides.{nat_tests}
use Rattle.std.proofs.lemmas.Nat.Bits.{bit_at_above, bit_at-lt, bit_at-zero}
use mathlib.Core.Logic.{dite}
use native.Mathlib.Decide.{ℕ_discrete}
use mathlib.Core.Option as maybe
use lib.ListN.{get_elem?}
use Rattle.std.specs.Int.{bit_at}
use Rattle.std.specs.Prelude.{⊤}
use Rattle.seat_roster.specs.Totals.{total}
use Rattle.signal_core.specs.declared.step.Call.{Call}
use Rattle.signal_core.specs.declared.step.Call.TheVariants as call
use Rattle.signal_core.specs.declared.step.SigStep.{SigStep}
use Rattle.signal_core.specs.declared.step.SigStep.TheVariants.{Hload, Hadd, Mor, Mswap, Gstore, Gload, Pstore, Pload, Pend, Pswap}
use Rattle.signal_core.specs.declared.view.Frame.TheVariants.{Reading, Opening, Entering, Leaving, Posting, Numbering, Telling, Prodding, Comparing, Heading, Swapping, Taking, Keeping, Reminding}
use Rattle.signal_core.specs.declared.view.Slot.{Slot}
use Rattle.signal_core.specs.declared.view.About.{About}
use Rattle.signal_core.specs.Words.{header_at, pid_at, gen_at, mask_at, pend_at}
use Rattle.signal_core.specs.Machine.{Place, word_of, becomes, headed, posted, swapped, opened, told, looked, prodded, compared, place_after, slot_after, takes, taken_by, MayRead, MayNumber, MayPost, MaySwap, MayStore, MayEnd, MayTell, MayProd, IsLowest, Permits}
use Rattle.signal_core.specs.Seating.{Stance}
use Rattle.signal_core.specs.Places.{swapped_at}
use Rattle.signal_core.specs.PlacesFit.{PlaceFits}
use Rattle.signal_core.proofs.Bits.{mask_else, mask_kept, mask_has}
use Rattle.signal_core.proofs.EitherWay.{either_way}

-- 1 where the kind was found and is still to be taken or put back
abbrev pub waits : ℕ → Place → ℕ
waits k (Some (Taking h found)) = bit_at found k
waits k (Some (Keeping h found failed done)) = cond (nat_lt k done) 0 (bit_at failed k)
waits k (Some (Reminding h found failed j)) = cond (nat_lt k (j + 1)) 0 (bit_at failed k)
waits k p = 0

-- 1 where the kind was found and isn't taken
abbrev pub untaken : ℕ → Place → ℕ
untaken k (Some (Taking h found)) = bit_at found k
untaken k (Some (Keeping h found failed done)) = bit_at failed k
untaken k (Some (Reminding h found failed j)) = bit_at failed k
untaken k p = 0

abbrev pub of_slot : ℕ → Option ℕ → ℕ → ℕ
of_slot s None n = 0
of_slot s (Some p) n = cond (eqb p s) n 0

-- how many seats of the slot s have the kind in hand so
abbrev pub waiting : ℕ → ℕ → List Stance → ℕ
waiting s k seats = total (λ (v : Stance). of_slot s v.own (waits k v.place)) seats

-- the bit of k stands in the mask of s, or in its hand
abbrev pub Stands : ℕ → ℕ → List ℕ → List Stance → Type 0
Stands s k words seats = 1 ≤ bit_at (get_or words (mask_at s) 0) k + waiting s k seats

-- and the number is not published
pub record Due (s k number : ℕ) (words : List ℕ) (seats : List Stance) : Type 0 where
  pub stands : Stands s k words seats
  pub swapped : (id h : ℕ) (v : Stance) (t : Slot) → get_elem? seats id ≡ maybe.some v → v.own ≡ Some s → v.slot ≡ Some t → swapped_at v.place ≡ Some h → t.joined < number → number ≤ h → 1 ≤ untaken k v.place
  pub unpublished : (id : ℕ) (v : Stance) (t : Slot) → get_elem? seats id ≡ maybe.some v → v.own ≡ Some s → v.slot ≡ Some t → t.joined < number → number ≤ t.published → ⊥

pub slot_mine : (s : ℕ) (own : Option ℕ) (n : ℕ) → own ≡ Some s → of_slot s own n ≡ n
slot_mine s own n e = subst (λ (y : Option ℕ). of_slot s y n ≡ n) (sym e) (by_case (eqb s s) (eq-eqb s s refl))
  where
    by_case : (b : Bool) → b ≡ true → cond b n 0 ≡ n
    by_case true is = refl
    by_case false is = absurd (cc)

pub slot_else : (s o : ℕ) (own : Option ℕ) (n : ℕ) → own ≡ Some o → o ≢ s → of_slot s own n ≡ 0
slot_else s o own n e ne = subst (λ (y : Option ℕ). of_slot s y n ≡ 0) (sym e) (by_case (eqb o s) (ne_eqb o s ne))
  where
    by_case : (b : Bool) → b ≡ false → cond b n 0 ≡ 0
    by_case false is = refl
    by_case true is = absurd (cc)

pub slot_none : (s : ℕ) (own : Option ℕ) (n : ℕ) → (own ≡ Some s → ⊥) → of_slot s own n ≡ 0
slot_none s None n not_mine = refl
slot_none s (Some p) n not_mine = by_case (eqb p s) refl
  where
    by_case : (b : Bool) → eqb p s ≡ b → cond b n 0 ≡ 0
    by_case false is = refl
    by_case true is = absurd (not_mine (ap Some (Rattle.std.proofs.Common.eqb-true p s is)))

-- THE MASK of another backend loses no bit
keeps_else : (words : List ℕ) (i x s k : ℕ) → mask_at s ≢ i → bit_at (get_or words (mask_at s) 0) k ≤ bit_at (get_or (set words i x) (mask_at s) 0) k
keeps_else words i x s k ne = let a = mask_else words s i x k ne in omega arith

pub mask_stays : (words : List ℕ) (z : About) (o : ℕ) (x : SigStep) (n s k : ℕ) → n ≡ get_or words (word_of o x) 0 → ((q : ℕ) → q < z.procs → mask_at q < length words) → ((q j : ℕ) (f : Option ℕ) → x ≡ Mor q j f → q < z.procs) → (s ≡ o → (c : Option Call) → x ≡ Mswap c → ⊥)
    → bit_at (get_or words (mask_at s) 0) k ≤ bit_at (get_or (set words (word_of o x) (becomes x n)) (mask_at s) 0) k
mask_stays words z o (Hload c) n s k is wide ins apart = keeps_else words header_at n s k (λ e. omega arith)
mask_stays words z o Hadd n s k is wide ins apart = keeps_else words header_at (n + 1) s k (λ e. omega arith)
mask_stays words z o (Mor q j f) n s k is wide ins apart = subst (λ (m : ℕ). bit_at (get_or words (mask_at s) 0) k ≤ bit_at (get_or (set words (mask_at q) (bit_or m (2 ^ j))) (mask_at s) 0) k) (sym is) (mask_kept words q j s k (wide q (ins q j f refl)))
mask_stays words z o (Mswap c) n s k is wide ins apart = dite (ℕ_discrete s o) (λ e. absurd (apart e c refl)) (λ ne. keeps_else words (mask_at o) 0 s k (λ e. ne (omega arith)))
mask_stays words z o (Gstore g c) n s k is wide ins apart = keeps_else words (gen_at o) g s k (λ e. omega arith)
mask_stays words z o (Gload q c) n s k is wide ins apart = keeps_else words (gen_at q) n s k (λ e. omega arith)
mask_stays words z o (Pstore y) n s k is wide ins apart = keeps_else words (pid_at o) y s k (λ e. omega arith)
mask_stays words z o (Pload q) n s k is wide ins apart = keeps_else words (pid_at q) n s k (λ e. omega arith)
mask_stays words z o (Pend q) n s k is wide ins apart = keeps_else words (pend_at q) 1 s k (λ e. omega arith)
mask_stays words z o (Pswap c) n s k is wide ins apart = keeps_else words (pend_at o) 0 s k (λ e. omega arith)

pub posts_inside : (shows : ℕ → ℕ → Type 0) (z : About) (own : Option ℕ) (t : Option Slot) (p : Place) (x : SigStep) → Permits shows z x own t p → (q j : ℕ) (f : Option ℕ) → x ≡ Mor q j f → q < z.procs
posts_inside shows z own t p x ok q j f e = (subst (λ (y : SigStep). Permits shows z y own t p) e ok).0

-- THE OWN BIT
bit_cases : (n k : ℕ) → (bit_at n k ≡ 0) ⊎ (bit_at n k ≡ 1)
bit_cases n k = let a = bit_at-lt n k in dite (ℕ_discrete (bit_at n k) 0) inl (λ ne. inr (omega arith))

by_lt : (k m : ℕ) → (nat_lt k m ≡ true) × (k < m) ⊎ (nat_lt k m ≡ false) × (m ≤ k)
by_lt k m = by_case (nat_lt k m) refl
  where
    by_case : (b : Bool) → nat_lt k m ≡ b → (nat_lt k m ≡ true) × (k < m) ⊎ (nat_lt k m ≡ false) × (m ≤ k)
    by_case true e = inl (e, grind (arith, nat_tests, e))
    by_case false e = inr (e, grind (arith, nat_tests, e))

cond_false : (b : Bool) (x : ℕ) → b ≡ false → cond b 0 x ≡ x
cond_false false x e = refl
cond_false true x e = absurd (cc)

cond_true : (b : Bool) (x : ℕ) → b ≡ true → cond b 0 x ≡ 0
cond_true true x e = refl
cond_true false x e = absurd (cc)

-- a kind that failed is put back by this step, or waits
lowest_waits : (failed done j k new : ℕ) → IsLowest failed done j → bit_at failed k ≡ 1 → done ≤ k → (k ≡ j → 1 ≤ new) → 1 ≤ new + cond (nat_lt k (j + 1)) 0 (bit_at failed k)
lowest_waits failed done j k new low one from there = ⊎_elim
    (λ (less : (nat_lt k (j + 1) ≡ true) × (k < j + 1)). dite (ℕ_discrete k j)
    (λ is. let a = there is in omega arith)
    (λ ne. absurd (let a = low.2 k from (let b = less.1 in omega arith) in omega arith)))
    (λ (more : (nat_lt k (j + 1) ≡ false) × (j + 1 ≤ k)). let a = cond_false (nat_lt k (j + 1)) (bit_at failed k) more.0 in omega arith)
    (by_lt k (j + 1))

-- the bit of k, in the mask or in the hand of the seat, stays unless the step takes the kind
abbrev StaysOrTaken : ℕ → ℕ → SigStep → ℕ → Place → Place → Type 0
StaysOrTaken old new x k p u = 1 ≤ old + waits k p → (1 ≤ new + waits k u) ⊎ (1 ≤ taken_by x p k)

idle_waits : (old new k : ℕ) (x : SigStep) (p u : Place) → old ≤ new → waits k p ≡ 0 → StaysOrTaken old new x k p u
idle_waits old new k x p u le none some = inl (omega arith)

post_waits : (z : About) (own : Option ℕ) (old new q j k : ℕ) (failed : Option ℕ) (p : Place) → MayPost z own q j failed p → old ≤ new → (k ≡ j → own ≡ Some q → 1 ≤ new) → StaysOrTaken old new (Mor q j failed) k p (posted z j failed p)
post_waits z own old new q j k None (Some (Posting i x r)) ok le there some = inl (omega arith)
post_waits z own old new q j k None (Some (Keeping h found failed done)) ok le there some = ⊎_elim
    (λ (less : (nat_lt k done ≡ true) × (k < done)). let a = cond_true (nat_lt k done) (bit_at failed k) less.0 in inl (omega arith))
    (λ (more : (nat_lt k done ≡ false) × (done ≤ k)). let a = cond_false (nat_lt k done) (bit_at failed k) more.0 in ⊎_elim
    (λ (no_bit : bit_at failed k ≡ 0). inl (omega arith))
    (λ (one : bit_at failed k ≡ 1). inl (lowest_waits failed done j k new ok.1 one more.1 (λ e. there e ok.0)))
    (bit_cases failed k))
    (by_lt k done)
post_waits z own old new q j k (Some failed) (Some (Taking h found)) ok le there some = ⊎_elim
    (λ (none : bit_at failed k ≡ 0). let a : takes found failed k ≡ bit_at found k = ap (λ (n : ℕ). cond (eqb n 0) (bit_at found k) 0) none in dite (ℕ_discrete old 0) (λ zero_is. inr (omega arith)) (λ more. inl (omega arith)))
    (λ (one : bit_at failed k ≡ 1). inl (lowest_waits failed 0 j k new ok.2 one (omega arith) (λ e. there e ok.0)))
    (bit_cases failed k)
post_waits z own old new q j k None p ok le there some = absurd ok
post_waits z own old new q j k (Some failed) p ok le there some = absurd ok

read_waits : (k : ℕ) (p : Place) → MayRead p → waits k p ≡ 0
read_waits k (Some Reading) ok = refl
read_waits k (Some (Heading g)) ok = refl
read_waits k p ok = absurd ok

number_waits : (k : ℕ) (p : Place) → MayNumber p → waits k p ≡ 0
number_waits k (Some (Numbering j x)) ok = refl
number_waits k p ok = absurd ok

end_waits : (x k : ℕ) (own : Option ℕ) (p : Place) → MayEnd x own p → waits k p ≡ 0
end_waits x k own (Some (Entering h)) ok = refl
end_waits x k own (Some Leaving) ok = refl
end_waits x k own p ok = absurd ok

tell_waits : (q k : ℕ) (p : Place) → MayTell q p → waits k p ≡ 0
tell_waits q k (Some (Telling r)) ok = refl
tell_waits q k p ok = absurd ok

prod_waits : (z : About) (own : Option ℕ) (old new q k : ℕ) (p : Place) → MayProd own q p → old ≤ new → StaysOrTaken old new (Pend q) k p (prodded z p)
prod_waits z own old new q k (Some (Prodding r)) ok le some = inl (omega arith)
prod_waits z own old new q k (Some (Reminding h found failed j)) ok le some = inl (by_case (nat_lt failed (2 ^ (j + 1))) refl)
  where
    by_case : (b : Bool) → nat_lt failed (2 ^ (j + 1)) ≡ b → 1 ≤ new + waits k (cond b None (Some (Keeping h found failed (j + 1))))
    by_case false e = omega arith
    by_case true e = let a : cond (nat_lt k (j + 1)) 0 (bit_at failed k) ≡ 0 = ⊎_elim
        (λ (less : (nat_lt k (j + 1) ≡ true) × (k < j + 1)). cond_true (nat_lt k (j + 1)) (bit_at failed k) less.0)
        (λ (more : (nat_lt k (j + 1) ≡ false) × (j + 1 ≤ k)). cond_false (nat_lt k (j + 1)) (bit_at failed k) more.0 ∙ bit_at_above failed (j + 1) k (small (2 ^ (j + 1)) e) more.1)
        (by_lt k (j + 1)) in omega arith
      where
        small : (m : ℕ) → nat_lt failed m ≡ true → failed < m
        small m e = grind (arith, nat_tests, e)
prod_waits z own old new q k p ok le some = absurd ok

-- the step clears the mask of a seat that joins
abbrev pub IsClear : SigStep → Type 0
IsClear (Mswap (Some c)) = ⊤
IsClear x = ⊥

pub own_stands : (shows : ℕ → ℕ → Type 0) (z : About) (words : List ℕ) (o : ℕ) (x : SigStep) (n k : ℕ) (t : Option Slot) (p : Place) → (o < z.procs) → ((q : ℕ) → q < z.procs → mask_at q < length words) → n ≡ get_or words (word_of o x) 0 → Permits shows z x (Some o) t p
    → 1 ≤ bit_at (get_or words (mask_at o) 0) k + waits k p → ((1 ≤ bit_at (get_or (set words (word_of o x) (becomes x n)) (mask_at o) 0) k + waits k (place_after z x n p)) ⊎ (1 ≤ taken_by x p k)) ⊎ IsClear x
own_stands shows z words o (Hload (Some c)) n k t p below wide is ok some = inl (idle_waits _ _ k (Hload (Some c)) p _ (mask_stays words z o (Hload (Some c)) n o k is wide (posts_inside shows z (Some o) t p (Hload (Some c)) ok) (λ s c e. absurd (cc))) (ap (waits k) ok.1) some)
own_stands shows z words o (Hload None) n k t p below wide is ok some = inl (idle_waits _ _ k (Hload None) p (headed n p) (mask_stays words z o (Hload None) n o k is wide (posts_inside shows z (Some o) t p (Hload None) ok) (λ s c e. absurd (cc))) (read_waits k p ok) some)
own_stands shows z words o Hadd n k t p below wide is ok some = inl (idle_waits _ _ k Hadd p (Rattle.signal_core.specs.Machine.numbered p) (mask_stays words z o Hadd n o k is wide (posts_inside shows z (Some o) t p Hadd ok) (λ s c e. absurd (cc))) (number_waits k p ok) some)
own_stands shows z words o (Mor q j failed) n k t p below wide is ok some = inl (post_waits z (Some o) (bit_at (get_or words (mask_at o) 0) k) (bit_at (get_or (set words (mask_at q) (bit_or n (2 ^ j))) (mask_at o) 0) k) q j k failed p ok.2
    (mask_stays words z o (Mor q j failed) n o k is wide (posts_inside shows z (Some o) t p (Mor q j failed) ok) (λ s c e. absurd (cc)))
    (λ same mine. let e : o ≡ q = cc in let a = mask_has words q j (wide q ok.0) in let b : bit_at (get_or (set words (mask_at q) (bit_or n (2 ^ j))) (mask_at o) 0) k ≡ bit_at (get_or (set words (mask_at q) (bit_or (get_or words (mask_at q) 0) (2 ^ j))) (mask_at q) 0) j = (λ i. bit_at (get_or (set words (mask_at q) (bit_or (is i) (2 ^ j))) (mask_at (e i)) 0) (same i)) in omega arith) some)
own_stands shows z words o (Mswap (Some c)) n k t p below wide is ok some = inr tt
own_stands shows z words o (Mswap None) n k t (Some (Swapping h)) below wide is ok some = inl (inl (let a : bit_at n k ≡ bit_at (get_or words (mask_at o) 0) k = ap (λ (m : ℕ). bit_at m k) is in omega arith))
own_stands shows z words o (Mswap None) n k t p below wide is ok some = absurd ok
own_stands shows z words o (Gstore g (Some c)) n k t p below wide is ok some = inl (idle_waits _ _ k (Gstore g (Some c)) p (Some Leaving) (mask_stays words z o (Gstore g (Some c)) n o k is wide (posts_inside shows z (Some o) t p (Gstore g (Some c)) ok) (λ s c e. absurd (cc))) (ap (waits k) ok.2) some)
own_stands shows z words o (Gstore g None) n k t (Some (Opening h)) below wide is ok some = inl (idle_waits _ _ k (Gstore g None) (Some (Opening h)) (Some (Entering h)) (mask_stays words z o (Gstore g None) n o k is wide (posts_inside shows z (Some o) t (Some (Opening h)) (Gstore g None) ok) (λ s c e. absurd (cc))) refl some)
own_stands shows z words o (Gstore g None) n k t (Some (Taking h found)) below wide is ok some = inl (let a = mask_stays words z o (Gstore g None) n o k is wide (posts_inside shows z (Some o) t (Some (Taking h found)) (Gstore g None) ok) (λ s c e. absurd (cc)) in
    let b : takes found 0 k ≡ bit_at found k = ap (λ (m : ℕ). cond (eqb m 0) (bit_at found k) 0) (bit_at-zero k) in dite (ℕ_discrete (bit_at (get_or words (mask_at o) 0) k) 0) (λ zero_is. inr (omega arith)) (λ more. inl (omega arith)))
own_stands shows z words o (Gstore g None) n k t p below wide is ok some = absurd ok
own_stands shows z words o (Gload q (Some c)) n k t p below wide is ok some = inl (inl (let a = mask_stays words z o (Gload q (Some c)) n o k is wide (posts_inside shows z (Some o) t p (Gload q (Some c)) ok) (λ s c e. absurd (cc)) in omega arith))
own_stands shows z words o (Gload q None) n k t p below wide is ok some = inl (idle_waits _ _ k (Gload q None) p (compared n p) (mask_stays words z o (Gload q None) n o k is wide (posts_inside shows z (Some o) t p (Gload q None) ok) (λ s c e. absurd (cc))) (ap (waits k) ok.1) some)
own_stands shows z words o (Pstore y) n k t p below wide is ok some = inl (idle_waits _ _ k (Pstore y) p None (mask_stays words z o (Pstore y) n o k is wide (posts_inside shows z (Some o) t p (Pstore y) ok) (λ s c e. absurd (cc))) (end_waits y k (Some o) p ok) some)
own_stands shows z words o (Pload q) n k t p below wide is ok some = inl (idle_waits _ _ k (Pload q) p (looked z n p) (mask_stays words z o (Pload q) n o k is wide (posts_inside shows z (Some o) t p (Pload q) ok) (λ s c e. absurd (cc))) (tell_waits q k p ok.1) some)
own_stands shows z words o (Pend q) n k t p below wide is ok some = inl (prod_waits z (Some o) _ _ q k p ok.1 (mask_stays words z o (Pend q) n o k is wide (posts_inside shows z (Some o) t p (Pend q) ok) (λ s c e. absurd (cc))) some)
own_stands shows z words o (Pswap c) n k t p below wide is ok some = inl (idle_waits _ _ k (Pswap c) p _ (mask_stays words z o (Pswap c) n o k is wide (posts_inside shows z (Some o) t p (Pswap c) ok) (λ s c e. absurd (cc))) (ap (waits k) ok.1) some)

-- WHAT IS DUE, of the seat itself, where the step doesn't take the kind
abbrev pub OwnDue : ℕ → ℕ → Option Slot → Place → Type 0
OwnDue k number t p = (r : Slot) → t ≡ Some r → r.joined < number → ((h : ℕ) → swapped_at p ≡ Some h → number ≤ h → 1 ≤ untaken k p) × (number ≤ r.published → ⊥)

absent : {A : Type 0} (o : Option ℕ) (h : ℕ) → o ≡ None → o ≡ Some h → A
absent o h none some = let e : None ≡ Some h = sym none ∙ some in absurd (cc)

-- the slot stays, and the new place is past no swap
plain_due : (k number : ℕ) (t : Option Slot) (p u : Place) → swapped_at u ≡ None → OwnDue k number t p → OwnDue k number t u
plain_due k number t p u none old r e more = (λ h is. absent _ h none is, (old r e more).1)

post_due : (z : About) (own : Option ℕ) (k number q j : ℕ) (failed : Option ℕ) (t : Option Slot) (p : Place) → MayPost z own q j failed p → (1 ≤ taken_by (Mor q j failed) p k → ⊥) → OwnDue k number t p → OwnDue k number t (posted z j failed p)
post_due z own k number q j None t (Some (Posting i x r)) ok left old = plain_due k number t (Some (Posting i x r)) (posted z j None (Some (Posting i x r))) (either_way (λ (u : Place). swapped_at u ≡ None) (eqb (r + 1) z.procs) (Some (Numbering i x)) (Some (Posting i x (r + 1))) refl refl) old
post_due z own k number q j None t (Some (Keeping h found failed done)) ok left old = old
post_due z own k number q j (Some failed) t (Some (Taking h found)) ok left old = λ r e more. (
  λ g is up. let a = (old r e more).0 g is up in ⊎_elim
      (λ (none : bit_at failed k ≡ 0). absurd (left (let b : takes found failed k ≡ bit_at found k = ap (λ (n : ℕ). cond (eqb n 0) (bit_at found k) 0) none in omega arith)))
      (λ (one : bit_at failed k ≡ 1). omega arith)
      (bit_cases failed k),
  (old r e more).1,
)
post_due z own k number q j None t p ok left old = absurd ok
post_due z own k number q j (Some failed) t p ok left old = absurd ok

prod_due : (z : About) (own : Option ℕ) (k number q : ℕ) (t : Option Slot) (p : Place) → MayProd own q p → OwnDue k number t p → OwnDue k number t (prodded z p)
prod_due z own k number q t (Some (Prodding r)) ok old = plain_due k number t (Some (Prodding r)) (told z r) (either_way (λ (u : Place). swapped_at u ≡ None) (eqb (r + 1) z.procs) None (Some (Telling (r + 1))) refl refl) old
prod_due z own k number q t (Some (Reminding h found failed j)) ok old = either_way (λ (u : Place). OwnDue k number t u) (nat_lt failed (2 ^ (j + 1))) None (Some (Keeping h found failed (j + 1))) (plain_due k number t (Some (Reminding h found failed j)) None refl old) old
prod_due z own k number q t p ok old = absurd ok

begun_plain : (c : Call) (n : ℕ) → swapped_at (Rattle.signal_core.specs.Machine.begun c n) ≡ None
begun_plain (call.Emit j x) n = either_way (λ (u : Place). swapped_at u ≡ None) (nat_lt n Rattle.signal_core.specs.Words.worn) (Some (Posting j x 0)) None refl refl
begun_plain call.Join n = refl
begun_plain call.Leave n = refl
begun_plain call.Absorb n = refl
begun_plain (call.Published q) n = refl

headed_plain : (n : ℕ) (p : Place) → MayRead p → swapped_at (headed n p) ≡ None
headed_plain n (Some Reading) ok = refl
headed_plain n (Some (Heading g)) ok = either_way (λ (u : Place). swapped_at u ≡ None) (eqb n g) None (Some (Swapping n)) refl refl
headed_plain n p ok = absurd ok

numbered_plain : (p : Place) → MayNumber p → swapped_at (Rattle.signal_core.specs.Machine.numbered p) ≡ None
numbered_plain (Some (Numbering j x)) ok = refl
numbered_plain p ok = absurd ok

looked_plain : (z : About) (q n : ℕ) (p : Place) → MayTell q p → swapped_at (looked z n p) ≡ None
looked_plain z q n (Some (Telling r)) ok = by_case (eqb n 0)
  where
    then_told : (b : Bool) → swapped_at (cond b None (Some (Telling (r + 1)))) ≡ None
    then_told true = refl
    then_told false = refl

    by_case : (b : Bool) → swapped_at (cond b (told z r) (Some (Prodding r))) ≡ None
    by_case true = then_told (eqb (r + 1) z.procs)
    by_case false = refl
looked_plain z q n p ok = absurd ok

pub own_due : (shows : ℕ → ℕ → Type 0) (z : About) (words : List ℕ) (o : ℕ) (x : SigStep) (n k number : ℕ) (t : Option Slot) (p : Place) → n ≡ get_or words (word_of o x) 0 → PlaceFits z t p → Permits shows z x (Some o) t p → (1 ≤ taken_by x p k → ⊥) → 1 ≤ bit_at (get_or words (mask_at o) 0) k + waits k p
    → OwnDue k number t p → OwnDue k number (slot_after x p t) (place_after z x n p)
own_due shows z words o (Hload (Some c)) n k number t p is fits ok left some old = plain_due k number t p (Rattle.signal_core.specs.Machine.begun c n) (begun_plain c n) old
own_due shows z words o (Hload None) n k number t p is fits ok left some old = plain_due k number t p (headed n p) (headed_plain n p ok) old
own_due shows z words o Hadd n k number t p is fits ok left some old = plain_due k number t p (Rattle.signal_core.specs.Machine.numbered p) (numbered_plain p ok) old
own_due shows z words o (Mor q j failed) n k number t p is fits ok left some old = post_due z (Some o) k number q j failed t p ok.2 left old
own_due shows z words o (Mswap (Some c)) n k number t p is fits ok left some old = plain_due k number t p (Some Reading) refl old
own_due shows z words o (Mswap None) n k number t (Some (Swapping h)) is fits ok left some old = λ r e more. (λ g same up. let a : bit_at n k ≡ bit_at (get_or words (mask_at o) 0) k = ap (λ (m : ℕ). bit_at m k) is in omega arith, (old r e more).1)
own_due shows z words o (Mswap None) n k number t p is fits ok left some old = absurd ok
own_due shows z words o (Gstore g (Some c)) n k number t p is fits ok left some old = λ r e more. absurd (let a : None ≡ Some r = e in cc)
own_due shows z words o (Gstore g None) n k number t (Some (Opening h)) is fits ok left some old = plain_due k number t (Some (Opening h)) (Some (Entering h)) refl old
own_due shows z words o (Gstore g None) n k number (Some t) (Some (Taking h found)) is fits ok left some old = λ r e more. (
  λ f same up. absent _ f refl same,
  λ up. left (
      let c : record { joined = t.joined; published = h } ≡ r = cc in let j : t.joined ≡ r.joined = ap (λ (y : Slot). y.joined) c in let q : h ≡ r.published = ap (λ (y : Slot). y.published) c in
      let a = (old t refl (omega arith)).0 h refl (omega arith) in let b : takes found 0 k ≡ bit_at found k = ap (λ (m : ℕ). cond (eqb m 0) (bit_at found k) 0) (bit_at-zero k) in omega arith),
)
own_due shows z words o (Gstore g None) n k number None (Some (Taking h found)) is fits ok left some old = absurd fits
own_due shows z words o (Gstore g None) n k number t p is fits ok left some old = absurd ok
own_due shows z words o (Gload q (Some c)) n k number t p is fits ok left some old = old
own_due shows z words o (Gload q None) n k number t p is fits ok left some old = plain_due k number t p (compared n p) (ap (λ (u : Place). swapped_at (compared n u)) ok.1) old
own_due shows z words o (Pstore y) n k number t (Some (Entering h)) is fits ok left some old = λ r e more. (
  λ f same up. absent _ f refl same,
  λ up.
      let c : record { joined = h; published = h } ≡ r = cc in let j : h ≡ r.joined = ap (λ (y : Slot). y.joined) c in let q : h ≡ r.published = ap (λ (y : Slot). y.published) c in omega arith,
)
own_due shows z words o (Pstore y) n k number t (Some Leaving) is fits ok left some old = plain_due k number t (Some Leaving) None refl old
own_due shows z words o (Pstore y) n k number t p is fits ok left some old = absurd ok
own_due shows z words o (Pload q) n k number t p is fits ok left some old = plain_due k number t p (looked z n p) (looked_plain z q n p ok.1) old
own_due shows z words o (Pend q) n k number t p is fits ok left some old = prod_due z (Some o) k number q t p ok.1 old
own_due shows z words o (Pswap c) n k number t p is fits ok left some old = plain_due k number t p (cond (eqb n 0) None (Some Comparing)) (either_way (λ (u : Place). swapped_at u ≡ None) (eqb n 0) None (Some Comparing) refl refl) old
