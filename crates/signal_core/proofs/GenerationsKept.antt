-- Each step keeps what is said of generations.
use Rattle.std.proofs.Common.{◌≡◌, ◌≢◌, ◌⊎◌, ℕ, zero, suc, ◌+◌, ◌-◌, ◌^◌, ◌<◌, ◌≤◌, eqb, nat_lt, Bool, true, false, cond, List, [], ◌∷◌, length, get_or, set, Option, None, Some, refl, sym, ap, ◌∙◌, subst, ⊎_elim, inl, inr, arith, eqb-true, eq-eqb, ne_eqb, get_or-set_same, get_or-set_other}
use Rattle.std.proofs.lemmas.Bool.{eqb-false}
use Rattle.std.proofs.lemmas.Bool.Decides.{nat_tests}
use mathlib.Core.Logic.{dite}
use mathlib.Core.Option as maybe
use native.Mathlib.Decide.{ℕ_discrete}
use lib.ListN.{get_elem?}
use lib.Seq.{set-get_or}
use Rattle.atomic_table.proofs.Lists.{at_set}
use Rattle.seat_roster.specs.Totals.{total}
use Rattle.seat_roster.proofs.Totals.{total_set, total_none}
use Rattle.signal_core.specs.declared.step.Call.{Call}
use Rattle.signal_core.specs.declared.step.Call.TheVariants as call
use Rattle.signal_core.specs.declared.step.SigStep.{SigStep}
use Rattle.signal_core.specs.declared.step.SigStep.TheVariants.{Hload, Hadd, Mor, Mswap, Gstore, Gload, Pstore, Pload, Pend, Pswap}
use Rattle.signal_core.specs.declared.view.Frame.TheVariants.{Reading, Opening, Entering, Leaving, Posting, Numbering, Telling, Prodding, Comparing, Heading, Swapping, Taking, Keeping, Reminding}
use Rattle.signal_core.specs.declared.view.Slot.{Slot}
use Rattle.signal_core.specs.declared.view.About.{About}
use Rattle.signal_core.specs.Words.{header_at, pid_at, gen_at, mask_at, pend_at, gone, worn}
use Rattle.signal_core.specs.Machine.{Place, word_of, becomes, begun, headed, numbered, posted, swapped, opened, compared, told, looked, prodded, place_after, slot_after, MayRead, MayNumber, MayPost, MaySwap, MayStore, MayTell, MayProd, Permits}
use Rattle.signal_core.specs.Seating.{Stance}
use Rattle.signal_core.specs.Places.{gen_of}
use Rattle.signal_core.specs.PlacesFit.{PlaceFits}
use Rattle.signal_core.specs.GenerationsStand.{shortfall, short_of, SlotStands, IsAhead, IsPublished, PlaceStands, is_emitting, emitting, GenerationsStand}
use Rattle.signal_core.proofs.Effects.{turned}
use Rattle.signal_core.specs.Told.{gen_then}
use Rattle.signal_core.proofs.Moves.{Move}
use Rattle.signal_core.proofs.EitherWay.{either_way}

-- one member alone adds to a total
pub total_lone : {A : Type 0} (f : A → ℕ) (l : List A) (i : ℕ) (v : A) → get_elem? l i ≡ maybe.some v → ((j : ℕ) (u : A) → get_elem? l j ≡ maybe.some u → j ≢ i → f u ≡ 0) → total f l ≡ f v
total_lone f [] i v e none = absurd (maybe.some-ne-none v (sym e))
total_lone f (x ∷ xs) zero v e none = let a : f x ≡ f v = ap f (maybe.some-injective x v e) in let b = total_none f xs (λ j u at. none (suc j) u at (λ z. absurd (omega arith))) in omega arith
total_lone f (x ∷ xs) (suc i) v e none = let a = none 0 x refl (λ z. absurd (omega arith)) in let b = total_lone f xs i v e (λ j u at ne. none (suc j) u at (λ z. ne (omega arith))) in omega arith

pub total_most : {A : Type 0} (f : A → ℕ) (l : List A) → ((v : A) → f v ≤ 1) → total f l ≤ length l
total_most f [] h = omega arith
total_most f (x ∷ xs) h = let a = h x in let b = total_most f xs h in omega arith

emits_one : (p : Place) → is_emitting p ≤ 1
emits_one None = omega arith
emits_one (Some (Posting k x q)) = omega arith
emits_one (Some (Numbering k x)) = omega arith
emits_one (Some f) = omega arith

short_mine : (o : ℕ) (own : Option ℕ) (g : ℕ) → own ≡ Some o → shortfall o own g ≡ gone - g
short_mine o own g e = subst (λ (y : Option ℕ). shortfall o y g ≡ gone - g) (sym e) (by_case (eqb o o) (eq-eqb o o refl))
  where
    by_case : (b : Bool) → b ≡ true → cond b (gone - g) 0 ≡ gone - g
    by_case true is = refl
    by_case false is = absurd (cc)

short_else : (s o : ℕ) (own : Option ℕ) (g : ℕ) → own ≡ Some o → s ≢ o → shortfall s own g ≡ 0
short_else s o own g e ne = subst (λ (y : Option ℕ). shortfall s y g ≡ 0) (sym e) (by_case (eqb o s) (ne_eqb o s (λ x. ne (sym x))))
  where
    by_case : (b : Bool) → b ≡ false → cond b (gone - g) 0 ≡ 0
    by_case false is = refl
    by_case true is = absurd (cc)

short_none : (s : ℕ) (own : Option ℕ) (g : ℕ) → (own ≡ Some s → ⊥) → shortfall s own g ≡ 0
short_none s None g never = refl
short_none s (Some p) g never = by_case (eqb p s) refl
  where
    by_case : (b : Bool) → eqb p s ≡ b → cond b (gone - g) 0 ≡ 0
    by_case false is = refl
    by_case true is = absurd (never (ap Some (eqb-true p s is)))

-- a higher header
slot_up : (a b : ℕ) (t : Option Slot) → a ≤ b → SlotStands a t → SlotStands b t
slot_up a b None le h = tt
slot_up a b (Some t) le h = (h.0, omega arith)

ahead_up : (a b h : ℕ) (t : Option Slot) → a ≤ b → IsAhead a h t → IsAhead b h t
ahead_up a b h None le is = tt
ahead_up a b h (Some t) le is = (is.0, omega arith)

place_up : (a b : ℕ) (t : Option Slot) (p : Place) → a ≤ b → PlaceStands a t p → PlaceStands b t p
place_up a b t (Some (Opening h)) le is = omega arith
place_up a b t (Some (Entering h)) le is = omega arith
place_up a b t (Some (Heading g)) le is = is
place_up a b t (Some (Swapping h)) le is = ahead_up a b h t le is
place_up a b t (Some (Taking h found)) le is = ahead_up a b h t le is
place_up a b t (Some (Keeping h found failed done)) le is = ahead_up a b h t le is
place_up a b t (Some (Reminding h found failed k)) le is = ahead_up a b h t le is
place_up a b t None le is = tt
place_up a b t (Some p) le is = tt

-- THE GENERATION of the seat: it stores this, or its word stands
abbrev Stores : ℕ → SigStep → ℕ → ℕ → Type 0
Stores o x n g = (word_of o x ≡ gen_at o) × (becomes x n ≡ g) × (g ≤ gone)

abbrev GenSays : List ℕ → ℕ → SigStep → ℕ → Option Slot → Place → Option Slot → Place → Type 0
GenSays words o x n t p r u = Stores o x n (gen_of r u) ⊎ ((gen_of r u ≡ gen_of t p) × ((s : ℕ) → get_or (set words (word_of o x) (becomes x n)) (gen_at s) 0 ≡ get_or words (gen_at s) 0))

same_gen : (t : Option Slot) (p u : Place) → gen_of None p ≡ gone → gen_of None u ≡ gone → gen_of t u ≡ gen_of t p
same_gen None p u a b = b ∙ sym a
same_gen (Some t) p u a b = refl

module _ (words : List ℕ) (o : ℕ) (x : SigStep) (n : ℕ) where
  other_word : ((s : ℕ) → gen_at s ≢ word_of o x) → (s : ℕ) → get_or (set words (word_of o x) (becomes x n)) (gen_at s) 0 ≡ get_or words (gen_at s) 0
  other_word apart s = get_or-set_other words (word_of o x) (gen_at s) (becomes x n) 0 (apart s)

begun_gone : (c : Call) (n : ℕ) → gen_of None (begun c n) ≡ gone
begun_gone (call.Emit j x) n = either_way (λ (u : Place). gen_of None u ≡ gone) (nat_lt n worn) (Some (Posting j x 0)) None refl refl
begun_gone call.Join n = refl
begun_gone call.Leave n = refl
begun_gone call.Absorb n = refl
begun_gone (call.Published q) n = refl

-- a place at which a seat with never slot has the generation `gone`, before and after
abbrev BothGone : Place → Place → Type 0
BothGone p u = (gen_of None p ≡ gone) × (gen_of None u ≡ gone)

headed_gone : (n : ℕ) (p : Place) → MayRead p → BothGone p (headed n p)
headed_gone n (Some Reading) ok = (refl, refl)
headed_gone n (Some (Heading g)) ok = (refl, either_way (λ (u : Place). gen_of None u ≡ gone) (eqb n g) None (Some (Swapping n)) refl refl)
headed_gone n p ok = absurd ok

numbered_gone : (p : Place) → MayNumber p → BothGone p (numbered p)
numbered_gone (Some (Numbering j x)) ok = (refl, refl)
numbered_gone p ok = absurd ok

swapped_gone : (n : ℕ) (p : Place) → MaySwap p → BothGone p (swapped n p)
swapped_gone n (Some (Swapping h)) ok = (refl, refl)
swapped_gone n p ok = absurd ok

told_gone : (z : About) (q : ℕ) → gen_of None (told z q) ≡ gone
told_gone z q = either_way (λ (u : Place). gen_of None u ≡ gone) (eqb (q + 1) z.procs) None (Some (Telling (q + 1))) refl refl

looked_gone : (z : About) (q n : ℕ) (p : Place) → MayTell q p → BothGone p (looked z n p)
looked_gone z q n (Some (Telling r)) ok = (refl, either_way (λ (u : Place). gen_of None u ≡ gone) (eqb n 0) (told z r) (Some (Prodding r)) (told_gone z r) refl)
looked_gone z q n p ok = absurd ok

posted_gone : (z : About) (own : Option ℕ) (q j : ℕ) (failed : Option ℕ) (p : Place) → MayPost z own q j failed p → BothGone p (posted z j failed p)
posted_gone z own q j None (Some (Posting i x r)) ok = (refl, either_way (λ (u : Place). gen_of None u ≡ gone) (eqb (r + 1) z.procs) (Some (Numbering i x)) (Some (Posting i x (r + 1))) refl refl)
posted_gone z own q j None (Some (Keeping h found failed done)) ok = (refl, refl)
posted_gone z own q j (Some failed) (Some (Taking h found)) ok = (refl, refl)
posted_gone z own q j None p ok = absurd ok
posted_gone z own q j (Some failed) p ok = absurd ok

prodded_gone : (z : About) (own : Option ℕ) (q : ℕ) (p : Place) → MayProd own q p → BothGone p (prodded z p)
prodded_gone z own q (Some (Prodding r)) ok = (refl, told_gone z r)
prodded_gone z own q (Some (Reminding h found failed j)) ok = (refl, either_way (λ (u : Place). gen_of None u ≡ gone) (nat_lt failed (2 ^ (j + 1))) None (Some (Keeping h found failed (j + 1))) refl refl)
prodded_gone z own q p ok = absurd ok

gen_says : (shows : ℕ → ℕ → Type 0) (z : About) (words : List ℕ) (o : ℕ) (x : SigStep) (n : ℕ) (t : Option Slot) (p : Place) → PlaceFits z t p → n ≡ get_or words (word_of o x) 0 → Permits shows z x (Some o) t p → PlaceStands (get_or words header_at 0) t p → get_or words header_at 0 ≤ gone
    → GenSays words o x n t p (slot_after x p t) (place_after z x n p)
gen_says shows z words o (Hload (Some c)) n t p fits is ok read low = inr (same_gen t p (begun c n) (ap (gen_of None) ok.1) (begun_gone c n), other_word words o (Hload (Some c)) n (λ s e. omega arith))
gen_says shows z words o (Hload None) n t p fits is ok read low = let a = headed_gone n p ok in inr (same_gen t p (headed n p) a.0 a.1, other_word words o (Hload None) n (λ s e. omega arith))
gen_says shows z words o Hadd n t p fits is ok read low = let a = numbered_gone p ok in inr (same_gen t p (numbered p) a.0 a.1, other_word words o Hadd n (λ s e. omega arith))
gen_says shows z words o (Mor q j failed) n t p fits is ok read low = let a = posted_gone z (Some o) q j failed p ok.2 in inr (same_gen t p (posted z j failed p) a.0 a.1, other_word words o (Mor q j failed) n (λ s e. omega arith))
gen_says shows z words o (Mswap (Some c)) n t p fits is ok read low = inr (same_gen t p (Some Reading) (ap (gen_of None) ok.1) refl, other_word words o (Mswap (Some c)) n (λ s e. omega arith))
gen_says shows z words o (Mswap None) n t p fits is ok read low = let a = swapped_gone n p ok in inr (same_gen t p (swapped n p) a.0 a.1, other_word words o (Mswap None) n (λ s e. omega arith))
gen_says shows z words o (Gstore g (Some c)) n t p fits is ok read low = inl (refl, ok.1, omega arith)
gen_says shows z words o (Gstore g None) n t (Some (Opening h)) fits is ok read low = subst (λ (r : Option Slot). GenSays words o (Gstore g None) n r (Some (Opening h)) r (Some (Entering h))) (sym fits) (inl (refl, sym ok, omega arith))
gen_says shows z words o (Gstore g None) n (Some t) (Some (Taking h found)) fits is ok read low = inl (refl, sym ok, (let a = read.1 in omega arith))
gen_says shows z words o (Gstore g None) n None (Some (Taking h found)) fits is ok read low = absurd fits
gen_says shows z words o (Gstore g None) n t p fits is ok read low = absurd ok
gen_says shows z words o (Gload q (Some c)) n t p fits is ok read low = inr (refl, λ s. ap (λ (m : ℕ). get_or (set words (gen_at q) m) (gen_at s) 0) is ∙ ap (λ (l : List ℕ). get_or l (gen_at s) 0) (set-get_or words (gen_at q) 0))
gen_says shows z words o (Gload q None) n t p fits is ok read low = inr (same_gen t p (compared n p) (ap (gen_of None) ok.1) (ap (λ (u : Place). gen_of None (compared n u)) ok.1), λ s. ap (λ (m : ℕ). get_or (set words (gen_at q) m) (gen_at s) 0) is ∙ ap (λ (l : List ℕ). get_or l (gen_at s) 0) (set-get_or words (gen_at q) 0))
gen_says shows z words o (Pstore y) n t (Some (Entering h)) fits is ok read low = inr (ap (λ (r : Option Slot). h) fits ∙ sym (ap (λ (r : Option Slot). gen_of r (Some (Entering h))) fits), other_word words o (Pstore y) n (λ s e. omega arith))
gen_says shows z words o (Pstore y) n t (Some Leaving) fits is ok read low = inr (same_gen t (Some Leaving) None refl refl, other_word words o (Pstore y) n (λ s e. omega arith))
gen_says shows z words o (Pstore y) n t p fits is ok read low = absurd ok
gen_says shows z words o (Pload q) n t p fits is ok read low = let a = looked_gone z q n p ok.1 in inr (same_gen t p (looked z n p) a.0 a.1, other_word words o (Pload q) n (λ s e. omega arith))
gen_says shows z words o (Pend q) n t p fits is ok read low = let a = prodded_gone z (Some o) q p ok.1 in inr (same_gen t p (prodded z p) a.0 a.1, other_word words o (Pend q) n (λ s e. omega arith))
gen_says shows z words o (Pswap c) n t p fits is ok read low = inr (same_gen t p (cond (eqb n 0) None (Some Comparing)) (ap (gen_of None) ok.1) (either_way (λ (u : Place). gen_of None u ≡ gone) (eqb n 0) None (Some Comparing) refl refl), other_word words o (Pswap c) n (λ s e. omega arith))

-- the generation after the step
pub gen_follows : (shows : ℕ → ℕ → Type 0) (z : About) (o : ℕ) (x : SigStep) (n : ℕ) (t : Option Slot) (p : Place) → PlaceFits z t p → Permits shows z x (Some o) t p → gen_of (slot_after x p t) (place_after z x n p) ≡ gen_then x (gen_of t p)
gen_follows shows z o (Hload (Some c)) n t p fits ok = same_gen t p (begun c n) (ap (gen_of None) ok.1) (begun_gone c n)
gen_follows shows z o (Hload None) n t p fits ok = let a = headed_gone n p ok in same_gen t p (headed n p) a.0 a.1
gen_follows shows z o Hadd n t p fits ok = let a = numbered_gone p ok in same_gen t p (numbered p) a.0 a.1
gen_follows shows z o (Mor q j failed) n t p fits ok = let a = posted_gone z (Some o) q j failed p ok.2 in same_gen t p (posted z j failed p) a.0 a.1
gen_follows shows z o (Mswap (Some c)) n t p fits ok = same_gen t p (Some Reading) (ap (gen_of None) ok.1) refl
gen_follows shows z o (Mswap None) n t p fits ok = let a = swapped_gone n p ok in same_gen t p (swapped n p) a.0 a.1
gen_follows shows z o (Gstore g (Some c)) n t p fits ok = sym ok.1
gen_follows shows z o (Gstore g None) n t (Some (Opening h)) fits ok = subst (λ (r : Option Slot). gen_of r (Some (Entering h)) ≡ g) (sym fits) ok
gen_follows shows z o (Gstore g None) n (Some t) (Some (Taking h found)) fits ok = ok
gen_follows shows z o (Gstore g None) n None (Some (Taking h found)) fits ok = absurd fits
gen_follows shows z o (Gstore g None) n t p fits ok = absurd ok
gen_follows shows z o (Gload q (Some c)) n t p fits ok = refl
gen_follows shows z o (Gload q None) n t p fits ok = same_gen t p (compared n p) (ap (gen_of None) ok.1) (ap (λ (u : Place). gen_of None (compared n u)) ok.1)
gen_follows shows z o (Pstore y) n t (Some (Entering h)) fits ok = sym (ap (λ (r : Option Slot). gen_of r (Some (Entering h))) fits)
gen_follows shows z o (Pstore y) n t (Some Leaving) fits ok = same_gen t (Some Leaving) None refl refl
gen_follows shows z o (Pstore y) n t p fits ok = absurd ok
gen_follows shows z o (Pload q) n t p fits ok = let a = looked_gone z q n p ok.1 in same_gen t p (looked z n p) a.0 a.1
gen_follows shows z o (Pend q) n t p fits ok = let a = prodded_gone z (Some o) q p ok.1 in same_gen t p (prodded z p) a.0 a.1
gen_follows shows z o (Pswap c) n t p fits ok = same_gen t p (cond (eqb n 0) None (Some Comparing)) (ap (gen_of None) ok.1) (either_way (λ (u : Place). gen_of None u ≡ gone) (eqb n 0) None (Some Comparing) refl refl)

-- THE HEADER: one step alone changes it
pub header_same : (shows : ℕ → ℕ → Type 0) (words : List ℕ) (o : ℕ) (x : SigStep) (n : ℕ) → n ≡ get_or words (word_of o x) 0 → (x ≡ Hadd → ⊥) → get_or (set words (word_of o x) (becomes x n)) header_at 0 ≡ get_or words header_at 0
header_same shows words o (Hload c) n is never = ap (λ (m : ℕ). get_or (set words header_at m) header_at 0) is ∙ ap (λ (l : List ℕ). get_or l header_at 0) (set-get_or words header_at 0)
header_same shows words o Hadd n is never = absurd (never refl)
header_same shows words o (Mor q j failed) n is never = get_or-set_other words (mask_at q) header_at _ 0 (λ e. omega arith)
header_same shows words o (Mswap c) n is never = get_or-set_other words (mask_at o) header_at _ 0 (λ e. omega arith)
header_same shows words o (Gstore g c) n is never = get_or-set_other words (gen_at o) header_at _ 0 (λ e. omega arith)
header_same shows words o (Gload q c) n is never = get_or-set_other words (gen_at q) header_at _ 0 (λ e. omega arith)
header_same shows words o (Pstore y) n is never = get_or-set_other words (pid_at o) header_at _ 0 (λ e. omega arith)
header_same shows words o (Pload q) n is never = get_or-set_other words (pid_at q) header_at _ 0 (λ e. omega arith)
header_same shows words o (Pend q) n is never = get_or-set_other words (pend_at q) header_at _ 0 (λ e. omega arith)
header_same shows words o (Pswap c) n is never = get_or-set_other words (pend_at o) header_at _ 0 (λ e. omega arith)

header_up : (shows : ℕ → ℕ → Type 0) (words : List ℕ) (o : ℕ) (x : SigStep) (n : ℕ) → n ≡ get_or words (word_of o x) 0 → header_at < length words → get_or words header_at 0 ≤ get_or (set words (word_of o x) (becomes x n)) header_at 0
header_up shows words o Hadd n is wide = let a = get_or-set_same words header_at (n + 1) 0 wide in omega arith
header_up shows words o (Hload c) n is wide = let a = header_same shows words o (Hload c) n is (λ e. absurd (cc)) in omega arith
header_up shows words o (Mor q j failed) n is wide = let a = header_same shows words o (Mor q j failed) n is (λ e. absurd (cc)) in omega arith
header_up shows words o (Mswap c) n is wide = let a = header_same shows words o (Mswap c) n is (λ e. absurd (cc)) in omega arith
header_up shows words o (Gstore g c) n is wide = let a = header_same shows words o (Gstore g c) n is (λ e. absurd (cc)) in omega arith
header_up shows words o (Gload q c) n is wide = let a = header_same shows words o (Gload q c) n is (λ e. absurd (cc)) in omega arith
header_up shows words o (Pstore y) n is wide = let a = header_same shows words o (Pstore y) n is (λ e. absurd (cc)) in omega arith
header_up shows words o (Pload q) n is wide = let a = header_same shows words o (Pload q) n is (λ e. absurd (cc)) in omega arith
header_up shows words o (Pend q) n is wide = let a = header_same shows words o (Pend q) n is (λ e. absurd (cc)) in omega arith
header_up shows words o (Pswap c) n is wide = let a = header_same shows words o (Pswap c) n is (λ e. absurd (cc)) in omega arith

-- WHAT THE SEAT HAS READ
read_on : (n header : ℕ) (t : Option Slot) (p : Place) → MayRead p → n ≡ header → SlotStands header t → PlaceStands header t p → PlaceStands header t (headed n p)
read_on n header t (Some Reading) ok is slot read = omega arith
read_on n header None (Some (Heading g)) ok is slot read = either_way (λ (u : Place). PlaceStands header None u) (eqb n g) None (Some (Swapping n)) tt tt
read_on n header (Some t) (Some (Heading g)) ok is slot read = by_case (eqb n g) refl
  where
    by_case : (b : Bool) → eqb n g ≡ b → PlaceStands header (Some t) (cond b None (Some (Swapping n)))
    by_case true e = tt
    by_case false e = let ne = eqb-false n g e in let a = slot.1 in (dite (ℕ_discrete n t.published) (λ same. absurd (ne (same ∙ sym read))) (λ apart. omega arith), omega arith)
read_on n header t p ok is slot read = absurd ok

begun_on : (header : ℕ) (t : Option Slot) (c : Call) (n : ℕ) → PlaceStands header t (begun c n)
begun_on header t (call.Emit j x) n = either_way (λ (u : Place). PlaceStands header t u) (nat_lt n worn) (Some (Posting j x 0)) None tt tt
begun_on header t call.Join n = tt
begun_on header t call.Leave n = tt
begun_on header t call.Absorb n = tt
begun_on header t (call.Published q) n = tt

numbered_on : (header : ℕ) (t : Option Slot) (p : Place) → MayNumber p → PlaceStands header t (numbered p)
numbered_on header t (Some (Numbering j x)) ok = tt
numbered_on header t p ok = absurd ok

post_read : (z : About) (own : Option ℕ) (header q j : ℕ) (failed : Option ℕ) (t : Option Slot) (p : Place) → MayPost z own q j failed p → PlaceStands header t p → PlaceStands header t (posted z j failed p)
post_read z own header q j None t (Some (Posting i x r)) ok read = either_way (λ (u : Place). PlaceStands header t u) (eqb (r + 1) z.procs) (Some (Numbering i x)) (Some (Posting i x (r + 1))) tt tt
post_read z own header q j None t (Some (Keeping h found failed done)) ok read = read
post_read z own header q j (Some failed) t (Some (Taking h found)) ok read = read
post_read z own header q j None t p ok read = absurd ok
post_read z own header q j (Some failed) t p ok read = absurd ok

told_on : (z : About) (header q : ℕ) (t : Option Slot) → PlaceStands header t (told z q)
told_on z header q t = either_way (λ (u : Place). PlaceStands header t u) (eqb (q + 1) z.procs) None (Some (Telling (q + 1))) tt tt

looked_on : (z : About) (header q n : ℕ) (t : Option Slot) (p : Place) → MayTell q p → PlaceStands header t (looked z n p)
looked_on z header q n t (Some (Telling r)) ok = either_way (λ (u : Place). PlaceStands header t u) (eqb n 0) (told z r) (Some (Prodding r)) (told_on z header r t) tt
looked_on z header q n t p ok = absurd ok

prod_read : (z : About) (own : Option ℕ) (header q : ℕ) (t : Option Slot) (p : Place) → MayProd own q p → PlaceStands header t p → PlaceStands header t (prodded z p)
prod_read z own header q t (Some (Prodding r)) ok read = told_on z header r t
prod_read z own header q t (Some (Reminding h found failed j)) ok read = either_way (λ (u : Place). PlaceStands header t u) (nat_lt failed (2 ^ (j + 1))) None (Some (Keeping h found failed (j + 1))) tt read
prod_read z own header q t p ok read = absurd ok

-- of the seat, under the header as it was. Its own word is the published generation
pub reads_on : (shows : ℕ → ℕ → Type 0) (z : About) (words : List ℕ) (o : ℕ) (x : SigStep) (n : ℕ) (t : Option Slot) (p : Place) → PlaceFits z t p → n ≡ get_or words (word_of o x) 0 → Permits shows z x (Some o) t p → IsPublished (get_or words (gen_at o) 0) t → SlotStands (get_or words header_at 0) t → PlaceStands (get_or words header_at 0) t p
    → SlotStands (get_or words header_at 0) (slot_after x p t) × PlaceStands (get_or words header_at 0) (slot_after x p t) (place_after z x n p)
reads_on shows z words o (Hload (Some c)) n t p fits is ok mine slot read = (slot, begun_on _ t c n)
reads_on shows z words o (Hload None) n t p fits is ok mine slot read = (slot, read_on n _ t p ok is slot read)
reads_on shows z words o Hadd n t p fits is ok mine slot read = (slot, numbered_on _ t p ok)
reads_on shows z words o (Mor q j failed) n t p fits is ok mine slot read = (slot, post_read z (Some o) _ q j failed t p ok.2 read)
reads_on shows z words o (Mswap (Some c)) n t p fits is ok mine slot read = (slot, tt)
reads_on shows z words o (Mswap None) n t (Some (Swapping h)) fits is ok mine slot read = (slot, read)
reads_on shows z words o (Mswap None) n t p fits is ok mine slot read = absurd ok
reads_on shows z words o (Gstore g (Some c)) n t p fits is ok mine slot read = (tt, tt)
reads_on shows z words o (Gstore g None) n t (Some (Opening h)) fits is ok mine slot read = (slot, read)
reads_on shows z words o (Gstore g None) n (Some t) (Some (Taking h found)) fits is ok mine slot read = ((let a = read.0 in let b = slot.0 in (omega arith, read.1)), tt)
reads_on shows z words o (Gstore g None) n None (Some (Taking h found)) fits is ok mine slot read = absurd fits
reads_on shows z words o (Gstore g None) n t p fits is ok mine slot read = absurd ok
reads_on shows z words o (Gload q (Some c)) n t p fits is ok mine slot read = (slot, read)
reads_on shows z words o (Gload q None) n t p fits is ok mine slot read = (slot, subst (λ (u : Place). PlaceStands (get_or words header_at 0) t (compared n u)) (sym ok.1) (subst (λ (m : ℕ). IsPublished m t) (sym (is ∙ ap (λ (c : ℕ). get_or words (gen_at c) 0) (let e : Some o ≡ Some q = ok.0 in let f : q ≡ o = cc in f))) mine))
reads_on shows z words o (Pstore y) n t (Some (Entering h)) fits is ok mine slot read = ((omega arith, read), tt)
reads_on shows z words o (Pstore y) n t (Some Leaving) fits is ok mine slot read = (slot, tt)
reads_on shows z words o (Pstore y) n t p fits is ok mine slot read = absurd ok
reads_on shows z words o (Pload q) n t p fits is ok mine slot read = (slot, looked_on z _ q n t p ok.1)
reads_on shows z words o (Pend q) n t p fits is ok mine slot read = (slot, prod_read z (Some o) _ q t p ok.1 read)
reads_on shows z words o (Pswap c) n t p fits is ok mine slot read = (slot, either_way (λ (u : Place). PlaceStands (get_or words header_at 0) t u) (eqb n 0) None (Some Comparing) tt tt)

-- WHO EMITS
abbrev EmitSays : ℕ → ℕ → ℕ → ℕ → Type 0
EmitSays header new p u = (new + u ≤ header + p) ⊎ ((header < worn) × (new ≡ header))

begun_emits : (c : Call) (n : ℕ) → (is_emitting (begun c n) ≡ 0) ⊎ (n < worn)
begun_emits (call.Emit j x) n = by_case (nat_lt n worn) refl
  where
    by_case : (b : Bool) → nat_lt n worn ≡ b → (is_emitting (cond b (Some (Posting j x 0)) None) ≡ 0) ⊎ (n < worn)
    by_case true e = inr (grind (arith, nat_tests, e))
    by_case false e = inl refl
begun_emits call.Join n = inl refl
begun_emits call.Leave n = inl refl
begun_emits call.Absorb n = inl refl
begun_emits (call.Published q) n = inl refl

headed_emits : (n : ℕ) (p : Place) → MayRead p → is_emitting (headed n p) ≡ 0
headed_emits n (Some Reading) ok = refl
headed_emits n (Some (Heading g)) ok = either_way (λ (u : Place). is_emitting u ≡ 0) (eqb n g) None (Some (Swapping n)) refl refl
headed_emits n p ok = absurd ok

numbered_emits : (p : Place) → MayNumber p → (is_emitting p ≡ 1) × (is_emitting (numbered p) ≡ 0)
numbered_emits (Some (Numbering j x)) ok = (refl, refl)
numbered_emits p ok = absurd ok

post_emits : (z : About) (own : Option ℕ) (q j : ℕ) (failed : Option ℕ) (p : Place) → MayPost z own q j failed p → is_emitting (posted z j failed p) ≤ is_emitting p
post_emits z own q j None (Some (Posting i x r)) ok = emits_one (posted z j None (Some (Posting i x r)))
post_emits z own q j None (Some (Keeping h found failed done)) ok = omega arith
post_emits z own q j (Some failed) (Some (Taking h found)) ok = omega arith
post_emits z own q j None p ok = absurd ok
post_emits z own q j (Some failed) p ok = absurd ok

swapped_emits : (n : ℕ) (p : Place) → MaySwap p → is_emitting (swapped n p) ≡ 0
swapped_emits n (Some (Swapping h)) ok = refl
swapped_emits n p ok = absurd ok

opened_emits : (g : ℕ) (p : Place) → MayStore g p → is_emitting (opened p) ≡ 0
opened_emits g (Some (Opening h)) ok = refl
opened_emits g (Some (Taking h found)) ok = refl
opened_emits g p ok = absurd ok

told_emits : (z : About) (q : ℕ) → is_emitting (told z q) ≡ 0
told_emits z q = either_way (λ (u : Place). is_emitting u ≡ 0) (eqb (q + 1) z.procs) None (Some (Telling (q + 1))) refl refl

looked_emits : (z : About) (q n : ℕ) (p : Place) → MayTell q p → is_emitting (looked z n p) ≡ 0
looked_emits z q n (Some (Telling r)) ok = either_way (λ (u : Place). is_emitting u ≡ 0) (eqb n 0) (told z r) (Some (Prodding r)) (told_emits z r) refl
looked_emits z q n p ok = absurd ok

prod_emits : (z : About) (own : Option ℕ) (q : ℕ) (p : Place) → MayProd own q p → is_emitting (prodded z p) ≡ 0
prod_emits z own q (Some (Prodding r)) ok = told_emits z r
prod_emits z own q (Some (Reminding h found failed j)) ok = either_way (λ (u : Place). is_emitting u ≡ 0) (nat_lt failed (2 ^ (j + 1))) None (Some (Keeping h found failed (j + 1))) refl refl
prod_emits z own q p ok = absurd ok

none_le : (a b p u : ℕ) → a ≡ b → u ≡ 0 → EmitSays b a p u
none_le a b p u e none = inl (omega arith)

pub emits_say : (shows : ℕ → ℕ → Type 0) (z : About) (words : List ℕ) (o : ℕ) (x : SigStep) (n : ℕ) (t : Option Slot) (p : Place) → header_at < length words → n ≡ get_or words (word_of o x) 0 → Permits shows z x (Some o) t p
    → EmitSays (get_or words header_at 0) (get_or (set words (word_of o x) (becomes x n)) header_at 0) (is_emitting p) (is_emitting (place_after z x n p))
emits_say shows z words o (Hload (Some c)) n t p wide is ok = let a = header_same shows words o (Hload (Some c)) n is (λ e. absurd (cc)) in ⊎_elim (none_le _ _ _ _ a) (λ (less : n < worn). inr (omega arith, a)) (begun_emits c n)
emits_say shows z words o (Hload None) n t p wide is ok = none_le _ _ _ _ (header_same shows words o (Hload None) n is (λ e. absurd (cc))) (headed_emits n p ok)
emits_say shows z words o Hadd n t p wide is ok = let a = get_or-set_same words header_at (n + 1) 0 wide in let b = numbered_emits p ok in let c = b.0 in let d = b.1 in inl (omega arith)
emits_say shows z words o (Mor q j failed) n t p wide is ok = let a = header_same shows words o (Mor q j failed) n is (λ e. absurd (cc)) in let b = post_emits z (Some o) q j failed p ok.2 in inl (omega arith)
emits_say shows z words o (Mswap (Some c)) n t p wide is ok = none_le _ _ _ _ (header_same shows words o (Mswap (Some c)) n is (λ e. absurd (cc))) refl
emits_say shows z words o (Mswap None) n t p wide is ok = none_le _ _ _ _ (header_same shows words o (Mswap None) n is (λ e. absurd (cc))) (swapped_emits n p ok)
emits_say shows z words o (Gstore g (Some c)) n t p wide is ok = none_le _ _ _ _ (header_same shows words o (Gstore g (Some c)) n is (λ e. absurd (cc))) refl
emits_say shows z words o (Gstore g None) n t p wide is ok = none_le _ _ _ _ (header_same shows words o (Gstore g None) n is (λ e. absurd (cc))) (opened_emits g p ok)
emits_say shows z words o (Gload q (Some c)) n t p wide is ok = let a = header_same shows words o (Gload q (Some c)) n is (λ e. absurd (cc)) in inl (omega arith)
emits_say shows z words o (Gload q None) n t p wide is ok = none_le _ _ _ _ (header_same shows words o (Gload q None) n is (λ e. absurd (cc))) (ap (λ (u : Place). is_emitting (compared n u)) ok.1)
emits_say shows z words o (Pstore y) n t p wide is ok = none_le _ _ _ _ (header_same shows words o (Pstore y) n is (λ e. absurd (cc))) refl
emits_say shows z words o (Pload q) n t p wide is ok = none_le _ _ _ _ (header_same shows words o (Pload q) n is (λ e. absurd (cc))) (looked_emits z q n p ok.1)
emits_say shows z words o (Pend q) n t p wide is ok = none_le _ _ _ _ (header_same shows words o (Pend q) n is (λ e. absurd (cc))) (prod_emits z (Some o) q p ok.1)
emits_say shows z words o (Pswap c) n t p wide is ok = none_le _ _ _ _ (header_same shows words o (Pswap c) n is (λ e. absurd (cc))) (either_way (λ (u : Place). is_emitting u ≡ 0) (eqb n 0) None (Some Comparing) refl refl)

-- a published generation is below `gone`
gen_low : (header : ℕ) (t : Option Slot) (p : Place) → SlotStands header t → PlaceStands header t p → header ≤ gone → gen_of t p ≤ gone
gen_low header (Some t) p slot read low = let a = slot.1 in omega arith
gen_low header None (Some (Entering h)) slot read low = omega arith
gen_low header None None slot read low = omega arith
gen_low header None (Some f) slot read low = omega arith

-- the word of a slot is the generation of its seat
pub word_of_seat : (procs : ℕ) (words : List ℕ) (seats : List Stance) (o id : ℕ) (v : Stance) → GenerationsStand procs words seats → get_elem? seats id ≡ maybe.some v → v.own ≡ Some o → o < procs
    → ((j : ℕ) (u : Stance) → get_elem? seats j ≡ maybe.some u → u.own ≡ Some o → j ≡ id) → get_or words (gen_at o) 0 ≡ gen_of v.slot v.place
word_of_seat procs words seats o id v h at own below alone =
    let a = h.words_are o below in let b : total (short_of o) seats ≡ short_of o v = total_lone (short_of o) seats id v at (λ j u there ne. short_none o u.own (gen_of u.slot u.place) (λ mine. ne (alone j u there mine))) in
    let c = short_mine o v.own (gen_of v.slot v.place) own in let d = gen_low (get_or words header_at 0) v.slot v.place (h.slots id v at) (h.read id v at) (let e = h.bounded in omega arith) in omega arith

module _ (shows : ℕ → ℕ → Type 0) (z : About) (words : List ℕ) (seats : List Stance) (x : SigStep) (o id n : ℕ) (v : Stance) (m : Move shows z words seats x o id n v) (h : GenerationsStand z.procs words seats) (few : length seats ≤ 64) where
  abbrev now : List ℕ
  now = set words (word_of o x) (becomes x n)

  abbrev later : List Stance
  later = set seats id (turned z x n v)

  low : get_or words header_at 0 ≤ gone
  low = let a = h.bounded in omega arith

  wide_header : header_at < length words
  wide_header = let a = m.wide o m.below in omega arith

  lone : total (short_of o) seats ≡ short_of o v
  lone = total_lone (short_of o) seats id v m.at (λ j u at ne. short_none o u.own (gen_of u.slot u.place) (λ own. ne (m.alone j u at own)))

  -- the own word is what the seat has published
  pub own_word : get_or words (gen_at o) 0 ≡ gen_of v.slot v.place
  own_word = word_of_seat z.procs words seats o id v h m.at m.own m.below m.alone

  pub own_published : (t : Option Slot) → v.slot ≡ t → IsPublished (get_or words (gen_at o) 0) t
  own_published None e = tt
  own_published (Some t) e = own_word ∙ ap (λ (r : Option Slot). gen_of r v.place) e

  mine : SlotStands (get_or words header_at 0) (slot_after x v.place v.slot) × PlaceStands (get_or words header_at 0) (slot_after x v.place v.slot) (place_after z x n v.place)
  mine = reads_on shows z words o x n v.slot v.place m.fits m.is m.ok (own_published v.slot refl) (h.slots id v m.at) (h.read id v m.at)

  up : get_or words header_at 0 ≤ get_or now header_at 0
  up = header_up shows words o x n m.is wide_header

  pub generations_kept : GenerationsStand z.procs now later
  generations_kept = record {
    words_are = λ s below. ⊎_elim
        (λ (st : Stores o x n (gen_of (slot_after x v.place v.slot) (place_after z x n v.place))). stores s below st)
        (λ (st : (gen_of (slot_after x v.place v.slot) (place_after z x n v.place) ≡ gen_of v.slot v.place) × ((s : ℕ) → get_or now (gen_at s) 0 ≡ get_or words (gen_at s) 0)).
        let a = st.1 s in let b = h.words_are s below in let c = total_set (short_of s) seats id v (turned z x n v) m.at in let d : short_of s (turned z x n v) ≡ short_of s v = ap (shortfall s v.own) st.0 in omega arith)
        (gen_says shows z words o x n v.slot v.place m.fits m.is m.ok (h.read id v m.at) low);
    slots = λ j u e. ⊎_elim
        (λ (y : (j ≡ id) × (turned z x n v ≡ u)). subst (λ (c : Stance). SlotStands (get_or now header_at 0) c.slot) y.1 (slot_up _ _ (slot_after x v.place v.slot) up mine.0))
        (λ (y : (j ≢ id) × (get_elem? seats j ≡ maybe.some u)). slot_up _ _ u.slot up (h.slots j u y.1))
        (at_set seats id j (turned z x n v) u e);
    read = λ j u e. ⊎_elim
        (λ (y : (j ≡ id) × (turned z x n v ≡ u)). subst (λ (c : Stance). PlaceStands (get_or now header_at 0) c.slot c.place) y.1 (place_up _ _ (slot_after x v.place v.slot) (place_after z x n v.place) up mine.1))
        (λ (y : (j ≢ id) × (get_elem? seats j ≡ maybe.some u)). place_up _ _ u.slot u.place up (h.read j u y.1))
        (at_set seats id j (turned z x n v) u e);
    bounded = let sum = total_set emitting seats id v (turned z x n v) m.at in let before = h.bounded in ⊎_elim
        (λ less. omega arith)
        (λ (some : (get_or words header_at 0 < worn) × (get_or now header_at 0 ≡ get_or words header_at 0)). let a = some.0 in let b = some.1 in let c = total_most emitting later (λ u. emits_one u.place) in let d = Rattle.std.proofs.Common.length-set seats id (turned z x n v) in omega arith)
        (emits_say shows z words o x n v.slot v.place wide_header m.is m.ok);
  }
    where
      stores : (s : ℕ) → s < z.procs → Stores o x n (gen_of (slot_after x v.place v.slot) (place_after z x n v.place)) → get_or now (gen_at s) 0 + total (short_of s) later ≡ gone
      stores s below st = let c = total_set (short_of s) seats id v (turned z x n v) m.at in let b = h.words_are s below in dite (ℕ_discrete s o)
          (λ is. let g : ℕ = gen_of (slot_after x v.place v.slot) (place_after z x n v.place) in
          let a : get_or now (gen_at s) 0 ≡ g = ap (λ (y : ℕ × ℕ). get_or (set words y.0 y.1) (gen_at s) 0) (λ i. (st.0 i, st.1 i)) ∙ (ap (λ (y : ℕ). get_or (set words (gen_at o) g) (gen_at y) 0) is ∙ get_or-set_same words (gen_at o) g 0 (let w = m.wide o m.below in omega arith)) in
          let d : total (short_of s) seats ≡ short_of o v = ap (λ (y : ℕ). total (short_of y) seats) is ∙ lone in
          let e : short_of s v ≡ short_of o v = ap (λ (y : ℕ). short_of y v) is in
          let f : short_of s (turned z x n v) ≡ gone - g = ap (λ (y : ℕ). short_of y (turned z x n v)) is ∙ short_mine o v.own g m.own in
          let low : g ≤ gone = st.2 in omega arith)
          (λ ne. let a : get_or now (gen_at s) 0 ≡ get_or words (gen_at s) 0 = get_or-set_other words (word_of o x) (gen_at s) (becomes x n) 0 (λ e. let at : word_of o x ≡ gen_at o = st.0 in ne (omega arith)) in
          let d = short_else s o v.own (gen_of v.slot v.place) m.own ne in let e = short_else s o v.own (gen_of (slot_after x v.place v.slot) (place_after z x n v.place)) m.own ne in omega arith)
