-- Each step keeps that what was absorbed was emitted.
use Rattle.std.proofs.Common.{◌≡◌, ◌≢◌, ◌⊎◌, ℕ, zero, suc, ◌+◌, ◌≤◌, eqb, nat_lt, Bool, true, false, cond, List, [], ◌∷◌, map, set, None, Some, refl, sym, ap, ◌∙◌, subst, ⊎_elim, inl, inr, arith, eqb-true}
use Rattle.std.proofs.lemmas.Bool.Decides.{nat_tests}
use mathlib.Core.Logic.{dite}
use mathlib.Core.Option as maybe
use native.Mathlib.Decide.{ℕ_discrete}
use lib.ListN.{get_elem?}
use lib.Seq.{map-set}
use Rattle.atomic_table.proofs.Lists.{at_set}
use Rattle.std.specs.Int.{bit_at}
use Rattle.seat_roster.specs.Roster.{times}
use Rattle.seat_roster.proofs.Numbers.{times_append}
use Rattle.seat_roster.proofs.Totals.{total_le}
use Rattle.signal_core.specs.declared.step.SigStep.{SigStep}
use Rattle.signal_core.specs.declared.step.SigStep.TheVariants.{Hload, Hadd, Mor, Mswap, Gstore, Gload, Pstore, Pload, Pend, Pswap}
use Rattle.signal_core.specs.declared.view.Frame.TheVariants.{Posting, Numbering, Taking}
use Rattle.signal_core.specs.declared.view.About.{About}
use Rattle.signal_core.specs.declared.view.SigView.{SigView}
use Rattle.signal_core.specs.Machine.{Place, takes, takes_at, taken_by, kinds_below, absorbs, absorbed_after, next}
use Rattle.signal_core.specs.Seating.{Stance, stance_of}
use Rattle.signal_core.specs.Places.{in_hand, under_way, emits, emitted, any}
use Rattle.signal_core.specs.BitsAreEmitted.{BitsAreEmitted}
use Rattle.signal_core.specs.AbsorbedWasEmitted.{AbsorbedWasEmitted}
use Rattle.signal_core.proofs.Moves.{Move, any_open, grow}

-- what is posted anywhere is posted at the slot 0
first_of : (s q : ℕ) (a b : Bool) → nat_lt s q ≡ a → nat_lt 0 q ≡ b → cond a 1 0 ≤ cond b 1 0
first_of s q false b ea eb = omega arith
first_of s q true true ea eb = omega arith
first_of s q true false ea eb = absurd (grind (arith, nat_tests, ea, eb))

first_post : (s k : ℕ) (p : Place) → under_way s k p ≤ under_way 0 k p
first_post s k (Some (Posting j x q)) = by_case (eqb j k) (first_of s q (nat_lt s q) (nat_lt 0 q) refl refl)
  where
    by_case : (b : Bool) → cond (nat_lt s q) 1 0 ≤ cond (nat_lt 0 q) 1 0 → cond b (cond (nat_lt s q) 1 0) 0 ≤ cond b (cond (nat_lt 0 q) 1 0) 0
    by_case true h = h
    by_case false h = omega arith
first_post s k (Some (Numbering j x)) = omega arith
first_post s k None = omega arith
first_post s k (Some f) = omega arith

pub first_slot : (s k : ℕ) (f : ℕ → Bool) (seats : List Stance) → emitted s k f seats ≤ emitted 0 k f seats
first_slot s k f seats = total_le (emits s k f) (emits 0 k f) seats (λ i v e. let a = first_post s k v.place in omega arith)

-- the kinds of a list that f counts
pub kinds_count : (k n : ℕ) (f : ℕ → ℕ) → 1 ≤ times k (kinds_below n f) → 1 ≤ f k
kinds_count k zero f some = absurd (omega arith)
kinds_count k (suc n) f some = let a = times_append k (kinds_below n f) (cond (eqb (f n) 0) [] (n ∷ [])) in dite (ℕ_discrete (times k (kinds_below n f)) 0)
    (λ none. by_case (eqb (f n) 0) refl (omega arith))
    (λ more. kinds_count k n f (omega arith))
  where
    mine : (b : Bool) → eqb n k ≡ b → (f n ≡ 0 → ⊥) → 1 ≤ cond b 1 0 + 0 → 1 ≤ f k
    mine true e ne one = let same : f n ≡ f k = ap f (eqb-true n k e) in dite (ℕ_discrete (f k) 0) (λ none. absurd (ne (same ∙ none))) (λ more. omega arith)
    mine false e ne one = absurd (omega arith)

    by_case : (b : Bool) → eqb (f n) 0 ≡ b → 1 ≤ times k (cond b [] (n ∷ [])) → 1 ≤ f k
    by_case true e one = absurd (omega arith)
    by_case false e one = mine (eqb n k) refl (Rattle.std.proofs.lemmas.Bool.eqb-false (f n) 0 e) one

takes_found : (found failed k : ℕ) → takes found failed k ≤ bit_at found k
takes_found found failed k = by_case (eqb (bit_at failed k) 0)
  where
    by_case : (b : Bool) → cond b (bit_at found k) 0 ≤ bit_at found k
    by_case true = omega arith
    by_case false = omega arith

takes_held : (p : Place) (failed k : ℕ) → takes_at p failed k ≤ in_hand k p
takes_held (Some (Taking h found)) failed k = takes_found found failed k
takes_held None failed k = omega arith
takes_held (Some f) failed k = omega arith

-- what is taken was in the hand
pub taken_held : (x : SigStep) (p : Place) (k : ℕ) → taken_by x p k ≤ in_hand k p
taken_held (Mor q j (Some failed)) p k = takes_held p failed k
taken_held (Mor q j None) p k = omega arith
taken_held (Gstore g None) p k = takes_held p 0 k
taken_held (Gstore g (Some c)) p k = omega arith
taken_held (Hload c) p k = omega arith
taken_held Hadd p k = omega arith
taken_held (Mswap c) p k = omega arith
taken_held (Gload q c) p k = omega arith
taken_held (Pstore y) p k = omega arith
taken_held (Pload q) p k = omega arith
taken_held (Pend q) p k = omega arith
taken_held (Pswap c) p k = omega arith

absorbs_taken : (p : Place) (failed k : ℕ) (ks : List ℕ) → 1 ≤ times k (absorbs p failed ks) → (1 ≤ times k ks) ⊎ (1 ≤ takes_at p failed k)
absorbs_taken (Some (Taking h found)) failed k ks some = let a = times_append k ks (kinds_below 32 (takes found failed)) in dite (ℕ_discrete (times k ks) 0)
    (λ none. inr (kinds_count k 32 (takes found failed) (omega arith)))
    (λ more. inl (omega arith))
absorbs_taken None failed k ks some = inl some
absorbs_taken (Some f) failed k ks some = inl some

-- what is new among the kinds absorbed is taken
pub absorbed_taken : (x : SigStep) (p : Place) (k : ℕ) (ks : List ℕ) → 1 ≤ times k (absorbed_after x p ks) → (1 ≤ times k ks) ⊎ (1 ≤ taken_by x p k)
absorbed_taken (Mor q j (Some failed)) p k ks some = absorbs_taken p failed k ks some
absorbed_taken (Mor q j None) p k ks some = inl some
absorbed_taken (Gstore g None) p k ks some = absorbs_taken p 0 k ks some
absorbed_taken (Gstore g (Some c)) p k ks some = inl some
absorbed_taken (Hload c) p k ks some = inl some
absorbed_taken Hadd p k ks some = inl some
absorbed_taken (Mswap c) p k ks some = inl some
absorbed_taken (Gload q c) p k ks some = inl some
absorbed_taken (Pstore y) p k ks some = inl some
absorbed_taken (Pload q) p k ks some = inl some
absorbed_taken (Pend q) p k ks some = inl some
absorbed_taken (Pswap c) p k ks some = inl some

module _ (shows : ℕ → ℕ → Type 0) (z : About) (words : List ℕ) (views : List SigView) (x : SigStep) (o id n : ℕ) (v : SigView) (at : get_elem? views id ≡ maybe.some v) (m : Move shows z words (map stance_of views) x o id n (stance_of v)) where
  pub absorbed_kept : BitsAreEmitted z.procs words (map stance_of views) → AbsorbedWasEmitted views → AbsorbedWasEmitted (set views id (next z x v n))
  absorbed_kept bits old j k u e some = subst (λ (l : List Stance). 1 ≤ emitted 0 k any l) (sym (map-set stance_of views id (next z x v n))) (
      let up = grow shows z words (map stance_of views) x o id n (stance_of v) m 0 k any (any_open words) in ⊎_elim
      (λ (y : (j ≡ id) × (next z x v n ≡ u)). let b : times k (absorbed_after x v.place v.absorbed) ≡ times k u.absorbed = ap (λ (c : SigView). times k c.absorbed) y.1 in ⊎_elim
      (λ more. let c = old id k v at more in omega arith)
      (λ taken. let d = taken_held x v.place k in let f = bits.held id o k (stance_of v) m.at m.own (omega arith) in let g = first_slot o k any (map stance_of views) in omega arith)
      (absorbed_taken x v.place k v.absorbed (omega arith)))
      (λ (y : (j ≢ id) × (get_elem? views j ≡ maybe.some u)). let c = old j k u y.1 some in omega arith)
      (at_set views id j (next z x v n) u e))
