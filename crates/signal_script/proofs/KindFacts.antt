-- Laws of kinds, and of what is printed of them and of words.
use Rattle.std.proofs.Common.{◌≡◌, ◌∙◌, ℕ, zero, suc, inl, inr, lit<, ◌-◌, ◌+◌, ◌++◌, List, [], ◌∷◌, length, drop, get_or, cond, codes, append_assoc, add-one, drop-cons, ◌/◌, ◌^◌, ◌<◌, ◌≤◌, bit_and, eqb, true, false, eq-eqb, refl, sym, arith}
use Rattle.std.specs.Int.{bit_at}
use Rattle.std.specs.Prelude.{decimal}
use Rattle.std.proofs.lemmas.List.{drop_all}
use Rattle.signal_core.specs.declared.view.About.{About}
use Rattle.signal_core.specs.Machine.{kinds_below}
use Rattle.signal_script.specs.Signals.{changed_word, changed_words}
use Rattle.std.proofs.lemmas.Bool.{cases_Bool, ne_eqb}
use Rattle.std.proofs.lemmas.Nat.Bits.{shr_and_one}
use Rattle.signal_script.specs.Signals.{kinds_in, kinds_text, lowest}

pub lowest-step : (failed left : ℕ) → eqb (bit_at failed (31 - left)) 1 ≡ true → lowest failed (suc left) ≡ 31 - left
unfolding lowest
lowest-step failed left t = rw t refl

pub lowest-skip : (failed left : ℕ) → eqb (bit_at failed (31 - left)) 1 ≡ false → lowest failed (suc left) ≡ lowest failed left
unfolding lowest
lowest-skip failed left f = rw f refl

pub lowest-here : (failed k : ℕ) → k < 32 → bit_and (failed / 2 ^ k) 1 ≡ 1 → lowest failed (32 - k) ≡ k
lowest-here failed k below set =
    let e : 32 - k ≡ suc (31 - k) = omega arith in
    let f : 31 - (31 - k) ≡ k = omega arith in
    rw e (lowest-step failed (31 - k) (rw f (eq-eqb (bit_at failed k) 1 (sym (shr_and_one failed k) ∙ set))) ∙ f)

pub lowest-else : (failed k : ℕ) → k < 32 → (bit_and (failed / 2 ^ k) 1 ≡ 1 → ⊥) → lowest failed (32 - k) ≡ lowest failed (32 - (k + 1))
lowest-else failed k below clear =
    let e : 32 - k ≡ suc (31 - k) = omega arith in
    let f : 31 - (31 - k) ≡ k = omega arith in
    let g : 32 - (k + 1) ≡ 31 - k = omega arith in
    rw (e, g) (lowest-skip failed (31 - k) (rw f (ne_eqb (bit_at failed k) 1 (λ is. clear (shr_and_one failed k ∙ is)))))

pub lowest-end : (failed k : ℕ) → 32 ≤ k → lowest failed (32 - k) ≡ 31
unfolding lowest
lowest-end failed k above = let e : 32 - k ≡ 0 = omega arith in rw e refl

-- WHAT IS PRINTED of kinds and of words, one more at the end
kinds_text-append : (a b : List ℕ) → kinds_text (a ++ b) ≡ kinds_text a ++ kinds_text b
kinds_text-append [] b = refl
kinds_text-append (k ∷ a) b = rw (kinds_text-append a b) (sym (append_assoc (codes " " ++ decimal k) (kinds_text a) (kinds_text b)))

pub kinds_text-more : (f : ℕ → ℕ) (n : ℕ) → kinds_text (kinds_below (n + 1) f) ≡ kinds_text (kinds_below n f) ++ kinds_text (cond (eqb (f n) 0) [] (n ∷ []))
kinds_text-more f n = let e : n + 1 ≡ suc n = omega arith in rw e (kinds_text-append (kinds_below n f) (cond (eqb (f n) 0) [] (n ∷ [])))

pub kinds_in-all : (found n : ℕ) → n ≡ 32 → kinds_below n (bit_at found) ≡ kinds_in found
unfolding kinds_in
kinds_in-all found n all = rw all refl

pub changed_words-none : (z : About) (words : List ℕ) (i j : ℕ) → length words ≤ i → changed_words z (drop i words) j ≡ []
unfolding changed_words
changed_words-none z words i j past = rw (drop_all i words past) refl

pub changed_words-more : (z : About) (words : List ℕ) (i j : ℕ) → i < length words → changed_words z (drop i words) j ≡ changed_word z (get_or words i 0) j ++ changed_words z (drop (i + 1) words) (j + 1)
unfolding changed_words
changed_words-more z words i j inside = rw (add-one, drop-cons words i 0 inside) refl

pub lowest-below : (failed left : ℕ) → lowest failed left < 32
unfolding lowest
lowest-below failed zero = lit< tt
lowest-below failed (suc left) = elim (cases_Bool (eqb (bit_at failed (31 - left)) 1)) [ inl t ↦ rw t (omega arith) | inr f ↦ rw f (lowest-below failed left) ]
