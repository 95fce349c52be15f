-- Laws of numbers as words.
use Rattle.std.proofs.Common.{◌≡◌, ◌∙◌, ℕ, ◌+◌, ◌<◌, ◌≤◌, Bool, true, false, cond, leb, eqb, inl, inr, List, [], ◌∷◌, take, drop, get_or, length, Some, None, refl, sym, ap, arith}
use Rattle.std.specs.Prelude.{◌&&◌, fold, nat_le, slice_index}
use Rattle.std.specs.List.{list_all}
use Rattle.std.specs.Char.{is_ascii_digit}
use Rattle.std.proofs.lemmas.Bool.{cases_Bool, le-leb, lt-leb, and_right, ne_eqb}
use Rattle.std.proofs.lemmas.Bool.Decides.{nat_tests}
use Rattle.std.proofs.lemmas.List.{take_more, take-append-drop}
use Rattle.std.proofs.lemmas.List.Sums.{fold-append}
use Rattle.decimal_word.specs.Numbers.{add_digit, is_decimal, number_of, value_of}

pub is_decimal-digits : (word : List ℕ) (empty digits : Bool) → empty ≡ eqb (length word) 0 → empty ≡ false → (slice_index word 0 ≡ 48 → ⊥)
    → digits ≡ list_all is_ascii_digit word → digits ≡ is_decimal word
is_decimal-digits word empty digits is some other all =
    let no : eqb (length word) 0 ≡ false = sym is ∙ some in
    rw (no, ne_eqb (slice_index word 0) 48 other) all

-- more digits make no smaller number
fold-grows : (value : ℕ) (digits : List ℕ) → value ≤ fold add_digit value digits
fold-grows value [] = omega arith
fold-grows value (digit ∷ digits) =
    let more = fold-grows (add_digit value digit) digits in
    omega arith

pub value_of-front : (digits : List ℕ) (i value : ℕ) → value ≡ value_of (take i digits) → i < length digits → add_digit value (get_or digits i 0) ≤ value_of digits
value_of-front digits i value is lt =
    let more : value_of (take (i + 1) digits) ≡ add_digit value (get_or digits i 0) =
    ap value_of (take_more digits i 0 lt) ∙ fold-append add_digit 0 (take i digits) (get_or digits i 0 ∷ []) ∙ ap (λ (v : ℕ). add_digit v (get_or digits i 0)) (sym is) in
    let all : fold add_digit (value_of (take (i + 1) digits)) (drop (i + 1) digits) ≡ value_of digits =
    sym (fold-append add_digit 0 (take (i + 1) digits) (drop (i + 1) digits)) ∙ ap value_of (take-append-drop (i + 1) digits) in
    let grows = fold-grows (value_of (take (i + 1) digits)) (drop (i + 1) digits) in
    rw (← more, ← all) grows

pub number_of-none : (low high : ℕ) (word : List ℕ) → is_decimal word ≡ false → number_of low high word ≡ None
unfolding number_of
number_of-none low high word e = rw e refl

pub number_of-above : (low high : ℕ) (word : List ℕ) → high < value_of word → number_of low high word ≡ None
unfolding number_of
number_of-above low high word above =
    rw (lt-leb (value_of word) high above) (elim (cases_Bool (is_decimal word)) [ inl t ↦ rw (t, and_right (leb low (value_of word)) false refl) refl | inr f ↦ rw f refl ])

pub number_of-below : (low high : ℕ) (word : List ℕ) → value_of word < low → number_of low high word ≡ None
unfolding number_of
number_of-below low high word below =
    rw (lt-leb low (value_of word) below) (elim (cases_Bool (is_decimal word)) [ inl t ↦ rw t refl | inr f ↦ rw f refl ])

pub number_of-within : (low high value : ℕ) (word : List ℕ) → is_decimal word ≡ true → value ≡ value_of word → low ≤ value → value ≤ high → number_of low high word ≡ Some value
unfolding number_of
number_of-within low high value word decimal is above below = rw (decimal, ← is, le-leb low value above, le-leb value high below) refl

-- a number that a word is lies within the bounds
pub number_of-range : (low high n : ℕ) (word : List ℕ) → number_of low high word ≡ Some n → (low ≤ n) × (n ≤ high)
unfolding number_of
number_of-range low high n word = by_case (is_decimal word) (nat_le low (value_of word)) (nat_le (value_of word) high) refl refl
  where
    by_case : (a b c : Bool) → nat_le low (value_of word) ≡ b → nat_le (value_of word) high ≡ c → cond (a && (b && c)) (Some (value_of word)) None ≡ Some n → (low ≤ n) × (n ≤ high)
    by_case true true true above below is = let same : value_of word ≡ n = cc in (grind (arith, nat_tests, above, same), grind (arith, nat_tests, below, same))
    by_case true true false above below is = absurd cc
    by_case true false c above below is = absurd cc
    by_case false b c above below is = absurd cc
