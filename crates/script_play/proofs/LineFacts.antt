-- Laws of the lines of a script.
use Rattle.std.proofs.Common.{◌≡◌, ℕ, suc, ◌+◌, ◌<◌, ◌≤◌, Bool, true, false, eqb, List, [], ◌∷◌, length, take, drop, refl, inl, inr, arith}
use Rattle.std.specs.Prelude.{◌==◌}
use Rattle.std.specs.List.{before_first, after_first, position_or_len}
use Rattle.std.proofs.lemmas.Bool.{cases_Bool}
use Rattle.script_play.specs.Lines.{lines, into_first, is_skipped, live}

abbrev pub is_end : ℕ → Bool
is_end b = b == 10

cut-more : (b : ℕ) (bs : List ℕ) (n : ℕ) → lines bs ≡ take n bs ∷ lines (drop (n + 1) bs) → into_first b (lines bs) ≡ take (1 + n) (b ∷ bs) ∷ lines (drop (1 + n + 1) (b ∷ bs))
cut-more b bs n h =
    let e : 1 + n ≡ suc n = omega arith in
    let f : suc n + 1 ≡ suc (n + 1) = omega arith in
    rw (e, f, h) refl

-- the first line ends at the first line feed
pub lines-cut : (bytes : List ℕ) → position_or_len is_end bytes < length bytes → lines bytes ≡ before_first is_end bytes ∷ lines (after_first is_end bytes)
unfolding lines
lines-cut [] h = absurd (omega arith)
lines-cut (b ∷ bs) h = elim (cases_Bool (eqb b 10)) [
  | inl t ↦ rw t refl
  | inr f ↦ rw f (cut-more b bs (position_or_len is_end bs) (lines-cut bs (let g = rw f at h in omega arith)))
]

last-more : (b : ℕ) (bs : List ℕ) (n : ℕ) → (0 < length bs → lines bs ≡ bs ∷ []) → into_first b (lines bs) ≡ (b ∷ bs) ∷ []
unfolding lines
last-more b [] n h = refl
last-more b (c ∷ cs) n h = rw (h (omega arith)) refl

-- with no line feed, all is one line
pub lines-last : (bytes : List ℕ) → length bytes ≤ position_or_len is_end bytes → 0 < length bytes → lines bytes ≡ bytes ∷ []
unfolding lines
lines-last [] h some = absurd (omega arith)
lines-last (b ∷ bs) h some = elim (cases_Bool (eqb b 10)) [
  | inl t ↦ absurd (let g = rw t at h in omega arith)
  | inr f ↦ rw f (last-more b bs 0 (lines-last bs (let g = rw f at h in omega arith)))
]

pub lines-none : (bytes : List ℕ) → length bytes ≡ 0 → lines bytes ≡ []
unfolding lines
lines-none [] h = refl
lines-none (b ∷ bs) h = absurd (omega arith)

pub live-none : (n : ℕ) (all : List (List ℕ)) → all ≡ [] → live n all ≡ []
unfolding live
live-none n [] h = refl
live-none n (line ∷ rest) h = absurd cc

pub live-skipped : (n : ℕ) (all : List (List ℕ)) (line : List ℕ) (rest : List (List ℕ)) → all ≡ line ∷ rest → is_skipped line ≡ true → live n all ≡ live (n + 1) rest
unfolding live
live-skipped n all line rest e t = rw (e, t) refl

pub live-taken : (n : ℕ) (all : List (List ℕ)) (line : List ℕ) (rest : List (List ℕ)) → all ≡ line ∷ rest → is_skipped line ≡ false → live n all ≡ record { number = n; text = line } ∷ live (n + 1) rest
unfolding live
live-taken n all line rest e f = rw (e, f) refl
