-- Where a word is stored: what is kept of the other words, and of the flags of each lock.
use Rattle.std.proofs.Common.{◌≡◌, ℕ, ◌*◌, ◌<◌, List, length, get_or, set, sym, ap, ◌∙◌, arith, get_or-set_other, get_or-set_same}
use Rattle.std.proofs.lemmas.List.{set-get_or}
use mathlib.Core.Logic.{dite}
use native.Mathlib.Decide.{ℕ_discrete}
use Rattle.lw_core.specs.declared.view.Size.{Size}
use Rattle.lw_core.specs.Words.{state_at, word_count, locked, release_ok, has_waiters, has_flag}
use Rattle.lw_core.proofs.Turns.{IsStill, reads, first, grants, guards, varies}

-- a word that is stored as it was leaves each
pub word_read : (words : List ℕ) (i x j : ℕ) → x ≡ get_or words i 0 → get_or (set words i x) j 0 ≡ get_or words j 0
word_read words i x j is = ap (λ (n : ℕ). get_or (set words i n) j 0) is ∙ ap (λ (ns : List ℕ). get_or ns j 0) (set-get_or words i 0)

-- one that is still leaves the waiting fields and the semaphores, which stand behind all locks
pub still_past : (z : Size) (words : List ℕ) (i x j : ℕ) → IsStill z words i x → 6 * z.locks < j → get_or (set words i x) j 0 ≡ get_or words j 0
still_past z words i x j (reads is) past = word_read words i x j is
still_past z words i x j (first is) past = get_or-set_other words i j x 0 (λ e. omega arith)
still_past z words i x j (grants l below is _ _ _) past = get_or-set_other words i j x 0 (λ e. omega arith)
still_past z words i x j (guards l k below few is) past = get_or-set_other words i j x 0 (λ e. omega arith)
still_past z words i x j (varies l below is) past = get_or-set_other words i j x 0 (λ e. omega arith)

-- a flag of each lock is as it was, where the word that is stored keeps it
abbrev pub KeepsFlag : ℕ → Size → List ℕ → ℕ → ℕ → Type 0
KeepsFlag f z words i x = (k : ℕ) → k < z.locks → i ≡ state_at k → has_flag f x ≡ has_flag f (get_or words i 0)

pub flag_kept : (f : ℕ) (z : Size) (words : List ℕ) (i x : ℕ) → length words ≡ word_count z → KeepsFlag f z words i x → (l : ℕ) → l < z.locks
    → has_flag f (get_or (set words i x) (state_at l) 0) ≡ has_flag f (get_or words (state_at l) 0)
flag_kept f z words i x long keeps l below = dite (ℕ_discrete (state_at l) i)
    (λ is. ap (λ (j : ℕ). has_flag f (get_or (set words i x) j 0)) is
    ∙ (ap (has_flag f) (get_or-set_same words i x 0 (omega arith)) ∙ (keeps l below (sym is) ∙ ap (λ (j : ℕ). has_flag f (get_or words j 0)) (sym is))))
    (λ ne. ap (has_flag f) (get_or-set_other words i (state_at l) x 0 ne))

-- one that is still keeps each flag
pub still_keeps : (z : Size) (words : List ℕ) (i x : ℕ) → IsStill z words i x → KeepsFlag locked z words i x × KeepsFlag release_ok z words i x × KeepsFlag has_waiters z words i x
still_keeps z words i x (reads is) = ((λ k below at. ap (has_flag locked) is), (λ k below at. ap (has_flag release_ok) is), λ k below at. ap (has_flag has_waiters) is)
still_keeps z words i x (first is) = ((λ k below at. absurd (omega arith)), (λ k below at. absurd (omega arith)), λ k below at. absurd (omega arith))
still_keeps z words i x (grants l inside is lock ok waiters) = ((λ k below at. lock), (λ k below at. ok), λ k below at. waiters)
still_keeps z words i x (guards l n inside few is) = ((λ k below at. absurd (omega arith)), (λ k below at. absurd (omega arith)), λ k below at. absurd (omega arith))
still_keeps z words i x (varies l inside is) = ((λ k below at. absurd (omega arith)), (λ k below at. absurd (omega arith)), λ k below at. absurd (omega arith))
