-- The words of a table, opened slot by slot.
use Rattle.std.proofs.Common.{◌≡◌, ℕ, ◌+◌, ◌-◌, ◌/◌, ◌%◌, ◌<◌, List, length, get_or, set, ap, sym, ◌∙◌, arith, length-set, get_or-set_same, get_or-set_other}
use mathlib.Core.Logic.{dite}
use native.Mathlib.Decide.{ℕ_discrete}
use Rattle.signal_core.specs.declared.view.About.{About}
use Rattle.signal_core.specs.Words.{header_at, gen_at, gone, word_count, opened, Opens}
use Rattle.signal_core.proofs.Openings.{opened_gone, opened_clear}

-- the slots below procs are open, and all else is 0
pub record OpensBelow (procs : ℕ) (z : About) (words : List ℕ) : Type 0 where
  pub long : length words ≡ word_count z
  pub first : get_or words 0 0 ≡ 1
  pub header : get_or words header_at 0 ≡ z.generation
  pub slots : (p : ℕ) → p < procs → get_or words (gen_at p) 0 ≡ gone
  pub clear : (i : ℕ) → 1 < i → i < word_count z → ((p : ℕ) → p < procs → i ≡ gen_at p → ⊥) → get_or words i 0 ≡ 0

-- one slot more is open
pub opens_more : (words : List ℕ) (p : ℕ) (z : About) → gen_at p < length words → OpensBelow p z words → OpensBelow (p + 1) z (set words (gen_at p) gone)
opens_more words p z inside h = record {
  long = length-set words (gen_at p) gone ∙ h.long;
  first = get_or-set_other words (gen_at p) 0 gone 0 (λ e. omega arith) ∙ h.first;
  header = get_or-set_other words (gen_at p) 1 gone 0 (λ e. omega arith) ∙ h.header;
  slots = λ j below. dite (ℕ_discrete j p)
      (λ is. ap (λ (n : ℕ). get_or (set words (gen_at p) gone) (gen_at n) 0) is ∙ get_or-set_same words (gen_at p) gone 0 inside)
      (λ ne. get_or-set_other words (gen_at p) (gen_at j) gone 0 (λ e. ne (omega arith)) ∙ h.slots j (omega arith));
  clear = λ i some below none. get_or-set_other words (gen_at p) i gone 0 (λ e. none p (omega arith) e) ∙ h.clear i some below (λ j few e. none j (omega arith) e);
}

-- all are open
pub opens_all : (z : About) (words : List ℕ) → OpensBelow z.procs z words → Opens z words
opens_all z words h = (
  h.long,
  λ i below. dite (ℕ_discrete i 0)
      (λ is. ap (λ (n : ℕ). get_or words n 0) is ∙ (h.first ∙ ap (opened z) (sym is)))
      (λ some. dite (ℕ_discrete i 1)
      (λ is. ap (λ (n : ℕ). get_or words n 0) is ∙ (h.header ∙ ap (opened z) (sym is)))
      (λ more. dite (ℕ_discrete (i % 4) 3)
      (λ third. let p = (i - 3) / 4 in let is : i ≡ gen_at p = omega arith in ap (λ (n : ℕ). get_or words n 0) is ∙ (h.slots p (omega arith) ∙ (sym (opened_gone z p) ∙ ap (opened z) (sym is))))
      (λ other. h.clear i (omega arith) below (λ p few e. other (omega arith)) ∙ sym (opened_clear z i (omega arith) other)))),
)
