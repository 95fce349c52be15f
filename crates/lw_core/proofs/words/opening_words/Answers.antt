use Rattle.std.proofs.Common.{◌≡◌, ℕ, ◌+◌, ◌<◌, List, length, get_or, set, ap, ◌∙◌, subst, arith, length-set, get_or-set_same, get_or-set_other}
use mathlib.Core.Logic.{dite}
use native.Mathlib.Decide.{ℕ_discrete}
use Rattle.lw_core.specs.Words.{state_at, Opens}
use Rattle.lw_core.proofs.words.opening_words.Goals as goal

-- one lock's state more is open
opens_more : (words : List ℕ) (l : ℕ) → state_at l < length words → Opens l words → Opens (l + 1) (set words (state_at l) 0x2000_0000)
opens_more words l inside h = (
  get_or-set_other words (state_at l) 0 0x2000_0000 0 (λ e. omega arith) ∙ h.0,
  λ j below. dite (ℕ_discrete j l)
      (λ is. ap (λ (n : ℕ). get_or (set words (state_at l) 0x2000_0000) (state_at n) 0) is ∙ get_or-set_same words (state_at l) 0x2000_0000 0 inside)
      (λ ne. get_or-set_other words (state_at l) (state_at j) 0x2000_0000 0 (λ e. ne (omega arith)) ∙ h.1 j (omega arith)),
  λ i some none. get_or-set_other words (state_at l) i 0x2000_0000 0 (λ e. none l (omega arith) e) ∙ h.2 i some (λ j below e. none j (omega arith) e),
)

pub loop-l-preserved : goal.loop-l-preserved
loop-l-preserved c = let long = c.loop-l.invariant.0 in (length-set c.loop-l.words.items (state_at c.loop-l.l) 0x2000_0000 ∙ long, opens_more c.loop-l.words.items c.loop-l.l (omega arith) c.loop-l.invariant.1)

pub returns : goal.returns
returns c = let most = c.loop-l.auto.l-end in let least = c.loop-l-test.false in let all : c.loop-l.l ≡ c.args.size.locks = omega arith in (c.loop-l.invariant.0, subst (λ (n : ℕ). Opens n c.loop-l.words.items) all c.loop-l.invariant.1)
