-- Each step keeps that a backend's word says whether it may sleep.
use Rattle.std.proofs.Common.{◌≡◌, ℕ, ◌<◌, ◌≤◌, Bool, List, length, get_or, set, Some, sym, ap, ◌∙◌, arith, get_or-set_same, get_or-set_other}
use mathlib.Core.Logic.{dite}
use mathlib.Core.Option as maybe
use native.Mathlib.Decide.{ℕ_discrete}
use lib.ListN.{get_elem?}
use lib.Seq.{set-get_or}
use Rattle.wait_core.specs.declared.step.WaitStep.{WaitStep}
use Rattle.wait_core.specs.declared.step.WaitStep.TheVariants.{Sload, Sset, Reset, Mstore, Mload, Byte, Look, Drain, Shload, Shstore, Take, Spin, Free}
use Rattle.wait_core.specs.declared.view.Size.{Size}
use Rattle.seat_roster.specs.Totals.{total}
use Rattle.wait_core.specs.Words.{set_at, may_at, byte_at, shut_at, slot_of, spin_at}
use Rattle.wait_core.specs.Machine.{top, bit, word_of, becomes}
use Rattle.wait_core.specs.Seating.{Standing}
use Rattle.wait_core.specs.Places.{may_sleep}
use Rattle.wait_core.specs.MaySleepIsMarked.{MaySleepIsMarked}
use Rattle.wait_core.proofs.Counts.{owns, backend_is, after_mine, after_other}
use Rattle.wait_core.proofs.Effects.{Effect}

module _ (z : Size) (words : List ℕ) (seats : List Standing) (alone : (p : ℕ) → total (owns p) seats ≤ 1) (id o : ℕ) (v w : Standing) (at : get_elem? seats id ≡ maybe.some v) (own : v.own ≡ Some o) (still : w.own ≡ Some o)
    (inside : o < z.procs) (wide : may_at o < length words) (was : MaySleepIsMarked z.procs words seats) where
  -- no word of this part changes, and the seat may sleep as before
  same : (i x : ℕ) → ((p : ℕ) → p < z.procs → may_at p ≡ i → ⊥) → may_sleep (top w.place) ≡ may_sleep (top v.place) → MaySleepIsMarked z.procs (set words i x) (set seats id w)
  same i x out alike p below = let here = get_or-set_other words i (may_at p) x 0 (out p below) in let before = was p below in dite (ℕ_discrete o p)
      (λ is. let a = after_mine seats alone id o v w at own still p may_sleep is in let b = backend_is seats alone id p v may_sleep at (own ∙ ap Some is) in let c : bit (may_sleep (top w.place)) ≡ bit (may_sleep (top v.place)) = ap bit alike in omega arith)
      (λ ne. let a = after_other seats alone id o v w at own still p may_sleep ne in omega arith)

  unread : (i : ℕ) → may_sleep (top w.place) ≡ may_sleep (top v.place) → MaySleepIsMarked z.procs (set words i (get_or words i 0)) (set seats id w)
  unread i alike p below = let here = ap (λ (l : List ℕ). get_or l (may_at p) 0) (set-get_or words i 0) in let before = was p below in dite (ℕ_discrete o p)
      (λ is. let a = after_mine seats alone id o v w at own still p may_sleep is in let b = backend_is seats alone id p v may_sleep at (own ∙ ap Some is) in let c : bit (may_sleep (top w.place)) ≡ bit (may_sleep (top v.place)) = ap bit alike in omega arith)
      (λ ne. let a = after_other seats alone id o v w at own still p may_sleep ne in omega arith)

  stored : (may : Bool) → may_sleep (top w.place) ≡ may → MaySleepIsMarked z.procs (set words (may_at o) (bit may)) (set seats id w)
  stored may alike p below = dite (ℕ_discrete o p)
      (λ is. let a = after_mine seats alone id o v w at own still p may_sleep is in let b : bit (may_sleep (top w.place)) ≡ bit may = ap bit alike in
      ap (λ (q : ℕ). get_or (set words (may_at o) (bit may)) (may_at q) 0) (sym is) ∙ (get_or-set_same words (may_at o) (bit may) 0 wide ∙ (sym b ∙ sym a)))
      (λ ne. let a = after_other seats alone id o v w at own still p may_sleep ne in let before = was p below in let here = get_or-set_other words (may_at o) (may_at p) (bit may) 0 (λ e. ne (omega arith)) in omega arith)

  pub may_kept : (k : WaitStep) → Effect z k (get_or words (word_of z o k) 0) (top v.place) (top w.place) → MaySleepIsMarked z.procs (set words (word_of z o k) (becomes k (get_or words (word_of z o k) 0))) (set seats id w)
  may_kept (Sload q b) e = unread (set_at q) e.may
  may_kept (Sset q) e = same (set_at q) 1 (λ p below is. omega arith) e.may
  may_kept (Reset b) e = same (set_at o) 0 (λ p below is. omega arith) e.may
  may_kept (Mstore may) e = stored may e.may
  may_kept (Mload q) e = unread (may_at q) e.may
  may_kept (Byte q) e = same (byte_at q) 1 (λ p below is. omega arith) e.may
  may_kept Look e = unread (byte_at o) e.may
  may_kept Drain e = same (byte_at o) 0 (λ p below is. omega arith) e.may
  may_kept (Shload b) e = unread (shut_at z) e.may
  may_kept (Shstore b) e = same (shut_at z) 1 (λ p below is. omega arith) e.may
  may_kept (Take x b) e = same (spin_at z (slot_of x)) 1 (λ p below is. omega arith) e.may
  may_kept (Spin x) e = unread (spin_at z (slot_of x)) e.may
  may_kept (Free x after) e = same (spin_at z (slot_of x)) 0 (λ p below is. omega arith) e.may
