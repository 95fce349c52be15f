-- Each step keeps that a latch that is set wakes its backend.
use Rattle.std.proofs.Common.{◌≡◌, ◌⊎◌, ℕ, ◌<◌, ◌≤◌, List, length, get_or, set, None, Some, sym, ap, ◌∙◌, ⊎_elim, arith, eq-eqb, get_or-set_same, get_or-set_other}
use mathlib.Core.Logic.{dite}
use mathlib.Core.Option as maybe
use native.Mathlib.Decide.{ℕ_discrete}
use lib.ListN.{get_elem?}
use lib.Seq.{set-get_or}
use Rattle.wait_core.specs.declared.step.WaitStep.{WaitStep}
use Rattle.wait_core.specs.declared.step.WaitStep.TheVariants.{Sload, Sset, Reset, Mstore, Mload, Byte, Look, Drain, Shload, Shstore, Take, Spin, Free}
use Rattle.wait_core.specs.declared.view.Kept.{Kept}
use Rattle.wait_core.specs.declared.view.Size.{Size}
use Rattle.seat_roster.specs.Totals.{total}
use Rattle.wait_core.specs.Words.{set_at, may_at, byte_at, shut_at, slot_of, spin_at, client_base}
use Rattle.wait_core.specs.Machine.{Place, top, bit, word_of, becomes, place_then, Permits}
use Rattle.wait_core.specs.Seating.{Standing}
use Rattle.wait_core.specs.Places.{may_sleep, past_latch, tells, backend_count}
use Rattle.wait_core.specs.MaySleepIsMarked.{MaySleepIsMarked}
use Rattle.wait_core.specs.SetLatchWakes.{LatchWakes, SetLatchWakes}
use Rattle.wait_core.proofs.Counts.{owns, backend_le, after_mine, after_other, after_le, after_any, any_at}
use Rattle.wait_core.proofs.Effects.{Effect, latch_marked, drains_awake}

module _ (z : Size) (words : List ℕ) (seats : List Standing) (alone : (p : ℕ) → total (owns p) seats ≤ 1) (id o : ℕ) (v w : Standing) (at : get_elem? seats id ≡ maybe.some v) (own : v.own ≡ Some o) (still : w.own ≡ Some o)
    (inside : o < z.procs) (wide : client_base z ≤ length words) (may : MaySleepIsMarked z.procs words seats) (was : SetLatchWakes z.procs words seats) where
  -- at p nothing is worse: it isn't newly past its look, its latch is as before, its byte isn't cleared, and no setter of it is done
  keeps_at : (new : List ℕ) (p : ℕ) → p < z.procs → backend_count p past_latch (set seats id w) ≤ backend_count p past_latch seats → get_or new (set_at p) 0 ≡ get_or words (set_at p) 0
      → get_or words (byte_at p) 0 ≤ get_or new (byte_at p) 0 → bit (tells p (top v.place)) ≤ bit (tells p (top w.place)) → LatchWakes p new (set seats id w)
  keeps_at new p below less latch byte told come is =
      let sum = after_any seats alone id o v w at own still (tells p) in
      let before = was p below (omega arith) (sym latch ∙ is) in omega arith

  -- a word that this part doesn't read at p changes, and the seat isn't newly past its look
  apart : (i x p : ℕ) → p < z.procs → (set_at p ≡ i → ⊥) → (byte_at p ≡ i → ⊥) → bit (past_latch (top w.place)) ≤ bit (past_latch (top v.place)) → bit (tells p (top v.place)) ≤ bit (tells p (top w.place)) → LatchWakes p (set words i x) (set seats id w)
  apart i x p below ns nb less told = keeps_at (set words i x) p below (after_le seats alone id o v w at own still p past_latch less) (get_or-set_other words i (set_at p) x 0 ns)
      (let b = get_or-set_other words i (byte_at p) x 0 nb in omega arith) told

  -- a word is read
  unread : (i p : ℕ) → p < z.procs → backend_count p past_latch (set seats id w) ≤ backend_count p past_latch seats → bit (tells p (top v.place)) ≤ bit (tells p (top w.place)) → LatchWakes p (set words i (get_or words i 0)) (set seats id w)
  unread i p below less told = keeps_at (set words i (get_or words i 0)) p below less (ap (λ (l : List ℕ). get_or l (set_at p) 0) (set-get_or words i 0))
      (let b = ap (λ (l : List ℕ). get_or l (byte_at p) 0) (set-get_or words i 0) in omega arith) told

  never : {A : Type 0} → A ⊎ ⊥ → A
  never h = ⊎_elim (λ a. a) (λ x. absurd x) h

  pub latch_kept : (k : WaitStep) (found : Kept) → Permits z k (Some o) v.target v.place → Effect z k (get_or words (word_of z o k) 0) (top v.place) (top w.place) → w.place ≡ place_then z k (get_or words (word_of z o k) 0) found record { own = o; target = v.target; place = v.place }
      → SetLatchWakes z.procs (set words (word_of z o k) (becomes k (get_or words (word_of z o k) 0))) (set seats id w)
  latch_kept (Sload q (Some c)) found ok e goes p below = unread (set_at q) p below (after_le seats alone id o v w at own still p past_latch (never e.latch)) (never (e.telling p))
  latch_kept (Sload q None) found ok e goes p below = ⊎_elim
      (λ less. unread (set_at q) p below (after_le seats alone id o v w at own still p past_latch less) (never (e.telling p)))
      (λ (clear : get_or words (set_at q) 0 ≡ 0). dite (ℕ_discrete o p)
      (λ is come up. let mine : q ≡ o = cc (ok.0) in let same = ap (λ (l : List ℕ). get_or l (set_at p) 0) (set-get_or words (set_at q) 0) in
      let there = ap (λ (n : ℕ). get_or words (set_at n) 0) (mine ∙ is) in absurd (omega arith))
      (λ ne. let a = after_other seats alone id o v w at own still p past_latch ne in unread (set_at q) p below (omega arith) (never (e.telling p))))
      e.latch
  latch_kept (Sset q) found ok e goes p below = dite (ℕ_discrete q p)
      (λ is come up. let sum = after_any seats alone id o v w at own still (tells p) in let low = any_at seats alone id o v w at own still (tells p) in
      let one : bit (tells p (top w.place)) ≡ 1 = ap (λ (x : Place). bit (tells p (top x))) goes ∙ ap bit (eq-eqb q p is) in omega arith)
      (λ ne. apart (set_at q) 1 p below (λ x. ne (omega arith)) (λ x. omega arith) (never e.latch) (never (e.telling p)))
  latch_kept (Reset b) found ok e goes p below = dite (ℕ_discrete o p)
      (λ is come up. let here = get_or-set_same words (set_at o) 0 0 (omega arith) in let there = ap (λ (n : ℕ). get_or (set words (set_at o) 0) (set_at n) 0) is in absurd (omega arith))
      (λ ne. apart (set_at o) 0 p below (λ x. ne (omega arith)) (λ x. omega arith) (never e.latch) (never (e.telling p)))
  latch_kept (Mstore b) found ok e goes p below = apart (may_at o) (bit b) p below (λ x. omega arith) (λ x. omega arith) (never e.latch) (never (e.telling p))
  latch_kept (Mload q) found ok e goes p below = ⊎_elim
      (λ told. unread (may_at q) p below (after_le seats alone id o v w at own still p past_latch (never e.latch)) told)
      (λ (done : (q ≡ p) × (get_or words (may_at q) 0 ≡ 0)). λ come up.
      let marked = may p below in let there = ap (λ (n : ℕ). get_or words (may_at n) 0) done.0 in let zero_is = done.1 in
      let low = backend_le p past_latch may_sleep seats latch_marked in let less = after_le seats alone id o v w at own still p past_latch (never e.latch) in absurd (omega arith))
      (e.telling p)
  latch_kept (Byte q) found ok e goes p below = dite (ℕ_discrete q p)
      (λ is come up. let few = ok.0 in let here = get_or-set_same words (byte_at q) 1 0 (omega arith) in let there = ap (λ (n : ℕ). get_or (set words (byte_at q) 1) (byte_at n) 0) is in omega arith)
      (λ ne. apart (byte_at q) 1 p below (λ x. omega arith) (λ x. ne (omega arith)) (never e.latch) (⊎_elim (λ told. told) (λ is. absurd (ne is)) (e.telling p)))
  latch_kept Look found ok e goes p below = unread (byte_at o) p below (after_le seats alone id o v w at own still p past_latch (never e.latch)) (never (e.telling p))
  latch_kept Drain found ok e goes p below = dite (ℕ_discrete o p)
      (λ is come up. let a = after_mine seats alone id o v w at own still p past_latch is in let less = never e.latch in let low = latch_marked (top v.place) in let awake : bit (may_sleep (top v.place)) ≡ 0 = ap bit (drains_awake (top v.place) ok) in absurd (omega arith))
      (λ ne. apart (byte_at o) 0 p below (λ x. omega arith) (λ x. ne (omega arith)) (never e.latch) (never (e.telling p)))
  latch_kept (Shload (Some c)) found ok e goes p below = unread (shut_at z) p below (after_le seats alone id o v w at own still p past_latch (never e.latch)) (never (e.telling p))
  latch_kept (Shload None) found ok e goes p below = unread (shut_at z) p below (after_le seats alone id o v w at own still p past_latch (never e.latch)) (never (e.telling p))
  latch_kept (Shstore b) found ok e goes p below = apart (shut_at z) 1 p below (λ x. omega arith) (λ x. omega arith) (never e.latch) (never (e.telling p))
  latch_kept (Take x b) found ok e goes p below = apart (spin_at z (slot_of x)) 1 p below (λ x. omega arith) (λ x. omega arith) (never e.latch) (never (e.telling p))
  latch_kept (Spin x) found ok e goes p below = unread (spin_at z (slot_of x)) p below (after_le seats alone id o v w at own still p past_latch (never e.latch)) (never (e.telling p))
  latch_kept (Free x after) found ok e goes p below = apart (spin_at z (slot_of x)) 0 p below (λ x. omega arith) (λ x. omega arith) (never e.latch) (never (e.telling p))
