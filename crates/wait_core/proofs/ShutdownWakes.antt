-- Each step keeps that a shutdown wakes each backend that waits for it.
use Rattle.std.proofs.Common.{◌≡◌, ◌⊎◌, ℕ, ◌+◌, ◌<◌, ◌≤◌, nat_lt, true, List, length, get_or, set, None, Some, sym, ap, ◌∙◌, ⊎_elim, arith, get_or-set_same, get_or-set_other}
use Rattle.std.proofs.lemmas.Bool.Decides.{nat_tests}
use mathlib.Core.Logic.{dite}
use mathlib.Core.Option as maybe
use native.Mathlib.Decide.{ℕ_discrete}
use lib.ListN.{get_elem?}
use lib.Seq.{set-get_or}
use Rattle.wait_core.specs.declared.step.WaitStep.{WaitStep}
use Rattle.wait_core.specs.declared.step.WaitStep.TheVariants.{Sload, Sset, Reset, Mstore, Mload, Byte, Look, Drain, Shload, Shstore, Take, Spin, Free}
use Rattle.wait_core.specs.declared.view.Kept.{Kept}
use Rattle.wait_core.specs.declared.view.Size.{Size}
use Rattle.seat_roster.specs.Totals.{total}
use Rattle.wait_core.specs.Words.{set_at, may_at, byte_at, shut_at, slot_of, spin_at, client_base}
use Rattle.wait_core.specs.Machine.{Place, top, bit, word_of, becomes, place_then, Permits}
use Rattle.wait_core.specs.Seating.{Standing}
use Rattle.wait_core.specs.Places.{may_sleep, past_shutdown, stops, backend_count}
use Rattle.wait_core.specs.ShutdownWakes.{StopWakes, ShutdownWakes}
use Rattle.wait_core.proofs.Counts.{owns, after_mine, after_le, after_any, any_at}
use Rattle.wait_core.proofs.Effects.{Effect, latch_marked, shutdown_latch, drains_awake}

module _ (z : Size) (words : List ℕ) (seats : List Standing) (alone : (p : ℕ) → total (owns p) seats ≤ 1) (id o : ℕ) (v w : Standing) (at : get_elem? seats id ≡ maybe.some v) (own : v.own ≡ Some o) (still : w.own ≡ Some o)
    (inside : o < z.procs) (wide : client_base z ≤ length words) (was : ShutdownWakes z words seats) where
  -- at p nothing is worse: it isn't newly past its look, the shutdown word is as before, its byte isn't cleared, and who shuts down has it still to do
  keeps_at : (new : List ℕ) (p : ℕ) → p < z.procs → backend_count p past_shutdown (set seats id w) ≤ backend_count p past_shutdown seats → get_or new (shut_at z) 0 ≡ get_or words (shut_at z) 0
      → get_or words (byte_at p) 0 ≤ get_or new (byte_at p) 0 → bit (stops p (top v.place)) ≤ bit (stops p (top w.place)) → StopWakes z p new (set seats id w)
  keeps_at new p below less shut byte told come is =
      let sum = after_any seats alone id o v w at own still (stops p) in
      let before = was p below (omega arith) (sym shut ∙ is) in omega arith

  apart : (i x p : ℕ) → p < z.procs → (shut_at z ≡ i → ⊥) → (byte_at p ≡ i → ⊥) → bit (past_shutdown (top w.place)) ≤ bit (past_shutdown (top v.place)) → bit (stops p (top v.place)) ≤ bit (stops p (top w.place)) → StopWakes z p (set words i x) (set seats id w)
  apart i x p below ns nb less told = keeps_at (set words i x) p below (after_le seats alone id o v w at own still p past_shutdown less) (get_or-set_other words i (shut_at z) x 0 ns)
      (let b = get_or-set_other words i (byte_at p) x 0 nb in omega arith) told

  unread : (i p : ℕ) → p < z.procs → bit (past_shutdown (top w.place)) ≤ bit (past_shutdown (top v.place)) → bit (stops p (top v.place)) ≤ bit (stops p (top w.place)) → StopWakes z p (set words i (get_or words i 0)) (set seats id w)
  unread i p below less told = keeps_at (set words i (get_or words i 0)) p below (after_le seats alone id o v w at own still p past_shutdown less) (ap (λ (l : List ℕ). get_or l (shut_at z) 0) (set-get_or words i 0))
      (let b = ap (λ (l : List ℕ). get_or l (byte_at p) 0) (set-get_or words i 0) in omega arith) told

  never : {A : Type 0} → A ⊎ ⊥ → A
  never h = ⊎_elim (λ a. a) (λ x. absurd x) h

  pub shutdown_kept : (k : WaitStep) (found : Kept) → Permits z k (Some o) v.target v.place → Effect z k (get_or words (word_of z o k) 0) (top v.place) (top w.place) → w.place ≡ place_then z k (get_or words (word_of z o k) 0) found record { own = o; target = v.target; place = v.place }
      → ShutdownWakes z (set words (word_of z o k) (becomes k (get_or words (word_of z o k) 0))) (set seats id w)
  shutdown_kept (Sload q b) found ok e goes p below = unread (set_at q) p below (never e.shutdown) (never (e.stopping p below))
  shutdown_kept (Sset q) found ok e goes p below = let few = ok.0 in apart (set_at q) 1 p below (λ x. omega arith) (λ x. omega arith) (never e.shutdown) (never (e.stopping p below))
  shutdown_kept (Reset b) found ok e goes p below = apart (set_at o) 0 p below (λ x. omega arith) (λ x. omega arith) (never e.shutdown) (never (e.stopping p below))
  shutdown_kept (Mstore b) found ok e goes p below = apart (may_at o) (bit b) p below (λ x. omega arith) (λ x. omega arith) (never e.shutdown) (never (e.stopping p below))
  shutdown_kept (Mload q) found ok e goes p below = unread (may_at q) p below (never e.shutdown) (never (e.stopping p below))
  shutdown_kept (Byte q) found ok e goes p below = dite (ℕ_discrete q p)
      (λ is come shut. let few = ok.0 in let here = get_or-set_same words (byte_at q) 1 0 (omega arith) in let there = ap (λ (n : ℕ). get_or (set words (byte_at q) 1) (byte_at n) 0) is in omega arith)
      (λ ne. let few = ok.0 in apart (byte_at q) 1 p below (λ x. omega arith) (λ x. ne (omega arith)) (never e.shutdown) (⊎_elim (λ told. told) (λ is. absurd (ne is)) (e.stopping p below)))
  shutdown_kept Look found ok e goes p below = unread (byte_at o) p below (never e.shutdown) (never (e.stopping p below))
  shutdown_kept Drain found ok e goes p below = dite (ℕ_discrete o p)
      (λ is come shut. let a = after_mine seats alone id o v w at own still p past_shutdown is in let less = never e.shutdown in let low = shutdown_latch (top v.place) in let lower = latch_marked (top v.place) in
      let awake : bit (may_sleep (top v.place)) ≡ 0 = ap bit (drains_awake (top v.place) ok) in absurd (omega arith))
      (λ ne. apart (byte_at o) 0 p below (λ x. omega arith) (λ x. ne (omega arith)) (never e.shutdown) (never (e.stopping p below)))
  shutdown_kept (Shload (Some c)) found ok e goes p below = unread (shut_at z) p below (never e.shutdown) (never (e.stopping p below))
  shutdown_kept (Shload None) found ok e goes p below = ⊎_elim
      (λ less. unread (shut_at z) p below less (never (e.stopping p below)))
      (λ (running : get_or words (shut_at z) 0 ≡ 0). λ come shut. let same = ap (λ (l : List ℕ). get_or l (shut_at z) 0) (set-get_or words (shut_at z) 0) in absurd (omega arith))
      e.shutdown
  shutdown_kept (Shstore b) found ok e goes p below = λ come shut. let sum = after_any seats alone id o v w at own still (stops p) in let low = any_at seats alone id o v w at own still (stops p) in
      let first : nat_lt 0 (p + 1) ≡ true = grind (arith, nat_tests) in
      let one : bit (stops p (top w.place)) ≡ 1 = ap (λ (x : Place). bit (stops p (top x))) goes ∙ ap bit first in omega arith
  shutdown_kept (Take x b) found ok e goes p below = apart (spin_at z (slot_of x)) 1 p below (λ x. omega arith) (λ x. omega arith) (never e.shutdown) (never (e.stopping p below))
  shutdown_kept (Spin x) found ok e goes p below = unread (spin_at z (slot_of x)) p below (never e.shutdown) (never (e.stopping p below))
  shutdown_kept (Free x after) found ok e goes p below = apart (spin_at z (slot_of x)) 0 p below (λ x. omega arith) (λ x. omega arith) (never e.shutdown) (never (e.stopping p below))
