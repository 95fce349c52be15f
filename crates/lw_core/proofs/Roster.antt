-- The numbers stand, after each kind of step and each move.
use Rattle.std.proofs.Common.{◌≡◌, ℕ, ◌+◌, ◌<◌, List, [], ◌∷◌, ◌++◌, map, set, get_or, None, Some, refl, subst, arith, get_or-set_same}
use mathlib.Core.Option as maybe
use lib.ListN.{get_elem?}
use Rattle.lw_core.specs.declared.step.LwStep.{LwStep}
use Rattle.lw_core.specs.declared.view.View.{View}
use Rattle.lw_core.specs.declared.view.Size.{Size}
use Rattle.seat_roster.specs.Roster.{Numbers, Roster, numbered, drew, gave, took}
use Rattle.lw_core.specs.declared.view.Waiter.{Waiter}
use Rattle.lw_core.specs.WaitLists.{home_list}
use Rattle.lw_core.specs.Machine.{LwState, number_of, lock_number, word_of, becomes, next, after}
use Rattle.lw_core.specs.Rule.{numbers_of, NumbersStand, Rule}
use Rattle.lw_core.specs.Runs.{drew_one, stays, comes, both, spent, drawn, split, joined}
use Rattle.seat_roster.proofs.Stretches.{frame, seen, seen_more, at_seen, for_same}
use Rattle.seat_roster.proofs.Numbers.{roster_drew, roster_gave, roster_took}
use Rattle.lw_core.proofs.Touches.{numbers_kept, word_past_first}

module _ (lawful : ℕ → List ℕ → Type 0) (z : Size) (s : LwState) (r : Rule lawful z s) (id : ℕ) (v : View) (at : get_elem? s.views id ≡ maybe.some v) where
  pub roster_step : (k : LwStep) → NumbersStand z (after z s id v k)
  roster_step k = let i : ℕ = word_of z (number_of v.own) k in let n : ℕ = get_or s.words i 0 in let found : List Waiter = home_list s.homes (lock_number k) in let past = word_past_first lawful z (number_of v.own) k in
      frame numbers_of (Roster z.procs) s.words i (becomes k n) 0 s.views id v (next k v n found) at (λ e. omega arith) (numbers_kept k v n found) r.roster

  pub roster_draw : v.own ≡ Some 0 → v.pending ≡ None → v.drawn + 1 < z.procs → NumbersStand z (drawn s id v)
  roster_draw zero_is free more = let wide = r.sized.long in let n : ℕ = get_or s.words 0 0 in
      for_same _ _ (get_or-set_same s.words 0 (n + 1) 0 (omega arith)) (λ (x : ℕ). Roster z.procs x (map numbers_of (set s.views id (drew_one v))))
      (for_same _ _ (seen numbers_of s.views id (drew_one v) (drew (numbers_of v)) refl) (Roster z.procs (n + 1))
      (roster_drew z.procs n (map numbers_of s.views) r.roster id (numbers_of v) (at_seen numbers_of s.views id v (numbers_of v) at refl) zero_is free more))

  pub roster_split : NumbersStand z (split s id v)
  roster_split = for_same _ _ (seen_more numbers_of (set s.views id (stays v)) (comes v)) (Roster z.procs (get_or s.words 0 0))
      (for_same _ _ (seen numbers_of s.views id (stays v) (gave (numbers_of v)) refl) (λ (x : List Numbers). Roster z.procs (get_or s.words 0 0) (x ++ numbered v.pending ∷ []))
      (roster_gave z.procs (get_or s.words 0 0) (map numbers_of s.views) r.roster id (numbers_of v) (at_seen numbers_of s.views id v (numbers_of v) at refl)))

  pub roster_join : (other : ℕ) (w : View) → get_elem? (set s.views id (both v w)) other ≡ maybe.some w → w.pending ≡ None → NumbersStand z (joined s id v other w)
  roster_join other w there settled = let first = seen numbers_of s.views id (both v w) (took (numbers_of v) (numbers_of w)) refl in
      for_same _ _ (seen numbers_of (set s.views id (both v w)) other spent (numbered None) refl) (Roster z.procs (get_or s.words 0 0))
      (for_same _ _ first (λ (x : List Numbers). Roster z.procs (get_or s.words 0 0) (set x other (numbered None)))
      (roster_took z.procs (get_or s.words 0 0) (map numbers_of s.views) r.roster id other (numbers_of v) (numbers_of w) (at_seen numbers_of s.views id v (numbers_of v) at refl)
      (subst (λ (x : List Numbers). get_elem? x other ≡ maybe.some (numbers_of w)) first (at_seen numbers_of (set s.views id (both v w)) other w (numbers_of w) there refl)) settled))
