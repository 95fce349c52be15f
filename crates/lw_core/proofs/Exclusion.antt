-- What the rule says to the users of a lock.
use Rattle.std.proofs.Common.{◌≡◌, ◌≢◌, ℕ, ◌+◌, List, get_or, set, map, Option, None, Some, sym, refl, ap, ◌∙◌, subst, arith, get_or-set_other}
use mathlib.Core.Logic.{dite}
use mathlib.Core.Option as maybe
use native.Mathlib.Decide.{ℕ_discrete}
use lib.ListN.{get_elem?}
use lib.Seq.{set-get_or}
use Rattle.proc_table.specs.declared.Mode.{Mode}
use Rattle.proc_table.specs.declared.Mode.TheVariants.{Shared, Exclusive}
use Rattle.lw_core.specs.declared.step.GuardOp.TheVariants as guard
use Rattle.lw_core.specs.declared.step.LwStep.{LwStep}
use Rattle.lw_core.specs.declared.step.LwStep.TheVariants as kind
use Rattle.lw_core.specs.declared.view.View.{View}
use Rattle.lw_core.specs.declared.view.Size.{Size}
use Rattle.seat_roster.specs.Totals.{total}
use Rattle.seat_roster.specs.Roster.{count, one_if}
use Rattle.lw_core.specs.Words.{state_at, guard_at, guarded, Conflicts}
use Rattle.lw_core.specs.Machine.{LwState, HoldsNothing, mode_in, hold_in, number_of, IsInRange, word_of, becomes, Allowed, guard_becomes}
use Rattle.lw_core.specs.CountsHolders.{is_exclusive}
use Rattle.lw_core.specs.Rule.{Rule, numbers_of}
use Rattle.lw_core.specs.Promises.{HoldersAgree, UnheldAreLawful, LastHoldsAlone, WordsStand}
use Rattle.lw_core.specs.Seats.{mode_of_hold}
use Rattle.seat_roster.proofs.Totals.{total_map, total_none, total_two}
use Rattle.lw_core.proofs.Places.{mine}
use Rattle.seat_roster.proofs.Stretches.{at_seen, map_twice}
use Rattle.lw_core.proofs.Holders.{holders_agree}
use Rattle.lw_core.proofs.Guarding.{lawful_unheld}
use Rattle.lw_core.proofs.Touches.{guarded_same, some_mode}

module _ (lawful : ℕ → List ℕ → Type 0) (z : Size) where
  pub exclusion : (s : LwState) → Rule lawful z s → HoldersAgree z s
  exclusion s r l i j v u m n below apart at there held held' = holders_agree (map (mode_in l) s.views) i j (get_or s.words (state_at l) 0) m n apart
      (at_seen (mode_in l) s.views i v (Some m) at held) (at_seen (mode_in l) s.views j u (Some n) there held') (r.counts l below)

  pub unheld : (s : LwState) → Rule lawful z s → UnheldAreLawful lawful z s
  unheld s r l below free = lawful_unheld (lawful l) (guarded s.words l) (map (hold_in l) s.views) (r.guarded l below)
      (subst (λ (x : List (Option Mode)). total is_exclusive x ≡ 0) (sym (map_twice mode_of_hold (hold_in l) s.views))
      (total_map is_exclusive (mode_in l) s.views ∙ total_none (λ (u : View). is_exclusive (mode_in l u)) s.views (λ i u at. none (mode_in l u) (free i u at))))
    where
      none : (o : Option Mode) → (o ≡ Some Exclusive → ⊥) → is_exclusive o ≡ 0
      none None h = refl
      none (Some Shared) h = refl
      none (Some Exclusive) h = absurd (h refl)

  pub last : (s : LwState) → Rule lawful z s → LastHoldsAlone s
  last s r i j v u apart at there zero_is all = by_number u.own refl
    where
      by_number : (o : Option ℕ) → u.own ≡ o → HoldsNothing u
      by_number None e = (mine lawful z s r j u there).unnumbered e
      by_number (Some p) e = let two = total_two count (map numbers_of s.views) i j (numbers_of v) (numbers_of u) apart (at_seen numbers_of s.views i v (numbers_of v) at refl) (at_seen numbers_of s.views j u (numbers_of u) there refl) in
          let counted : total count (map numbers_of s.views) ≡ get_or s.words 0 0 = r.roster.counted in
          let up : get_or s.words 0 0 ≡ v.drawn + 1 = (r.roster.drawer i (numbers_of v) (at_seen numbers_of s.views i v (numbers_of v) at refl) zero_is).up_to in
          let one : one_if v.own ≡ 1 = ap one_if zero_is in let other : one_if u.own ≡ 1 = ap one_if e in absurd (omega arith)

  pub stand : WordsStand lawful z
  stand s t id holder l k v r e below at held apart_from = subst (λ (x : LwState). guarded x.words l ≡ guarded s.words l) (sym e.is) (by_kind k e.range e.allowed)
    where
      agree : (m n : Mode) (u : View) → id ≢ holder → get_elem? s.views id ≡ maybe.some u → mode_in l v ≡ Some m → mode_in l u ≡ Some n → Conflicts m n → ⊥
      agree m n u apart there mine other = exclusion s r l holder id v u m n below apart at there mine other

      conflict : (m : Mode) → Conflicts m Exclusive
      conflict Shared = tt
      conflict Exclusive = tt

      -- nobody who steps here holds the lock exclusively
      nobody : mode_in l e.view ≡ Some Exclusive → ⊥
      nobody mine = dite (ℕ_discrete id holder)
          (λ is. let same : e.view ≡ v = maybe.some-injective e.view v (sym e.at ∙ (ap (get_elem? s.views) is ∙ at)) in
          let shared : mode_in l v ≡ Some Shared = apart_from is in let exclusive : mode_in l v ≡ Some Exclusive = ap (mode_in l) (sym same) ∙ mine in absurd (cc))
          (λ apart. let is = some_mode (mode_in l v) held in agree is.0 Exclusive e.view apart e.at is.1 mine (conflict is.0))

      own : ℕ
      own = number_of e.view.own

      by_kind : (k : LwStep) → IsInRange z k → Allowed lawful k e.view → guarded (set s.words (word_of z own k) (becomes k (get_or s.words (word_of z own k) 0))) l ≡ guarded s.words l
      by_kind (kind.Guard i j guard.Load) inside ok = ap (λ (x : List ℕ). guarded x l) (set-get_or s.words (guard_at i j) 0)
      by_kind (kind.Guard i j o) inside ok = let few = ok.0 in let x : ℕ = guard_becomes o (get_or s.words (guard_at i j) 0) in dite (ℕ_discrete l i)
          (λ is. absurd (nobody (ap (λ (y : ℕ). mode_in y e.view) is ∙ ok.2)))
          (λ ne. guarded_same (set s.words (guard_at i j) x) s.words l (λ y few. get_or-set_other s.words (guard_at i j) (guard_at l y) x 0 (λ same. ne (omega arith))))
      by_kind k inside ok = guarded_same (set s.words (word_of z own k) _) s.words l (λ j few. get_or-set_other s.words (word_of z own k) (guard_at l j) _ 0 (λ e. omega arith))
