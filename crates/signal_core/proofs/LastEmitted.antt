-- What the last seat knows: nobody else has emitted.
use Rattle.std.proofs.Common.{◌≡◌, ◌≢◌, ℕ, ◌+◌, ◌≤◌, eqb, eqb-true, Bool, true, false, cond, [], length, map, get_or, Option, None, Some, refl, sym, ap, ◌∙◌, subst, arith}
use mathlib.Core.Logic.{dite}
use native.Mathlib.Decide.{ℕ_discrete}
use mathlib.Core.Option as maybe
use lib.ListN.{get_elem?}
use Rattle.atomic_table.proofs.Lists.{at_map}
use Rattle.seat_roster.specs.Totals.{total}
use Rattle.seat_roster.specs.Roster.{one_if, count}
use Rattle.seat_roster.proofs.Totals.{total_some, total_two}
use Rattle.seat_roster.proofs.Stretches.{from_seen}
use Rattle.signal_core.specs.declared.view.Emission.{Emission}
use Rattle.signal_core.specs.declared.view.About.{About}
use Rattle.signal_core.specs.declared.view.SigView.{SigView}
use Rattle.signal_core.specs.Machine.{SigState}
use Rattle.signal_core.specs.Seating.{Stance, numbers_of, stance_of}
use Rattle.signal_core.specs.Places.{under_way, counts, emits, any}
use Rattle.signal_core.specs.Rule.{Rule}
use Rattle.signal_core.specs.Promises.{EmitsWhatItAbsorbed}

module _ (shows : ℕ → ℕ → Type 0) (z : About) (s : SigState) (r : Rule shows z s) where
  -- nobody else has a number, and so nobody else has emitted
  alone : (id j : ℕ) (v : SigView) (u : Stance) → get_elem? s.views id ≡ maybe.some v → v.own ≡ Some 0 → length v.taken ≡ v.drawn → j ≢ id → get_elem? (map stance_of s.views) j ≡ maybe.some u → (u.place ≡ None) × (u.slot ≡ None) × (u.emissions ≡ [])
  alone id j v u at zero_is all apart there = by_number u.own refl
    where
      f : (w : SigView) × (get_elem? s.views j ≡ maybe.some w) × (stance_of w ≡ u)
      f = from_seen stance_of s.views j u there

      by_number : (o : Option ℕ) → u.own ≡ o → (u.place ≡ None) × (u.slot ≡ None) × (u.emissions ≡ [])
      by_number None e = r.places.unnumbered j u there e
      by_number (Some p) e = let two = total_two count (map numbers_of s.views) id j (numbers_of v) (numbers_of f.0) apart (at_map numbers_of s.views id v at) (at_map numbers_of s.views j f.0 f.1) in
          let counted : total count (map numbers_of s.views) ≡ get_or s.words 0 0 = r.roster.counted in
          let up : get_or s.words 0 0 ≡ v.drawn + 1 = (r.roster.drawer id (numbers_of v) (at_map numbers_of s.views id v at) zero_is).up_to in
          let one : one_if v.own ≡ 1 = ap one_if zero_is in let other : one_if f.0.own ≡ 1 = ap one_if (ap (λ (c : Stance). c.own) f.2 ∙ e) in absurd (omega arith)

  of_kind : (e : Emission) (k : ℕ) → 1 ≤ counts k any e → e.kind ≡ k
  of_kind e k some = by_case (eqb e.kind k) refl some
    where
      by_case : (b : Bool) → eqb e.kind k ≡ b → 1 ≤ cond b 1 0 → e.kind ≡ k
      by_case true is some = eqb-true e.kind k is
      by_case false is some = absurd (omega arith)

  pub last_emitted : (id : ℕ) (v : SigView) → get_elem? s.views id ≡ maybe.some v → EmitsWhatItAbsorbed shows v
  last_emitted id v at zero_is idle_is all k some =
      let a = total_some (emits 0 k any) (map stance_of s.views) (r.absorbed id k v at some) in dite (ℕ_discrete a.0 id)
      (λ same. let is : stance_of v ≡ a.1 = maybe.some-injective _ _ (sym (at_map stance_of s.views id v at) ∙ (ap (λ (i : ℕ). get_elem? (map stance_of s.views) i) (sym same) ∙ a.2)) in
      let sum : emits 0 k any (stance_of v) ≡ emits 0 k any a.1 = ap (emits 0 k any) is in let none : under_way 0 k v.place ≡ 0 = ap (under_way 0 k) idle_is in
      let b = total_some (counts k any) v.emissions (let c = a.3 in omega arith) in let kind = of_kind b.1 k b.3 in
      record { at = b.0; emission = b.1; here = b.2; of_kind = kind; shown = subst (λ (c : ℕ). shows c b.1.number) kind (r.shown.numbered id b.0 (stance_of v) b.1 (at_map stance_of s.views id v at) b.2).1 })
      (λ apart. absurd (let n = alone id a.0 v a.1 at zero_is all apart a.2 in let c : under_way 0 k a.1.place ≡ 0 = ap (under_way 0 k) n.0 in let d : total (counts k any) a.1.emissions ≡ 0 = ap (total (counts k any)) n.2 in let e = a.3 in omega arith))
