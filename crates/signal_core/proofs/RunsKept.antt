-- Each event of a run keeps the rule.
use Rattle.std.proofs.Common.{◌≡◌, ℕ, List, [], ◌∷◌, None, Some, sym, subst, refl, ◌∙◌}
use Rattle.signal_core.specs.declared.view.About.{About}
use Rattle.signal_core.specs.declared.view.SigView.{SigView}
use Rattle.signal_core.specs.Machine.{SigState}
use Rattle.signal_core.specs.Rule.{Rule}
use Rattle.signal_core.specs.Runs.{Deed, machine, draw, seat, join, Deeds, Steps, Runs}
use Rattle.signal_core.specs.Promises.{IsReached}
use Rattle.signal_core.proofs.Openings.{opening_kept}
use Rattle.signal_core.proofs.RuleKept.{machine_kept}
use Rattle.signal_core.proofs.SeatsKept.{draw_kept, seat_kept, join_kept}
use mathlib.Core.Option as maybe
use lib.ListN.{get_elem?}

module _ (shows : ℕ → ℕ → Type 0) (z : About) where
  deed_kept : (s t : SigState) → Rule shows z s → (id : ℕ) (v : SigView) (p : ℕ) → get_elem? s.views id ≡ maybe.some v → v.own ≡ Some p → (d : Deed) → Deeds shows z s id v d t → Rule shows z t
  deed_kept s t r id v p at own (machine x) h = subst (Rule shows z) (sym h.1) (machine_kept shows z s r id v p at own x h.0)
  deed_kept s t r id v p at own draw h = subst (Rule shows z) (sym h.3) (draw_kept shows z s r id v at h.0 h.1 h.2 _ refl)
  deed_kept s t r id v p at own seat h = subst (Rule shows z) (sym h.1) (seat_kept shows z s r id v at h.0.0 h.0.1)
  deed_kept s t r id v p at own (join other) h = subst (Rule shows z) (sym h.6) (join_kept shows z s r id v at (λ none. let e : None ≡ Some p = sym none ∙ own in absurd (cc)) other h.0 h.2 h.1 h.3 h.4 h.5)

  pub step_holds : (s t : SigState) (e : ℕ × Deed) → Rule shows z s → Steps shows z s e t → Rule shows z t
  step_holds s t e r h = deed_kept s t r e.0 h.0 h.1 h.2 h.3 e.1 h.4

  pub run_holds : (es : List (ℕ × Deed)) (s t : SigState) → Rule shows z s → Runs shows z s es t → Rule shows z t
  run_holds [] s t r h = subst (Rule shows z) (sym h) r
  run_holds (e ∷ es) s t r h = run_holds es h.0 t (step_holds s h.0 e r h.1) h.2

  -- so each state that is reached from an opening meets it
  pub reached_holds : (t : SigState) → IsReached shows z t → Rule shows z t
  reached_holds t h = run_holds h.1 h.0 t (opening_kept shows z h.0 h.2) h.3
