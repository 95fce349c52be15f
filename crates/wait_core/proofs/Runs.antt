-- Each state of a run meets the rule.
use Rattle.std.proofs.Common.{◌≡◌, ℕ, ◌<◌, List, [], ◌∷◌, ◌++◌, get_or, set, Some, refl, sym, subst}
use mathlib.Core.Option as maybe
use lib.ListN.{get_elem?}
use Rattle.wait_core.specs.declared.party.ClientOp.{ClientOp}
use Rattle.wait_core.specs.declared.view.PartyView.{PartyView}
use Rattle.wait_core.specs.declared.view.Size.{Size}
use Rattle.wait_core.specs.declared.view.WaitView.{WaitView}
use Rattle.wait_core.specs.Meanings.{Meanings}
use Rattle.wait_core.specs.Ops.{op_at, op_gives}
use Rattle.wait_core.specs.Parties.{with_client, newcomer, joined, left_over, IsStep, IsDraw, IsJoin}
use Rattle.wait_core.specs.Machine.{WaitState}
use Rattle.wait_core.specs.Rule.{Rule}
use Rattle.wait_core.specs.Runs.{Deed, machine, client, draw, seat, join, Deeds, Steps, Runs}
use Rattle.wait_core.specs.Promises.{IsReached}
use Rattle.wait_core.proofs.Openings.{opening_kept}
use Rattle.wait_core.proofs.Arriving.{Owes}
use Rattle.wait_core.proofs.RuleKept.{machine_kept}
use Rattle.wait_core.proofs.SeatsKept.{client_kept, draw_kept, seat_kept, join_kept}

module _ {C X : Type 0} (does : X → ClientOp) (may : PartyView C → X → Type 0) (then : PartyView C → X → ℕ → C) (first spent : C) (both : C → C → C) (means : Meanings C) (z : Size) (phase count : ℕ)
    (owes : Owes means) (inside : (v : PartyView C) (x : X) → may v x → op_at (does x) < count)
    (step_keeps : (words : List ℕ) (views : List (PartyView C)) (phases : List ℕ) (id : ℕ) (v : PartyView C) (x : X) → means.holds words views phases → IsStep views phases id v → may v x
    → let n = get_or words (op_at (does x)) 0 in means.holds (set words (op_at (does x)) (op_gives (does x) n)) (set views id (with_client v (then v x n))) phases)
    (draw_keeps : (words : List ℕ) (views : List (PartyView C)) (phases : List ℕ) (proc : ℕ) → means.holds words views phases → IsDraw views phases proc → means.holds words (views ++ newcomer first (Some proc) ∷ []) phases)
    (join_keeps : (words : List ℕ) (views : List (PartyView C)) (phases : List ℕ) (id other : ℕ) (v w : PartyView C) → means.holds words views phases → IsJoin views phases id v other w → means.holds words (set (set views id (joined both v w)) other (left_over spent)) phases) where
  deed_holds : (s t : WaitState C) (id : ℕ) (v : WaitView C) (p : ℕ) (d : Deed X) → Rule means z phase count s → get_elem? s.views id ≡ maybe.some v → v.own ≡ Some p → Deeds does may then first spent both means z s id v d t → Rule means z phase count t
  deed_holds s t id v p (machine k) r at own h = subst (Rule means z phase count) (sym h.2) (machine_kept means z phase count s r id v p at own owes k h.0 h.1)
  deed_holds s t id v p (client x) r at own h = subst (Rule means z phase count) (sym h.2)
      (client_kept means z phase count s r id v at p own h.0 (op_at (does x)) (op_gives (does x)) (then (Rattle.wait_core.specs.Seating.party_of v) x) (inside _ x h.1) (λ words views phases kept is. step_keeps words views phases id _ x kept is h.1))
  deed_holds s t id v p draw r at own h = subst (Rule means z phase count) (sym h.3) (draw_kept means z phase count s r id v at h.0 h.1 h.2 _ refl)
  deed_holds s t id v p seat r at own h = subst (Rule means z phase count) (sym h.1) (seat_kept means z phase count s r id v at h.0.0 h.0.1 first draw_keeps)
  deed_holds s t id v p (join other) r at own h = subst (Rule means z phase count) (sym h.1.6) (join_kept means z phase count s r id v at p own h.0 other h.1.0 h.1.2 h.1.1 h.1.3 h.1.4 h.1.5 both spent (λ words views phases kept is. join_keeps words views phases id other _ _ kept is))

  pub step_holds : (s t : WaitState C) (e : ℕ × Deed X) → Rule means z phase count s → Steps does may then first spent both means z s e t → Rule means z phase count t
  step_holds s t e r h = deed_holds s t e.0 h.0 h.1 e.1 r h.2 h.3 h.4

  pub run_holds : (es : List (ℕ × Deed X)) (s t : WaitState C) → Rule means z phase count s → Runs does may then first spent both means z s es t → Rule means z phase count t
  run_holds [] s t r h = subst (Rule means z phase count) (sym h) r
  run_holds (e ∷ es) s t r h = run_holds es h.0 t (step_holds s h.0 e r h.1) h.2

  -- so each state that is reached from an opening does
  pub reached_holds : (opens : ℕ → ℕ) (t : WaitState C) → IsReached does may then first spent both opens means count z phase t → Rule means z phase count t
  reached_holds opens t h = run_holds h.1 h.0 t (opening_kept means z phase count opens first h.0 h.2) h.3
