-- The barriers to which a seat is attached, and the phases that it knows.
use Rattle.std.proofs.Common.{◌≡◌, ◌≢◌, ℕ, ◌≤◌, eqb, Bool, true, false, cond, List, [], ◌∷◌, Option, None, Some, refl, sym, ap, ◌∙◌, arith, eq-eqb, ne_eqb, eqb-true}
use Rattle.wait_core.specs.declared.view.PartyView.{PartyView}
use Rattle.wait_core.specs.Jobs.{away_from, at_phase}
use Rattle.wait_core.specs.Parties.{phase_of, Reattached}
use Rattle.wait_core.specs.Barriers.{is_from}

-- where a seat attached
pub attached_here : (b ph : ℕ) (l : List (ℕ × ℕ)) → phase_of ((b, ph) ∷ l) b ≡ Some ph
attached_here b ph l = ap (λ (t : Bool). cond t (Some ph) (phase_of l b)) (eq-eqb b b refl)

pub attached_else : (b ph c : ℕ) (l : List (ℕ × ℕ)) → c ≢ b → phase_of ((b, ph) ∷ l) c ≡ phase_of l c
attached_else b ph c l ne = ap (λ (t : Bool). cond t (Some ph) (phase_of l c)) (ne_eqb b c (λ e. ne (sym e)))

-- and where it left
pub away_here : (b : ℕ) (l : List (ℕ × ℕ)) → phase_of (away_from b l) b ≡ None
away_here b [] = refl
away_here b (a ∷ l) = by_bar (eqb a.0 b) refl (away_here b l)
  where
    by_bar : (t : Bool) → eqb a.0 b ≡ t → phase_of (away_from b l) b ≡ None → phase_of (cond t (away_from b l) (a ∷ away_from b l)) b ≡ None
    by_bar true e rest = rest
    by_bar false e rest = ap (λ (t : Bool). cond t (Some a.1) (phase_of (away_from b l) b)) e ∙ rest

pub away_else : (b c : ℕ) (l : List (ℕ × ℕ)) → c ≢ b → phase_of (away_from b l) c ≡ phase_of l c
away_else b c [] ne = refl
away_else b c (a ∷ l) ne = by_bar (eqb a.0 b) refl (away_else b c l ne)
  where
    by_bar : (t : Bool) → eqb a.0 b ≡ t → phase_of (away_from b l) c ≡ phase_of l c → phase_of (cond t (away_from b l) (a ∷ away_from b l)) c ≡ cond (eqb a.0 c) (Some a.1) (phase_of l c)
    by_bar true e rest = rest ∙ sym (ap (λ (t : Bool). cond t (Some a.1) (phase_of l c)) (ne_eqb a.0 c (λ h. let is = eqb-true a.0 b e in ne (sym h ∙ is))))
    by_bar false e rest = ap (λ (o : Option ℕ). cond (eqb a.0 c) (Some a.1) o) rest

-- where it goes on to another phase
pub moved_else : (b ph c : ℕ) (l : List (ℕ × ℕ)) → c ≢ b → phase_of (at_phase b ph l) c ≡ phase_of l c
moved_else b ph c l ne = attached_else b ph c (away_from b l) ne ∙ away_else b c l ne

module _ {C : Type 0} (v : PartyView C) (b : ℕ) where
  pub attached_after : (ph : ℕ) → Reattached v (record v { attached = (b, ph) ∷ v.attached }) b (Some ph)
  attached_after ph = record { client = refl; proc = refl; elections = refl; there = attached_here b ph v.attached; elsewhere = λ c ne. attached_else b ph c v.attached ne }

  pub moved_after : (ph : ℕ) → Reattached v (record v { attached = at_phase b ph v.attached }) b (Some ph)
  moved_after ph = record { client = refl; proc = refl; elections = refl; there = attached_here b ph (away_from b v.attached); elsewhere = λ c ne. moved_else b ph c v.attached ne }

  pub away_after : Reattached v (record v { attached = away_from b v.attached }) b None
  away_after = record { client = refl; proc = refl; elections = refl; there = away_here b v.attached; elsewhere = λ c ne. away_else b c v.attached ne }

pub some_is : (f g : ℕ) → Some f ≡ Some g → f ≡ g
some_is f g e = cc

pub none_isnt : (f : ℕ) → None ≡ Some f → ⊥
none_isnt f e = cc

-- WAITING. Where a seat waits: nowhere, there from this phase, or elsewhere
abbrev pub Waited : Type 0
Waited = Option (ℕ × ℕ)

abbrev pub waited : ℕ → ℕ → Waited
waited b ph = Some (b, ph)

abbrev bar_of : Waited → ℕ
bar_of None = 0
bar_of (Some w) = w.0

abbrev phase_from : Waited → ℕ
phase_from None = 0
phase_from (Some w) = w.1

pub same_waited : (a f b g : ℕ) → waited a f ≡ waited b g → (a ≡ b) × (f ≡ g)
same_waited a f b g e = (ap bar_of e, ap phase_from e)

pub none_waited : (a g : ℕ) → None ≡ waited a g → ⊥
none_waited a g e = cc

pub waits_none : (b ph : ℕ) (o : Waited) → o ≡ None → is_from b ph o ≡ 0
waits_none b ph o e = ap (is_from b ph) e

pub waits_here : (b ph : ℕ) (o : Waited) → o ≡ waited b ph → is_from b ph o ≡ 1
waits_here b ph o e = ap (is_from b ph) e ∙ ((λ i. cond {A = ℕ} (eq-eqb b b refl i) (cond {A = ℕ} (eqb ph ph) 1 0) 0) ∙ (λ i. cond {A = ℕ} (eq-eqb ph ph refl i) 1 0))

pub waits_else : (b ph c g : ℕ) (o : Waited) → o ≡ waited c g → c ≢ b → is_from b ph o ≡ 0
waits_else b ph c g o e ne = ap (is_from b ph) e ∙ (λ i. cond {A = ℕ} (ne_eqb c b ne i) (cond {A = ℕ} (eqb g ph) 1 0) 0)

pub waits_before : (b ph g : ℕ) (o : Waited) → o ≡ waited b g → g ≢ ph → is_from b ph o ≡ 0
waits_before b ph g o e ne = ap (is_from b ph) e ∙ ((λ i. cond {A = ℕ} (eq-eqb b b refl i) (cond {A = ℕ} (eqb g ph) 1 0) 0) ∙ (λ i. cond {A = ℕ} (ne_eqb g ph ne i) 1 0))

pub waiting_is : (b ph : ℕ) (o : Waited) → 1 ≤ is_from b ph o → o ≡ waited b ph
waiting_is b ph None some = absurd (omega arith)
waiting_is b ph (Some w) some = by_bar (eqb w.0 b) refl (eqb w.1 ph) refl some
  where
    by_bar : (s : Bool) → eqb w.0 b ≡ s → (t : Bool) → eqb w.1 ph ≡ t → 1 ≤ cond {A = ℕ} s (cond {A = ℕ} t 1 0) 0 → Some w ≡ Some (b, ph)
    by_bar true e true e' some = λ i. Some (eqb-true w.0 b e i, eqb-true w.1 ph e' i)
    by_bar true e false e' some = absurd (omega arith)
    by_bar false e t e' some = absurd (omega arith)

pub waits_most : (b ph : ℕ) (o : Waited) → is_from b ph o ≤ 1
waits_most b ph None = omega arith
waits_most b ph (Some w) = by_bar (eqb w.0 b) (eqb w.1 ph)
  where
    by_bar : (s t : Bool) → cond {A = ℕ} s (cond {A = ℕ} t 1 0) 0 ≤ 1
    by_bar true true = omega arith
    by_bar true false = omega arith
    by_bar false t = omega arith
