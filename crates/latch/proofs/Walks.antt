-- The view of a seat along the steps of a call.
use Rattle.std.proofs.Common.{◌≡◌, ℕ, ◌==◌, ◌≤◌, Bool, true, false, cond, List, [], ◌∷◌, ◌++◌, append-nil, append_assoc, Some, refl, sym, ap, ◌∙◌, subst, arith}
use Rattle.wait_core.specs.declared.step.Until.{Until}
use Rattle.wait_core.specs.declared.step.WaitStep.{WaitStep}
use Rattle.wait_core.specs.declared.view.Frame.{Frame}
use Rattle.wait_core.specs.declared.view.Frame.TheVariants.{Looking, Asleep, Retracting, Stopping}
use Rattle.wait_core.specs.declared.view.Made.{Made}
use Rattle.wait_core.specs.declared.view.Size.{Size}
use Rattle.wait_core.specs.declared.view.WaitView.{WaitView}
use Rattle.wait_core.specs.Jobs.{resumed}
use Rattle.wait_core.specs.Machine.{Place, top, outer, made, place_after, looked, next}
use Rattle.wait_core.specs.declared.step.WaitStep.TheVariants.{Sload, Shload}
use Rattle.latch.specs.declared.wait.Woke.{Woke}
use Rattle.latch.specs.declared.wait.Woke.TheVariants.{LatchSet, Shutdown}
use Rattle.latch.specs.Reads.{went, later, ended, OnlyWaits, ReadLatch, ReadShutdown, WasRead}

-- where a seat stands that looks at its wake byte
abbrev pub watches : Until → Bool → Frame
watches u true = Asleep u
watches u false = Looking u

-- where a seat stands that has stored the wake bytes below n
abbrev pub stopping : ℕ → ℕ → Place → Place
stopping procs n p = cond (n == procs) (resumed p) (Stopping n ∷ p)

-- a place with this innermost frame
pub at_top : (p : Place) (f : Frame) → top p ≡ Some f → p ≡ f ∷ outer p
at_top [] f e = absurd (cc)
at_top (g ∷ p) f e = ap (λ (x : Frame). x ∷ p) (cc)

-- a step that moves its seat from place to place, and no more
abbrev pub Moves : Type 0 → Size → WaitStep → Type 0
Moves C z k = (y : WaitView C) (i : ℕ) → next z k y i ≡ went y (place_after z k i y.place) (made k i ∷ [])

module _ {C : Type 0} where
  -- before the first step, where the innermost frame is f
  pub went_nil : (v : WaitView C) (f : Frame) → top v.place ≡ Some f → v ≡ went v (f ∷ outer v.place) []
  went_nil v f e = ap (λ (p : Place). record v { place = p }) (at_top v.place f e) ∙ ap (λ (l : List Made). record v { place = f ∷ outer v.place; steps = l }) (sym (append-nil v.steps))

  -- one step more, which found m
  pub went_on : (z : Size) (v w x : WaitView C) (p : Place) (more : List Made) (k : WaitStep) (n m : ℕ) → Moves C z k → w ≡ went v p more → x ≡ next z k w n → n ≡ m → x ≡ went v (place_after z k m p) (more ++ made k m ∷ [])
  went_on z v w x p more k n m moves was is found =
      is ∙ (ap (λ (y : WaitView C). next z k y n) was ∙ (ap (λ (i : ℕ). next z k (went v p more) i) found ∙ (moves (went v p more) m ∙ ap (λ (l : List Made). record v { place = place_after z k m p; steps = l }) (append_assoc v.steps more (made k m ∷ [])))))

  -- the steps of an inner part
  pub went_through : (v w x : WaitView C) (p q : Place) (more rest : List Made) → w ≡ went v p more → x ≡ went w q rest → x ≡ went v q (more ++ rest)
  went_through v w x p q more rest was is = is ∙ (ap (λ (y : WaitView C). went y q rest) was ∙ ap (λ (l : List Made). record v { place = q; steps = l }) (append_assoc v.steps more rest))

-- a word that is at most 1 and is not 1
pub clear_or_set : (n : ℕ) → n ≤ 1 → (n ≡ 1 → ⊥) → n ≡ 0
clear_or_set n most clear = omega (arith, most, clear)

pub found_set : (u : Until) (b : Bool) (p : Place) → looked false (watches u b ∷ p) ≡ Retracting u ∷ p
found_set u true p = refl
found_set u false p = refl

pub found_clear : (u : Until) (b : Bool) (p : Place) → looked true (watches u b ∷ p) ≡ watches u true ∷ p
found_clear u true p = refl
found_clear u false p = refl

-- what a part of the steps read, all of them read
pub latch_later : (p n : ℕ) (more rest : List Made) → ReadLatch p n rest → ReadLatch p n (more ++ rest)
latch_later p n more rest r = record { before = more ++ r.before; begins = r.begins; then = r.then; split = ap (λ (l : List Made). more ++ l) r.split ∙ sym (append_assoc more r.before (made (Sload p r.begins) n ∷ r.then)) }

pub shutdown_later : (n : ℕ) (more rest : List Made) → ReadShutdown n rest → ReadShutdown n (more ++ rest)
shutdown_later n more rest r = record { before = more ++ r.before; begins = r.begins; then = r.then; split = ap (λ (l : List Made). more ++ l) r.split ∙ sym (append_assoc more r.before (made (Shload r.begins) n ∷ r.then)) }

pub read_later : (p : ℕ) (w : Woke) (more rest : List Made) → WasRead p w rest → WasRead p w (more ++ rest)
read_later p LatchSet more rest r = latch_later p 1 more rest r
read_later p Shutdown more rest r = (latch_later p 0 more rest r.0, shutdown_later 1 more rest r.1)

-- steps of a wait after steps of a wait
pub only-append : (p : ℕ) (u : Until) (more rest : List Made) → OnlyWaits p u more → OnlyWaits p u rest → OnlyWaits p u (more ++ rest)
only-append p u [] rest a b = b
only-append p u (m ∷ more) rest a b = (a.0, only-append p u more rest a.1 b)

-- where nothing is behind it, a call ends where it began
pub ends_idle : (p : Place) → p ≡ [] → resumed p ≡ p
ends_idle p is = subst (λ (q : Place). resumed q ≡ q) (sym is) refl

pub ended_idle : {C : Type 0} (v w : WaitView C) (more : List Made) → v.place ≡ [] → w ≡ ended v more → w ≡ later v more
ended_idle v w more idle is = is ∙ ap (λ (p : Place). went v p more) (ends_idle v.place idle)
