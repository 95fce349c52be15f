-- What calls read, one after the other.
use Rattle.std.proofs.Common.{◌≡◌, ℕ, List, ◌∷◌, ◌++◌, append_assoc, Option, None, Some, MatchOption, refl, sym, ap, ◌∙◌, subst, ⊎_elim}
use Rattle.wait_core.specs.declared.step.WaitStep.TheVariants.{Sload}
use Rattle.wait_core.specs.declared.view.Made.{Made}
use Rattle.wait_core.specs.declared.view.WaitView.{WaitView}
use Rattle.wait_core.specs.Machine.{made}
use Rattle.latch.specs.Reads.{went, later, ReadLatch}
use Rattle.latch.proofs.Walks.{went_through, shutdown_later}
use Rattle.wait_event_set.specs.declared.set.Event.{Event}
use Rattle.wait_event_set.specs.declared.set.Event.TheVariants.{Latch, Shutdown}
use Rattle.wait_event_set.specs.declared.set.Member.{Member}
use Rattle.wait_event_set.specs.declared.wait.Occurred.{Occurred}
use Rattle.wait_event_set.specs.Occurs.{Reports, Occurs, ReadEvent, NotReady, NothingReady}

pub later_again : {C : Type 0} (v w x : WaitView C) (more rest : List Made) → w ≡ later v more → x ≡ later w rest → x ≡ later v (more ++ rest)
later_again v w x more rest was is = went_through v w x v.place v.place more rest was (is ∙ ap (λ (y : WaitView _). went w y.place rest) was)

latch_sooner : (p n : ℕ) (more rest : List Made) → ReadLatch p n more → ReadLatch p n (more ++ rest)
latch_sooner p n more rest r = record { before = r.before; begins = r.begins; then = r.then ++ rest; split = ap (λ (l : List Made). l ++ rest) r.split ∙ append_assoc r.before (made (Sload p r.begins) n ∷ r.then) rest }

-- where neither event is ready, no member is
pub nothing_ready : (p : ℕ) (ms : List Member) (more rest : List Made) → NotReady p Latch ms more → NotReady p Shutdown ms rest → NothingReady p ms (more ++ rest)
nothing_ready p ms more rest a b at m here = by_event m.event refl
  where
    by_event : (e : Event) → m.event ≡ e → ReadEvent p m.event 0 (more ++ rest)
    by_event Latch is = subst (λ (e : Event). ReadEvent p e 0 (more ++ rest)) (sym is) (⊎_elim (λ none. absurd (none at m here is)) (λ r. latch_sooner p 0 more rest r) a)
    by_event Shutdown is = subst (λ (e : Event). ReadEvent p e 0 (more ++ rest)) (sym is) (⊎_elim (λ none. absurd (none at m here is)) (λ r. shutdown_later 0 more rest r) b)

-- the latch wasn't ready: what is reported of the shutdown word is reported of the set
pub polled : (p : ℕ) (ms : List Member) (more rest : List Made) (r : Option Occurred) → NotReady p Latch ms more → MatchOption r (NotReady p Shutdown ms rest) (λ o. Reports Shutdown ms o × ReadEvent p Shutdown 1 rest)
    → MatchOption r (NothingReady p ms (more ++ rest)) (λ o. Occurs p ms o (more ++ rest))
polled p ms more rest None a b = nothing_ready p ms more rest a b
polled p ms more rest (Some o) a b = record { event = Shutdown; reports = b.0; read = shutdown_later 1 more rest b.1 }
