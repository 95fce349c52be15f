-- Which calls a set makes, by the steps that stand in its seat's view.
use Rattle.std.specs.Prelude.{◌≡◌, ◌⊎◌, ℕ, zero, suc, List, [], ◌∷◌, ◌++◌, Some}
use Rattle.wait_core.specs.declared.step.Until.{Until}
use Rattle.wait_core.specs.declared.step.Until.TheVariants as until
use Rattle.wait_core.specs.declared.step.Call.TheVariants as call
use Rattle.wait_core.specs.declared.step.WaitStep.{WaitStep}
use Rattle.wait_core.specs.declared.step.WaitStep.TheVariants.{Sload, Shload}
use Rattle.wait_core.specs.declared.view.Made.{Made}
use Rattle.wait_core.specs.Machine.{made}
use Rattle.latch.specs.declared.wait.Woke.{Woke}
use Rattle.latch.specs.declared.wait.Woke.TheVariants as woke
use Rattle.latch.specs.Reads.{ReadLatch, WaitSteps, WasRead}
use Rattle.wait_event_set.specs.declared.set.Event.{Event}
use Rattle.wait_event_set.specs.declared.set.Event.TheVariants.{Latch, Shutdown}
use Rattle.wait_event_set.specs.declared.set.Member.{Member}
use Rattle.wait_event_set.specs.Members.{FirstAt, NoneSuch}
use Rattle.wait_event_set.specs.Occurs.{NotReady}

-- the load of the event's word that is a call of its own
abbrev pub load_of : ℕ → Event → WaitStep
load_of p Latch = Sload p (Some call.IsSet)
load_of p Shutdown = Shload (Some call.IsShut)

-- a look at the event: one such load where the set has the event, and else no step
abbrev pub LooksAt : ℕ → Event → List Member → List Made → Type 0
LooksAt p e ms more = (NoneSuch e ms × (more ≡ [])) ⊎ ((at n : ℕ) × FirstAt e ms at × (more ≡ made (load_of p e) n ∷ []))

-- the steps of a look at the set: at the latch, and then, where no latch was ready, at the shutdown word
pub record LooksOnce (p : ℕ) (ms : List Member) (more : List Made) : Type 0 where
  pub first : List Made
  pub then : List Made
  pub split : more ≡ first ++ then
  pub latch : LooksAt p Latch ms first
  pub shutdown : (ReadLatch p 1 first × (then ≡ [])) ⊎ (NotReady p Latch ms first × LooksAt p Shutdown ms then)

-- a wait of this kind that ended so
abbrev pub WaitEnded : ℕ → Until → Woke → List Made → Type 0
WaitEnded p u w more = WaitSteps p u more × WasRead p w more

-- the look at the shutdown word that follows a wait
abbrev pub looked_again : ℕ → Made
looked_again n = made (Shload (Some call.IsShut)) n

-- so many waits that the latch ended, each followed by one look at the shutdown word, which read 0
abbrev pub WokenInVain : ℕ → ℕ → List Made → Type 0
WokenInVain p zero more = more ≡ []
WokenInVain p (suc n) more = (before wait : List Made) × WokenInVain p n before × WaitEnded p until.LatchOrShutdown woke.LatchSet wait × (more ≡ before ++ (wait ++ looked_again 0 ∷ []))

-- a wait that a shutdown ended, or one that the latch ended and after which a look at the shutdown word read 1
abbrev pub SawShutdown : ℕ → List Made → Type 0
SawShutdown p more = WaitEnded p until.LatchOrShutdown woke.Shutdown more ⊎ ((wait : List Made) × WaitEnded p until.LatchOrShutdown woke.LatchSet wait × (more ≡ wait ++ looked_again 1 ∷ []))

-- the steps of a wait for a shutdown alone: whenever the latch ends a wait in vain, the next begins
pub record WaitsForShutdown (p : ℕ) (more : List Made) : Type 0 where
  pub rounds : ℕ
  pub vain : List Made
  pub last : List Made
  pub split : more ≡ vain ++ last
  pub woken : WokenInVain p rounds vain
  pub saw : SawShutdown p last

-- a wait for the set is one for the latch alone where the set has no shutdown member
abbrev pub IsWaitFor : List Member → Until → Type 0
IsWaitFor ms until.Latch = NoneSuch Shutdown ms
IsWaitFor ms until.LatchOrShutdown = (at : ℕ) × FirstAt Shutdown ms at

-- the steps of a wait for the set: one wait where the set has a latch, and else a wait for a shutdown alone
abbrev pub SetWaits : ℕ → List Member → List Made → Type 0
SetWaits p ms more = ((at : ℕ) × (u : Until) × FirstAt Latch ms at × IsWaitFor ms u × WaitSteps p u more) ⊎ (NoneSuch Latch ms × WaitsForShutdown p more)
