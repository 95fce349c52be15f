-- What a call on latches read, by the steps that stand in its seat's view.
use Rattle.std.specs.Prelude.{◌≡◌, ◌⊎◌, ℕ, zero, suc, List, [], ◌∷◌, ◌++◌, Option, None, Some}
use Rattle.latch.specs.declared.wait.Woke.{Woke}
use Rattle.latch.specs.declared.wait.Woke.TheVariants.{LatchSet, Shutdown}
use Rattle.wait_core.specs.declared.step.Until.{Until}
use Rattle.wait_core.specs.declared.step.Until.TheVariants.{Latch, LatchOrShutdown}
use Rattle.wait_core.specs.declared.step.Call.{Call}
use Rattle.wait_core.specs.declared.step.Call.TheVariants as call
use Rattle.wait_core.specs.declared.step.WaitStep.{WaitStep}
use Rattle.wait_core.specs.declared.step.WaitStep.TheVariants.{Sload, Sset, Mstore, Mload, Byte, Look, Drain, Shload, Shstore}
use Rattle.wait_core.specs.declared.view.Made.{Made}
use Rattle.wait_core.specs.declared.view.Size.{Size}
use Rattle.wait_core.specs.declared.view.WaitView.{WaitView}
use Rattle.wait_core.specs.Jobs.{resumed}
use Rattle.wait_core.specs.Machine.{made, Place, next}

-- the view after more steps: nothing else changed
abbrev pub went : {C : Type 0} → WaitView C → Place → List Made → WaitView C
went v p more = record v { place = p; steps = v.steps ++ more }

abbrev pub later : {C : Type 0} → WaitView C → List Made → WaitView C
later v more = went v v.place more

-- the same of a call that ended: a program that has it inside goes on
abbrev pub ended : {C : Type 0} → WaitView C → List Made → WaitView C
ended v more = went v (resumed v.place) more

-- among the steps there is a load of the latch of p that found n
pub record ReadLatch (p n : ℕ) (more : List Made) : Type 0 where
  pub before : List Made
  pub begins : Option Call
  pub then : List Made
  pub split : more ≡ before ++ made (Sload p begins) n ∷ then

-- among the steps there is a load of the shutdown word that found n
pub record ReadShutdown (n : ℕ) (more : List Made) : Type 0 where
  pub before : List Made
  pub begins : Option Call
  pub then : List Made
  pub split : more ≡ before ++ made (Shload begins) n ∷ then

-- The call that sets the latch of q found it set; or set it and found that q may not sleep; or set it, found that q may sleep, and stored its wake byte
pub record HasSet {C : Type 0} (z : Size) (q : ℕ) (v w : WaitView C) : Type 0 where
  pub stepped : (w ≡ next z (Sload q (Some (call.Set q))) v 1)
      ⊎ ((n : ℕ) × (w ≡ next z (Mload q) (next z (Sset q) (next z (Sload q (Some (call.Set q))) v 0) n) 0))
      ⊎ ((n m : ℕ) × (w ≡ next z (Byte q) (next z (Mload q) (next z (Sset q) (next z (Sload q (Some (call.Set q))) v 0) n) 1) m))

-- the stores of the wake bytes of the backends below n, each of which found something
abbrev pub ByteSteps : ℕ → List Made → Type 0
ByteSteps zero more = more ≡ []
ByteSteps (suc n) more = (less : List Made) × (m : ℕ) × (more ≡ less ++ made (Byte n) m ∷ []) × ByteSteps n less

-- the steps of a shutdown of so many backends: the shutdown word, and then each wake byte
pub record ShutSteps (procs : ℕ) (more : List Made) : Type 0 where
  pub found : ℕ
  pub bytes : List Made
  pub split : more ≡ made (Shstore (Some call.Shut)) found ∷ bytes
  pub each : ByteSteps procs bytes

-- A step of a wait of this kind that begins no call. It reads a word that p waits for, or says whether p sleeps; it changes no latch, and no word of another backend. The shutdown word is looked at only in a wait that a shutdown ends
abbrev pub IsOfWait : ℕ → Until → WaitStep → Type 0
IsOfWait p u (Sload q None) = q ≡ p
IsOfWait p u (Sload q (Some c)) = ⊥
IsOfWait p u (Shload None) = u ≡ LatchOrShutdown
IsOfWait p u (Shload (Some c)) = ⊥
IsOfWait p u (Mstore may) = Unit {0}
IsOfWait p u Look = Unit {0}
IsOfWait p u Drain = Unit {0}
IsOfWait p u k = ⊥

-- all of the steps are such
abbrev pub OnlyWaits : ℕ → Until → List Made → Type 0
OnlyWaits p u [] = Unit {0}
OnlyWaits p u (m ∷ more) = IsOfWait p u m.step × OnlyWaits p u more

-- the steps of a wait with which this call begins: the first is a load of the own latch, and no other call is made inside
pub record BeginsWait (p : ℕ) (begins : Call) (u : Until) (more : List Made) : Type 0 where
  pub found : ℕ
  pub then : List Made
  pub split : more ≡ made (Sload p (Some begins)) found ∷ then
  pub only : OnlyWaits p u then

-- the steps of a wait that is a call of its own
abbrev pub WaitSteps : ℕ → Until → List Made → Type 0
WaitSteps p u more = BeginsWait p (call.Wait u) u more

-- a call that begins with a wait of this kind: the wait itself, or a sleep on the target
abbrev pub IsWaitOf : Until → Option ℕ → Call → Type 0
IsWaitOf u target (call.Wait w) = w ≡ u
IsWaitOf u target (call.Sleep c) = (u ≡ Latch) × (target ≡ Some c)
IsWaitOf u target c = ⊥

-- what ended a wait was read in it: the latch is looked at first
abbrev pub WasRead : ℕ → Woke → List Made → Type 0
WasRead p LatchSet more = ReadLatch p 1 more
WasRead p Shutdown more = ReadLatch p 0 more × ReadShutdown 1 more
