-- A wait for a lock's variable: where it may begin, how its parts end, and what the answer was found by.
use Rattle.std.specs.Prelude.{◌≡◌, ◌≢◌, ◌⊎◌, ℕ, ◌+◌, ◌<◌, ◌^◌, Bool, true, false, [], ◌∷◌, Option, None, Some, ⊤}
use Rattle.proc_table.specs.declared.Mode.TheVariants.{Shared}
use Rattle.lw_core.specs.declared.step.Call.{Call}
use Rattle.lw_core.specs.declared.step.Call.TheVariants as call
use Rattle.lw_core.specs.declared.step.LwStep.TheVariants.{Peek, VarLoad}
use Rattle.lw_core.specs.declared.view.Frame.TheVariants.{TakingList, Queueing, Allowing, Peeking, VarUnqueued, VarQueued, GivingBack}
use Rattle.lw_core.specs.declared.view.View.{View}
use Rattle.lw_core.specs.declared.view.Want.TheVariants.{UntilFree}
use Rattle.lw_core.specs.Machine.{Place, mode_in, on_conflict, on_outcome, outer, resumed}
use Rattle.lw_core.specs.Words.{is_free}
use Rattle.lwlock.specs.Calls.{FoundInCall, WentWith}
use Rattle.lwlock_variable.specs.declared.VarWait.{VarWait}
use Rattle.lwlock_variable.specs.declared.VarWait.TheVariants.{Free, Changed}
use Rattle.lwlock_variable.specs.declared.rounds.Round.{Round}
use Rattle.lwlock_variable.specs.declared.rounds.Round.TheVariants as round

abbrev pub OnFree : VarWait → (ℕ → Type 0) → Type 0
OnFree (Free seen) P = P seen
OnFree (Changed value) P = ⊤

abbrev pub OnChanged : VarWait → (ℕ → Type 0) → Type 0
OnChanged (Free seen) P = ⊤
OnChanged (Changed value) P = P value

-- a look at the lock l begins a wait for another value than `old`, or goes on in it
abbrev pub BeginsComparing : ℕ → ℕ → Option Call → View → Type 0
BeginsComparing l old (Some (call.WaitForVar k older)) v = (k ≡ l) × (older ≡ old) × (v.place ≡ []) × (mode_in l v ≡ None)
BeginsComparing l old (Some c) v = ⊥
BeginsComparing l old None v = v.place ≡ Peeking l old ∷ outer v.place

-- what is behind the look
abbrev pub behind : Option Call → Place → Place
behind (Some (call.WaitForVar l old)) p = VarUnqueued l old ∷ p
behind b p = outer p

-- the look that found this outcome found an exclusive holder too
abbrev pub conflicted : VarWait → Bool
conflicted (Free seen) = false
conflicted (Changed value) = true

-- after a look: where it found an outcome, and where it found none
abbrev pub goes_on : Option VarWait → ℕ → Place → Place
goes_on (Some answer) surplus p = on_outcome (conflicted answer) surplus p
goes_on None surplus p = on_conflict p

-- a look of the call found a word that has no exclusive holder
abbrev pub FoundFree : ℕ → ℕ → View → View → Type 0
FoundFree l seen v w = (is_free Shared seen ≡ true) × ((begins : Option Call) × FoundInCall v w (Peek l begins) seen)

-- the call read the variable, and it isn't the old value
abbrev pub FoundChanged : ℕ → ℕ → ℕ → View → View → Type 0
FoundChanged l old value v w = (value ≢ old) × FoundInCall v w (VarLoad l) value

-- the answer was found in the call
abbrev pub WaitEnds : ℕ → ℕ → VarWait → View → View → Type 0
WaitEnds l old (Free seen) v w = FoundFree l seen v w
WaitEnds l old (Changed value) v w = FoundChanged l old value v w

abbrev pub Finds : ℕ → ℕ → Option VarWait → View → View → Type 0
Finds l old (Some answer) v w = WaitEnds l old answer v w
Finds l old None v w = ⊤

-- to queue for the variable, set RELEASE_OK and look again
abbrev pub queues : ℕ → ℕ → Place
queues l old = TakingList l ∷ Queueing l UntilFree ∷ Allowing l ∷ Peeking l old ∷ VarQueued l old ∷ []

-- a round found an outcome and left the list, or slept and is to look again
abbrev pub RoundEnds : ℕ → ℕ → Round → View → View → Type 0
RoundEnds l old (round.Ended answer more) v w = WentWith (resumed (v.surplus + more) (GivingBack ∷ [])) (v.surplus + more) v w × ((more ≡ 0) ⊎ (v.surplus + more < 2 ^ 32))
RoundEnds l old (round.Woken more) v w = WentWith (Peeking l old ∷ VarUnqueued l old ∷ []) (v.surplus + more) v w × (v.surplus + more < 2 ^ 32)

abbrev pub RoundAnswers : ℕ → ℕ → Round → View → View → Type 0
RoundAnswers l old (round.Ended answer more) v w = WaitEnds l old answer v w
RoundAnswers l old (round.Woken more) v w = ⊤
