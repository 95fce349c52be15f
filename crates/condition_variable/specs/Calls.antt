-- What each call on conditions does, by the steps that stand in the view of its seat, whose number is `own`.
use Rattle.std.specs.Prelude.{◌≡◌, ◌≢◌, ℕ, zero, suc, ◌==◌, true, false, cond, List, [], ◌∷◌, ◌++◌, Option, None, Some}
use Rattle.wait_core.specs.declared.step.Call.{Call}
use Rattle.wait_core.specs.declared.step.Call.TheVariants as call
use Rattle.wait_core.specs.declared.step.Until.TheVariants.{Latch}
use Rattle.wait_core.specs.declared.step.WaitStep.TheVariants.{Reset}
use Rattle.wait_core.specs.declared.view.Made.{Made}
use Rattle.wait_core.specs.Lists.{is_empty, is_listed, rest_of, without}
use Rattle.wait_core.specs.Machine.{made}
use Rattle.latch.specs.Reads.{BeginsWait, ReadLatch}
use Rattle.condition_variable.specs.Visits.{Visits, Rouses, head_of}
use Rattle.condition_variable.specs.declared.sleeping.Slept.{Slept}
use Rattle.condition_variable.specs.declared.sleeping.Slept.TheVariants.{Prepared, Signalled}

-- CANCEL. The backend left the list of its target t, which was found so, and has no target
abbrev pub Cancels : ℕ → ℕ → Call → List ℕ → List Made → Type 0
Cancels own t begins found more = Visits t (Some begins) found (without own found) None more

-- Where there was a target, the call began with leaving its list. What comes next begins the call only where there was none
abbrev pub Leaves : ℕ → Option ℕ → Call → Option Call → List Made → Type 0
Leaves own None begins next more = (more ≡ []) × (next ≡ Some begins)
Leaves own (Some t) begins next more = (next ≡ None) × ((found : List ℕ) × Cancels own t begins found more)

-- PREPARE. The backend left the list of its target, if it had one, and went to the end of that of c, which is its target
pub record Lists (own c : ℕ) (target : Option ℕ) (begins : Call) (more : List Made) : Type 0 where
  pub leave : List Made
  pub join : List Made
  pub next : Option Call
  pub found : List ℕ
  pub split : more ≡ leave ++ join
  pub leaves : Leaves own target begins next leave
  pub joins : Visits c next found (found ++ own ∷ []) (Some c) join

-- a call that makes c the target: of two, that which only prepares, and a sleep on a condition that isn't the target
abbrev pub IsListing : ℕ → Option ℕ → Call → Type 0
IsListing c target (call.Prepare d) = d ≡ c
IsListing c target (call.Sleep d) = (d ≡ c) × (target ≢ Some c)
IsListing c target b = ⊥

-- SIGNAL. The head of the list of c was popped, and its latch was set. Nobody was on the list exactly where nobody was woken
pub record Signals (c : ℕ) (target woken : Option ℕ) (more : List Made) : Type 0 where
  pub found : List ℕ
  pub head : woken ≡ head_of found
  pub rouses : Rouses c (Some (call.Signal c)) found (rest_of found) target woken more

-- BROADCAST. Where others remain the backend goes behind them, as the sentinel
abbrev pub signed : ℕ → List ℕ → List ℕ
signed own found = cond (is_empty (rest_of found)) [] (rest_of found ++ own ∷ [])

-- the popped backend, unless it is the sentinel
abbrev pub other : ℕ → Option ℕ → Option ℕ
other own None = None
other own (Some q) = cond (q == own) None (Some q)

-- a round: the head is popped, and woken unless it is the sentinel
abbrev pub Round : ℕ → ℕ → List ℕ → List Made → Type 0
Round own c found more = Rouses c None found (rest_of found) None (other own (head_of found)) more

-- n rounds, each of which left the sentinel on the list
abbrev pub Rounds : ℕ → ℕ → ℕ → List Made → Type 0
Rounds own c zero more = more ≡ []
Rounds own c (suc n) more = (before round : List Made) × (found : List ℕ) × (more ≡ before ++ round) × Rounds own c n before × Round own c found round × (is_listed own (rest_of found) ≡ true)

-- rounds up to the first that left the sentinel off the list
pub record UntilOff (own c : ℕ) (more : List Made) : Type 0 where
  pub count : ℕ
  pub before : List Made
  pub last : List Made
  pub found : List ℕ
  pub split : more ≡ before ++ last
  pub rounds : Rounds own c count before
  pub round : Round own c found last
  pub off : is_listed own (rest_of found) ≡ false

abbrev pub GoesOn : ℕ → ℕ → List ℕ → List Made → Type 0
GoesOn own c [] more = more ≡ []
GoesOn own c (q ∷ others) more = UntilOff own c more

-- The head of the list of c was popped and woken, and the backend went behind the others where any remained: then it made rounds until it was off the list
pub record RousesAll (own c : ℕ) (begins : Option Call) (more : List Made) : Type 0 where
  pub first : List Made
  pub rounds : List Made
  pub found : List ℕ
  pub split : more ≡ first ++ rounds
  pub rouses : Rouses c begins found (signed own found) None (head_of found) first
  pub goes : GoesOn own c (rest_of found) rounds

-- the backend left the list of its target, if it had one, and woke all who were on that of c
pub record Broadcasts (own c : ℕ) (target : Option ℕ) (more : List Made) : Type 0 where
  pub leave : List Made
  pub all : List Made
  pub next : Option Call
  pub split : more ≡ leave ++ all
  pub leaves : Leaves own target (call.Broadcast c) next leave
  pub rouses : RousesAll own c next all

-- SLEEP. After a signal the backend goes to the end of the list again
abbrev pub relisted : ℕ → List ℕ → List ℕ
relisted own found = cond (is_listed own found) found (found ++ own ∷ [])

-- The backend waited until its latch was set, reset it, and looked at the list, which was found so
pub record Awakes (own c : ℕ) (begins : Call) (found : List ℕ) (more : List Made) : Type 0 where
  pub wait : List Made
  pub look : List Made
  pub word : ℕ
  pub split : more ≡ wait ++ made (Reset None) word ∷ look
  pub waits : BeginsWait own begins Latch wait
  pub set : ReadLatch own 1 wait
  pub looks : Visits c None found (relisted own found) (Some c) look

-- the first wait begins the sleep, and each further one is a wait inside
abbrev pub wait_begins : ℕ → ℕ → Call
wait_begins c zero = call.Sleep c
wait_begins c (suc n) = call.Wait Latch

-- n times it was still on the list
abbrev pub StillListed : ℕ → ℕ → ℕ → List Made → Type 0
StillListed own c zero more = more ≡ []
StillListed own c (suc n) more = (before round : List Made) × (found : List ℕ) × (more ≡ before ++ round) × StillListed own c n before × Awakes own c (wait_begins c n) found round × (is_listed own found ≡ true)

-- up to the first time that it was off it
pub record SleepsUntilOff (own c : ℕ) (more : List Made) : Type 0 where
  pub count : ℕ
  pub before : List Made
  pub last : List Made
  pub found : List ℕ
  pub split : more ≡ before ++ last
  pub still : StillListed own c count before
  pub awakes : Awakes own c (wait_begins c count) found last
  pub off : is_listed own found ≡ false

-- where c wasn't the target it only prepared; else it slept
abbrev pub Sleeps : ℕ → ℕ → Option ℕ → Slept → List Made → Type 0
Sleeps own c target Prepared more = (target ≢ Some c) × Lists own c target (call.Sleep c) more
Sleeps own c target Signalled more = (target ≡ Some c) × SleepsUntilOff own c more
