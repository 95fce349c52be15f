-- How a condition's list is taken, changed and sent home, by the steps that stand in the seat's view.
use Rattle.std.specs.Prelude.{◌≡◌, ◌⊎◌, ℕ, ◌<◌, Bool, List, [], ◌∷◌, ◌++◌, Option, None, Some, ⊤}
use Rattle.wait_core.specs.declared.step.Spot.{Spot}
use Rattle.wait_core.specs.declared.step.Spot.TheVariants.{Cv}
use Rattle.wait_core.specs.declared.step.Call.{Call}
use Rattle.wait_core.specs.declared.step.Call.TheVariants as call
use Rattle.wait_core.specs.declared.step.WaitStep.{WaitStep}
use Rattle.wait_core.specs.declared.step.WaitStep.TheVariants.{Sload, Sset, Mload, Byte, Take, Spin, Free}
use Rattle.wait_core.specs.declared.view.Frame.TheVariants.{Taking}
use Rattle.wait_core.specs.declared.view.Job.{Job}
use Rattle.wait_core.specs.declared.view.Made.{Made}
use Rattle.wait_core.specs.declared.view.Size.{Size}
use Rattle.wait_core.specs.declared.view.WaitView.{WaitView}
use Rattle.wait_core.specs.Jobs.{resumed}
use Rattle.wait_core.specs.Machine.{Place, Allowed, MayBegin, entered, made, made_with, top}
use Rattle.wait_core.specs.Seats.{SeatView}

-- the view of a seat that stands at the place p after more steps, and has this target and heeds its signal or not: nothing else changed
abbrev pub stands : {C : Type 0} → WaitView C → Place → Option ℕ → Bool → List Made → WaitView C
stands v p target heeds more = record v { place = p; steps = v.steps ++ more; target = target; heeds = heeds }

-- the seat with this list in hand
abbrev pub with_items : {C : Type 0} → SeatView C → List ℕ → SeatView C
with_items s list = record s { list = list }

abbrev pub head_of : List ℕ → Option ℕ
head_of [] = None
head_of (q ∷ rest) = Some q

-- where a seat with this target takes a spin word, with which a call may begin
abbrev pub entering : Option Call → Option ℕ → Place → Place
entering None target p = p
entering (Some c) target p = entered target c p

-- A seat may take the spin word of c for this job; a call may begin with that
abbrev pub MayTakeFor : {C : Type 0} → Size → ℕ → Option Call → Job → WaitView C → Type 0
MayTakeFor z c begins j v = Allowed z (Take (Cv c) begins) v × (top (entering begins v.target v.place) ≡ Some (Taking j))

-- The step looks at the spin word x, which somebody has: it loads it, or swaps it and finds it taken
abbrev pub IsSpin : Spot → WaitStep → ℕ → Type 0
IsSpin x (Spin y) n = y ≡ x
IsSpin x (Take y None) n = (y ≡ x) × (n ≡ 1)
IsSpin x (Take y (Some b)) n = ⊥
IsSpin x k n = ⊥

abbrev pub OnlySpins : Spot → List Made → Type 0
OnlySpins x [] = ⊤
OnlySpins x (m ∷ more) = IsSpin x m.step m.found × OnlySpins x more

-- The spin word x was taken, and the list was found so: at the first step, or where somebody had it after some more
abbrev pub Takes : Spot → Option Call → List ℕ → List Made → Type 0
Takes x begins found more = (more ≡ made_with (Take x begins) 0 found ∷ [])
    ⊎ ((spins : List Made) × (more ≡ made (Take x begins) 1 ∷ spins ++ made_with (Take x None) 0 found ∷ []) × OnlySpins x spins)

-- the list of c was found so, and was left so; then the target was this
pub record Visits (c : ℕ) (begins : Option Call) (found left : List ℕ) (target : Option ℕ) (more : List Made) : Type 0 where
  pub took : List Made
  pub word : ℕ
  pub split : more ≡ took ++ made_with (Free (Cv c) target) word left ∷ []
  pub takes : Takes (Cv c) begins found took

-- The latch of q was found set; or it was stored, and q was found not to sleep; or it was stored, and q was woken
abbrev pub SetsLatch : ℕ → List Made → Type 0
SetsLatch q more = (more ≡ made (Sload q (Some (call.Set q))) 1 ∷ [])
    ⊎ ((n : ℕ) × (more ≡ made (Sload q (Some (call.Set q))) 0 ∷ made (Sset q) n ∷ made (Mload q) 0 ∷ []))
    ⊎ ((n m : ℕ) × (more ≡ made (Sload q (Some (call.Set q))) 0 ∷ made (Sset q) n ∷ made (Mload q) 1 ∷ made (Byte q) m ∷ []))

-- the latch of this backend was set, if there is one
abbrev pub Wakes : Option ℕ → List Made → Type 0
Wakes None more = more ≡ []
Wakes (Some q) more = SetsLatch q more

abbrev pub after_wake : Option ℕ → Place → Place
after_wake None p = p
after_wake (Some q) p = resumed p

-- whose latch a seat sets that stands here: a backend of the table that it popped, or nobody
abbrev pub MayWakeNow : ℕ → Option ℕ → Place → Type 0
MayWakeNow procs None p = ⊤
MayWakeNow procs (Some q) p = (q < procs) × MayBegin (call.Set q) p

-- the list of c was found so, and was left so; after that this backend was woken, if there is one
pub record Rouses (c : ℕ) (begins : Option Call) (found left : List ℕ) (target woken : Option ℕ) (more : List Made) : Type 0 where
  pub visit : List Made
  pub sets : List Made
  pub split : more ≡ visit ++ sets
  pub visits : Visits c begins found left target visit
  pub wakes : Wakes woken sets
