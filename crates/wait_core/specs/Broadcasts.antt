-- Broadcasts over a run: the first take, the sentinel, and who has left the list since.
use Rattle.std.specs.Prelude.{◌≡◌, ◌⊎◌, ℕ, ◌≤◌, List, ◌∷◌, None, Some, map}
use mathlib.Core.Option as maybe
use lib.ListN.{get_elem?}
use Rattle.wait_core.specs.declared.view.Frame.TheVariants.{Holding}
use Rattle.wait_core.specs.declared.view.Job.TheVariants.{Broadcast}
use Rattle.wait_core.specs.declared.view.Record.{Record}
use Rattle.wait_core.specs.declared.view.WaitView.{WaitView}
use Rattle.wait_core.specs.Machine.{WaitState, Place}
use Rattle.wait_core.specs.Stances.{stance_of, pops_at, times_on, order_on}

module _ {C : Type 0} where
  -- how often p is on the list of c
  abbrev pub listed_on : ℕ → ℕ → WaitState C → ℕ
  listed_on p c s = times_on p c s.homes (map stance_of s.views)

  -- q is on that list behind p
  abbrev pub StandsBehind : ℕ → ℕ → ℕ → WaitState C → Type 0
  StandsBehind q p c s = 1 ≤ order_on p q c s.homes (map stance_of s.views)

  -- the seat id, of the backend q, is at the first take of a broadcast on c: it found this list, and hasn't freed it yet
  pub record AtFirstTake (id q c : ℕ) (list : List ℕ) (s : WaitState C) : Type 0 where
    pub view : WaitView C
    pub at : get_elem? s.views id ≡ maybe.some view
    pub own : view.own ≡ Some q
    pub found : Record
    pub rest : Place
    pub place : view.place ≡ Holding (Broadcast c) list found ∷ rest

  -- p was on the list of c before this event of the seat id and isn't any more: it left by itself and has no target since, or the seat has popped it
  pub record TakesOff (p c : ℕ) (s : WaitState C) (id : ℕ) (t : WaitState C) : Type 0 where
    pub was : 1 ≤ listed_on p c s
    pub gone : listed_on p c t ≡ 0
    pub view : WaitView C
    pub at : get_elem? t.views id ≡ maybe.some view
    pub by : ((view.own ≡ Some p) × (view.target ≡ None)) ⊎ (pops_at view.place ≡ Some p)
